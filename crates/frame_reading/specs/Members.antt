-- What is read of the members of a frame.
use Rattle.std.specs.Prelude.{ℕ, List, [], ◌++◌, codes, Option, Some, None, Result, Ok, Err, option_map}
use Rattle.serde_json.specs.Data.{Data, null, boolean, number, string, array, object}
use Rattle.gql_value.specs.Json.{not_whole, dotted}
use Rattle.gql_value.specs.Values.{Pairs, pairs_in}
use Rattle.machine_model.specs.declared.output.Refusal.{Refusal}
use Rattle.machine_model.specs.declared.output.Refusal.TheVariants.{E3, E11}

-- the text of a member that may be left out, or null in its place
abbrev pub text_if_given : Option Data → Option (Option (List ℕ))
text_if_given None = Some None
text_if_given (Some null) = Some None
text_if_given (Some (boolean b)) = None
text_if_given (Some (number n)) = None
text_if_given (Some (string s)) = Some (Some s)
text_if_given (Some (array ds)) = None
text_if_given (Some (object ms)) = None

-- an object that may be left out, or null in its place
abbrev pub object_if_given : Option Data → Option (Option Data)
object_if_given None = Some None
object_if_given (Some null) = Some None
object_if_given (Some (boolean b)) = None
object_if_given (Some (number n)) = None
object_if_given (Some (string s)) = None
object_if_given (Some (array ds)) = None
object_if_given (Some (object ms)) = Some (Some (object ms))

-- E3: what a member should be, or the refusal that names it
abbrev pub required : {X : Type 0} → List ℕ → Option X → Result X Refusal
required name (Some x) = Ok x
required name None = Err (E3 name)

-- E11: the path of a number that isn't whole begins at the frame
abbrev pub whole_pairs : Data → Option (List ℕ) → Result Pairs Refusal
whole_pairs given None = Ok (pairs_in given)
whole_pairs given (Some path) = Err (E11 (codes "variables." ++ path))

-- the values of variables, or the first number among them that isn't whole
abbrev pub variables_of : Option Data → Result Pairs Refusal
variables_of None = Ok []
variables_of (Some given) = whole_pairs given (option_map dotted (not_whole given))
