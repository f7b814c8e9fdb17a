-- Places in an answer, and which of them lie above an error (GraphQL October 2021, 7.1.2, `path`).
use Rattle.std.specs.Prelude.{ℕ, pos, Bool, true, false, ◌&&◌, List, [], ◌∷◌, ◌++◌, map, Option, Some, None, codes, decimal, bytes_eq}
use Rattle.std.specs.List.{list_any, filter_map}
use Rattle.std.specs.Option.{option_and_then}
use Rattle.std.specs.Ordering.{int_eq}
use Rattle.std.specs.declared.result.Result.{Result}
use Rattle.std.specs.declared.result.Result.TheVariants.{Ok, Err}
use Rattle.gql_value.specs.declared.value.Value.{Value, out-Value}
use Rattle.gql_value.specs.declared.value.Value.TheOpen.{Value-F}
use Rattle.gql_value.specs.Json.{dotted}
use Rattle.schema_model.specs.Tables.{entry}
use Rattle.answer_model.specs.declared.step.Step.{Step}
use Rattle.answer_model.specs.declared.step.Step.TheVariants.{Key, Index}

-- the steps from `data` to a place in it
abbrev pub Path : Type 0
Path = List Step

-- a path further into lists
abbrev pub at_places : Path → List ℕ → Path
at_places path places = path ++ map Index places

-- a step as it is told: the response key itself, or the index in decimal digits
abbrev pub step_text : Step → List ℕ
step_text (Key key) = key
step_text (Index index) = decimal index

-- a path as it is told: `data`, and each step behind a dot
abbrev pub path_text : Path → List ℕ
path_text path = dotted (codes "data" ∷ map step_text path)

-- one more in front, or the earlier of two refusals
abbrev pub onto : {Y E : Type 0} → Result Y E → Result (List Y) E → Result (List Y) E
onto (Err e) more = Err e
onto (Ok y) (Ok more) = Ok (y ∷ more)
onto (Ok y) (Err e) = Err e

-- something for each of these, in order, or the first refusal
abbrev pub each : {X Y E : Type 0} → (X → Result Y E) → List X → Result (List Y) E
each f [] = Ok []
each f (x ∷ xs) = onto (f x) (each f xs)

-- ---- errors

-- a response key is a text in an error's path, an index a whole number
abbrev pub is_step : Step → Value-F Value → Bool
is_step (Key key) (Value-F.Text text) = bytes_eq key text
is_step (Index index) (Value-F.Int number) = int_eq (pos index) number
is_step _ _ = false

-- whether a path is the front of an error's, or all of it
abbrev pub begins : Path → List Value → Bool
begins [] steps = true
begins (step ∷ path) [] = false
begins (step ∷ path) (value ∷ steps) = is_step step (out-Value value) && begins path steps

-- the items of a value that is a list, and nothing for any other value
abbrev pub items_in : Value-F Value → Option (List Value)
items_in (Value-F.List items) = Some items
items_in _ = None

-- the members of a value that is an object, and nothing for any other value
abbrev pub members_in : Value-F Value → Option (List (List ℕ × Value))
members_in (Value-F.Obj members) = Some members
members_in _ = None

-- the path of an error, where the error is an object whose `path` is a list
abbrev pub error_path : Value → Option (List Value)
error_path error = option_and_then (λ path. items_in (out-Value path)) (option_and_then (λ members. entry members (codes "path")) (members_in (out-Value error)))

-- the paths of some errors, in a list
abbrev pub error_paths : Value-F Value → List (List Value)
error_paths (Value-F.List errors) = filter_map error_path errors
error_paths _ = []

-- whether some error has its path through a place, or to it
abbrev pub is_above_error : List (List Value) → Path → Bool
is_above_error errors path = list_any (begins path) errors
