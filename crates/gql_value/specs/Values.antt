-- The value that JSON data is, where its numbers are whole (RFC 8259). It undoes `data_of` of `Json.antt`.
use Rattle.std.specs.Prelude.{ℕ, ℤ, pos, List, [], ◌∷◌}
use Rattle.serde_json.specs.Data.{Num, unsigned, negative, float, Data, null, boolean, number, string, array, object, Items, no_items, item, Members, no_members, member}
use Rattle.gql_value.specs.declared.value.Value.{Value}
use Rattle.gql_value.specs.declared.value.Value.TheOpen.{Value-F}
use Rattle.gql_value.specs.declared.value.Value.TheViews.{roll-Value}

-- names with their values
abbrev pub Pairs : Type 0
Pairs = List (List ℕ × Value)

-- a whole number as it is; a float is refused before its value is asked for, and counts as 0 here
abbrev pub integer_of : Num → ℤ
integer_of (unsigned n) = pos n
integer_of (negative n) = n
integer_of (float x) = pos 0

-- JSON data as a value, with all that is inside its arrays and objects
abbrev mutual
  -- the value that data is
  pub value_of : Data → Value
  value_of null = roll-Value Value-F.Null
  value_of (boolean b) = roll-Value (Value-F.Bool b)
  value_of (number n) = roll-Value (Value-F.Int (integer_of n))
  value_of (string s) = roll-Value (Value-F.Text s)
  value_of (array ds) = roll-Value (Value-F.List (values_of ds))
  value_of (object ms) = roll-Value (Value-F.Obj (pairs_of ms))

  -- the values of the items of an array
  pub values_of : Items → List Value
  values_of no_items = []
  values_of (item d ds) = value_of d ∷ values_of ds

  -- the names and values of the members of an object
  pub pairs_of : Members → Pairs
  pairs_of no_members = []
  pairs_of (member name d ms) = (name, value_of d) ∷ pairs_of ms

-- the names and values of an object's members; other data has none
abbrev pub pairs_in : Data → Pairs
pairs_in null = []
pairs_in (boolean b) = []
pairs_in (number n) = []
pairs_in (string s) = []
pairs_in (array ds) = []
pairs_in (object ms) = pairs_of ms
