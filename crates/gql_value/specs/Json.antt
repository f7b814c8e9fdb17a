-- A value as JSON data, and the first number of JSON data that isn't whole.
use Rattle.std.specs.Prelude.{ℕ, ◌+◌, List, [], ◌∷◌, Bool, Option, None, Some, option_map, is_some, decimal, if◌then◌else◌}
use Rattle.std.specs.Option.{option_or}
use Rattle.std.specs.List.{join_with_byte}
use Rattle.serde_json.specs.Data.{Num, Data, null, boolean, number, string, array, object, Items, no_items, item, Members, no_members, member}
use Rattle.serde_json.specs.Find.{as_i64, of_integer}
use Rattle.serde_json.specs.View.{items_of}
use Rattle.gql_value.specs.declared.value.Value.{Value, fold-Value}
use Rattle.gql_value.specs.declared.value.Value.TheOpen.{Value-F}

-- names and data as the members of an object, in their order
abbrev pub members_of : List (List ℕ × Data) → Members
members_of [] = no_members
members_of (m ∷ ms) = member m.0 m.1 (members_of ms)

-- the data of one level, where each value inside is its data already
abbrev pub data_step : Value-F Data → Data
data_step Value-F.Null = null
data_step (Value-F.Bool b) = boolean b
data_step (Value-F.Int n) = number (of_integer n)
data_step (Value-F.Text s) = string s
data_step (Value-F.List ds) = array (items_of ds)
data_step (Value-F.Obj ms) = object (members_of ms)

-- the JSON data that a value is
abbrev pub data_of : Value → Data
data_of = fold-Value Data data_step

-- whether a number is whole, by serde_json's `as_i64`: it has 64 bits with its sign, and neither fraction nor exponent. So `1.0`, `1e2`, `-0` and `9223372036854775808` aren't whole
abbrev pub is_whole : Num → Bool
is_whole n = is_some (as_i64 n)

-- one more step in front, where some steps lead on from it
abbrev pub behind : List ℕ → Option (List (List ℕ)) → Option (List (List ℕ))
behind step = option_map (λ steps. step ∷ steps)

-- the steps to the first number that isn't whole, depth first: the index of an item from 0 on, the name of a member in the order of names
abbrev mutual
  -- from this data on
  pub not_whole : Data → Option (List (List ℕ))
  not_whole null = None
  not_whole (boolean b) = None
  not_whole (number n) = if is_whole n then None else Some []
  not_whole (string s) = None
  not_whole (array ds) = not_whole_from 0 ds
  not_whole (object ms) = not_whole_in ms

  -- from a list on, whose first item has this index
  pub not_whole_from : ℕ → Items → Option (List (List ℕ))
  not_whole_from at no_items = None
  not_whole_from at (item d ds) = option_or (behind (decimal at) (not_whole d)) (not_whole_from (at + 1) ds)

  -- from these members on
  pub not_whole_in : Members → Option (List (List ℕ))
  not_whole_in no_members = None
  not_whole_in (member name d ms) = option_or (behind name (not_whole d)) (not_whole_in ms)

-- steps with a dot, which is byte 46, between
abbrev pub dotted : List (List ℕ) → List ℕ
dotted = join_with_byte 46
