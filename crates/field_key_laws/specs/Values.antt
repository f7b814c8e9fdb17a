-- Which values have one text, and which one sorted text.
use Rattle.std.specs.Prelude.{◌≡◌, ◌^◌, Bool, true, nat_lt, unsigned_abs}
use Rattle.std.specs.List.{list_all}
use Rattle.gql_value.specs.declared.value.Value.{Value, fold-Value, roll-Value}
use Rattle.gql_value.specs.declared.value.Value.TheOpen.{Value-F}
use Rattle.gql_value.specs.Text.{text_of}
use Rattle.gql_value.specs.Sorted.{by_name, sorted_text_of}

-- one level of a value: the members of an object in the order of the bytes of their names, of two with one name the last alone,
-- and anything else as it is
abbrev pub sorted_level : Value-F Value → Value-F Value
sorted_level (Value-F.Obj members) = Value-F.Obj (by_name members)
sorted_level level = level

-- a value with the members of each object, at every depth, in the order of the bytes of their names
abbrev pub sorted_value : Value → Value
sorted_value = fold-Value Value (λ level. roll-Value (sorted_level level))

-- one level of a value, where this is known of each value inside: a number is below 2^64 without its sign
abbrev pub numbers_at : Value-F Bool → Bool
numbers_at (Value-F.Int n) = nat_lt (unsigned_abs n) (2 ^ 64)
numbers_at (Value-F.List items) = list_all (λ item. item) items
numbers_at (Value-F.Obj members) = list_all (λ member. member.1) members
numbers_at level = true

-- each number in a value is below 2^64 without its sign, as each one that a program holds is
abbrev pub has_numbers : Value → Bool
has_numbers = fold-Value Bool numbers_at

-- equal texts come from equal values
abbrev pub TextsByValues : Type 0
TextsByValues = (value other : Value) → has_numbers value ≡ true → has_numbers other ≡ true → text_of value ≡ text_of other → value ≡ other

-- equal sorted texts come from values that are equal but for the order of members
abbrev pub SortedTextsByValues : Type 0
SortedTextsByValues = (value other : Value) → has_numbers value ≡ true → has_numbers other ≡ true → sorted_text_of value ≡ sorted_text_of other → sorted_value value ≡ sorted_value other

-- and such values have one sorted text
abbrev pub SortedTextsOfValues : Type 0
SortedTextsOfValues = (value other : Value) → sorted_value value ≡ sorted_value other → sorted_text_of value ≡ sorted_text_of other
