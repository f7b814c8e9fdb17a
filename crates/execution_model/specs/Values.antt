-- Values as they are made and taken apart here.
use Rattle.std.specs.Prelude.{ℕ, ℤ, ◌+◌, max, Bool, List, [], ◌∷◌, map, Option, Some, option_map, option_and_then}
use Rattle.std.specs.List.{fold}
use Rattle.gql_value.specs.declared.value.Value.{Value, fold-Value}
use Rattle.gql_value.specs.declared.value.Value.TheOpen.{Value-F}
use Rattle.gql_value.specs.declared.value.Value.TheViews.{roll-Value}

-- the value `null`
abbrev pub null_value : Value
null_value = roll-Value Value-F.Null

-- `true` or `false` as a value
abbrev pub bool_value : Bool → Value
bool_value b = roll-Value (Value-F.Bool b)

-- a whole number as a value
abbrev pub int_value : ℤ → Value
int_value n = roll-Value (Value-F.Int n)

-- a text as a value, by its bytes in UTF-8
abbrev pub text_value : List ℕ → Value
text_value text = roll-Value (Value-F.Text text)

-- a list of these items, in this order
abbrev pub list_value : List Value → Value
list_value items = roll-Value (Value-F.List items)

-- names with their values
abbrev pub Pairs : Type 0
Pairs = List (List ℕ × Value)

-- an object with these members, in this order
abbrev pub object_value : Pairs → Value
object_value members = roll-Value (Value-F.Obj members)

-- a list or an object nests one level more than the deepest of its parts, and anything else none
abbrev pub depth_step : Value-F ℕ → ℕ
depth_step (Value-F.List items) = fold max 0 items + 1
depth_step (Value-F.Obj members) = fold max 0 (map (λ m. m.1) members) + 1
depth_step _ = 0

-- how deep lists and objects nest in a value, `[]` and `{}` as one level each
abbrev pub depth : Value → ℕ
depth = fold-Value ℕ depth_step

-- all of these, where each is there
abbrev pub all_of : {X : Type 0} → List (Option X) → Option (List X)
all_of [] = Some []
all_of (x ∷ xs) = option_and_then (λ first. option_map (λ more. first ∷ more) (all_of xs)) x
