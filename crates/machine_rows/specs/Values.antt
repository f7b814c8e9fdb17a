-- JSON values, and what is found in them.
use Rattle.std.specs.Prelude.{ℕ, Bool, if◌then◌else◌, List, [], ◌∷◌, bytes_eq}
use Rattle.gql_value.specs.declared.value.Value.{Value}
use Rattle.gql_value.specs.declared.value.Value.TheOpen.{Value-F}
use Rattle.gql_value.specs.declared.value.Value.TheViews.{roll-Value}

-- the value null
abbrev pub null : Value
null = roll-Value Value-F.Null

-- true or false, as a value
abbrev pub truth : Bool → Value
truth value = roll-Value (Value-F.Bool value)

-- the text of these bytes, as a value
abbrev pub text : List ℕ → Value
text value = roll-Value (Value-F.Text value)

-- a list of these items
abbrev pub list : List Value → Value
list items = roll-Value (Value-F.List items)

-- an object with these members, in this order
abbrev pub object : List (List ℕ × Value) → Value
object members = roll-Value (Value-F.Obj members)

-- the members of an object; anything else has none
abbrev pub members_in : Value-F Value → List (List ℕ × Value)
members_in (Value-F.Obj members) = members
members_in _ = []

-- the bytes of a text; anything else has none
abbrev pub text_in : Value-F Value → List ℕ
text_in (Value-F.Text value) = value
text_in _ = []

-- the member of this name, and null where there is none
abbrev pub member_named : List ℕ → List (List ℕ × Value) → Value
member_named name [] = null
member_named name (member ∷ members) = if bytes_eq member.0 name then member.1 else member_named name members
