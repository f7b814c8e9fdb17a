-- Literals and arguments that are equal as trees, wherever they stand (GraphQL October 2021, 5.3.2).
use Rattle.std.specs.Prelude.{ℕ, Bool, true, false, ◌&&◌, ◌==◌, List, [], ◌∷◌, length, bytes_eq}
use Rattle.std.specs.List.{list_any, list_all}
use Rattle.gql_model.specs.declared.literal.Literal.{Literal, out-Literal}
use Rattle.gql_model.specs.declared.literal.LiteralValue.{LiteralValue, out-LiteralValue}
use Rattle.gql_model.specs.declared.literal.ObjectField.{ObjectField, out-ObjectField}
use Rattle.gql_model.specs.declared.literal.LiteralValue.TheOpen.{Literal-F, LiteralValue-F, ObjectField-F}
use Rattle.gql_model.specs.declared.literal.LiteralValue.TheFolds.{fold-Literal, fold-LiteralValue, fold-ObjectField}
use Rattle.gql_model.specs.declared.selection.Argument.{Argument}
use Rattle.schema_rules.specs.Subtypes.{same_bool}

-- which literals are the same as a given one
abbrev pub SameLiteral : Type 0
SameLiteral = Literal → Bool

-- which values of literals are the same as a given one
abbrev pub SameValue : Type 0
SameValue = LiteralValue → Bool

-- which fields of object literals are the same as a given one
abbrev pub SameField : Type 0
SameField = ObjectField → Bool

-- the value of a literal, one level of it: its kind, and the literals or fields in it
abbrev pub Open : Type 0
Open = LiteralValue-F LiteralValue Literal ObjectField

-- item by item, as many
abbrev pub all_same : {X : Type 0} → List (X → Bool) → List X → Bool
all_same [] [] = true
all_same (same ∷ more) (x ∷ xs) = same x && all_same more xs
all_same _ _ = false

-- the value is the variable of this name
abbrev pub is_variable : List ℕ → Open → Bool
is_variable name (LiteralValue-F.Variable other) = bytes_eq name other
is_variable name _ = false

-- integers are the same where their texts are
abbrev pub is_integer : List ℕ → Open → Bool
is_integer text (LiteralValue-F.Integer other number) = bytes_eq text other
is_integer text _ = false

-- strings are the same where they mean the same text, whether they are written as strings or as block strings
abbrev pub is_string : List ℕ → Open → Bool
is_string text (LiteralValue-F.String other) = bytes_eq text other
is_string text _ = false

-- the value is this Boolean
abbrev pub is_boolean : Bool → Open → Bool
is_boolean b (LiteralValue-F.Boolean other) = same_bool b other
is_boolean b _ = false

-- the value is `null`
abbrev pub is_null : Open → Bool
is_null LiteralValue-F.Null = true
is_null _ = false

-- the value is the enum value of this name
abbrev pub is_enum : List ℕ → Open → Bool
is_enum word (LiteralValue-F.Enum other) = bytes_eq word other
is_enum word _ = false

-- lists are the same where they have as many items and these are the same one by one
abbrev pub is_list : List SameLiteral → Open → Bool
is_list items (LiteralValue-F.List others) = all_same items others
is_list items _ = false

-- members in their order
abbrev pub is_object : List SameField → Open → Bool
is_object fields (LiteralValue-F.Object others) = all_same fields others
is_object fields _ = false

-- which values are the same as a value, where it is known of its items or fields which are the same as each
abbrev pub value_step : LiteralValue-F SameValue SameLiteral SameField → SameValue
value_step (LiteralValue-F.Variable name) other = is_variable name (out-LiteralValue other)
value_step (LiteralValue-F.Integer text number) other = is_integer text (out-LiteralValue other)
value_step (LiteralValue-F.String text) other = is_string text (out-LiteralValue other)
value_step (LiteralValue-F.Boolean b) other = is_boolean b (out-LiteralValue other)
value_step LiteralValue-F.Null other = is_null (out-LiteralValue other)
value_step (LiteralValue-F.Enum word) other = is_enum word (out-LiteralValue other)
value_step (LiteralValue-F.List items) other = is_list items (out-LiteralValue other)
value_step (LiteralValue-F.Object fields) other = is_object fields (out-LiteralValue other)

-- a literal is the same as others by its value alone: places don't matter
abbrev pub literal_step : Literal-F SameValue SameLiteral SameField → SameLiteral
literal_step literal other = literal.value (out-Literal other).value

-- a field of an object literal is the same as those that have its name and the same value
abbrev pub field_step : ObjectField-F SameValue SameLiteral SameField → SameField
field_step field other = bytes_eq field.name.text (out-ObjectField other).name.text && field.value (out-ObjectField other).value

-- whether two literals are the same tree
abbrev pub same_literal : Literal → SameLiteral
same_literal = fold-Literal SameValue SameLiteral SameField value_step literal_step field_step

-- whether the values of two literals are the same tree
abbrev pub same_value : LiteralValue → SameValue
same_value = fold-LiteralValue SameValue SameLiteral SameField value_step literal_step field_step

-- whether two fields of object literals have the same name and the same value
abbrev pub same_object_field : ObjectField → SameField
same_object_field = fold-ObjectField SameValue SameLiteral SameField value_step literal_step field_step

-- two arguments have the same name and the same value
abbrev pub same_argument : Argument → Argument → Bool
same_argument a b = bytes_eq a.name.text b.name.text && same_literal a.value b.value

-- one of these arguments is the same as a given one
abbrev pub has_argument : List Argument → Argument → Bool
has_argument others a = list_any (same_argument a) others

-- whether two lists have the same arguments, in any order, in each of which no name stands twice
abbrev pub same_arguments : List Argument → List Argument → Bool
same_arguments xs ys = (length xs == length ys) && list_all (has_argument ys) xs
