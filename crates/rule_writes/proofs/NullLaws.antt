-- A constant is no null at a Non-Null type (GraphQL October 2021, 3.12, Input Coercion).
use Rattle.std.proofs.Common.{◌≡◌, ℕ, List, [], ◌∷◌, sym, ap, subst, ◌∙◌, Bool, true, false, cond, bytes_eq, ◌||◌}
use Rattle.std.specs.Prelude.{ℤ, Option, None, Some, codes, ⊤, unwrap_or, map}
use Rattle.std.specs.Option.{option_map_or, option_and_then}
use Rattle.std.specs.Fmt.{signed_decimal}
use Rattle.gql_value.specs.declared.value.Value.{Value}
use Rattle.gql_value.specs.declared.value.Value.TheOpen.{Value-F}
use Rattle.gql_value.specs.declared.value.Value.TheViews.{out-roll-Value}
use Rattle.gql_model.specs.declared.literal.Literal.{Literal, out-Literal}
use Rattle.gql_model.specs.declared.literal.LiteralValue.{LiteralValue, out-LiteralValue}
use Rattle.gql_model.specs.declared.literal.ObjectField.{ObjectField}
use Rattle.gql_model.specs.declared.literal.LiteralValue.TheOpen.{LiteralValue-F}
use Rattle.gql_model.specs.declared.literal.LiteralValue.TheFolds.{fold_out-Literal, fold_out-LiteralValue, map-LiteralValue}
use Rattle.gql_model.specs.declared.type_ref.TypeRef.{TypeRef, out-TypeRef, map-TypeRef, fold_out-TypeRef}
use Rattle.gql_model.specs.declared.type_ref.TypeRef.TheOpen.{TypeRef-F}
use Rattle.schema_model.specs.declared.schema.Schema.{Schema}
use Rattle.schema_model.specs.declared.schema.InputValue.{InputValue}
use Rattle.schema_model.specs.Tables.{entry}
use Rattle.schema_rules.specs.TypeRefs.{is_non_null, named_type}
use Rattle.schema_defaults.specs.Fits.{takes_integer, takes_string, takes_boolean, takes_any}
use Rattle.execution_model.specs.declared.given.Given.{Given}
use Rattle.execution_model.specs.declared.given.Given.TheVariants.{Absent, Refused, Is}
use Rattle.execution_model.specs.Values.{Pairs, null_value, int_value, text_value, bool_value, list_value, object_value}
use Rattle.execution_model.specs.Scalars.{list_level, in_lists, value_if, whole_number, is_enum_value}
use Rattle.execution_model.specs.Inputs.{Defaults, Meaning, MemberMeaning, as_given, as_list, items_at, as_object_in, input_members, input_fields_named, members_as_given, free_object}
use Rattle.execution_model.specs.Literals.{value_step, literal_step, field_step, literal_meaning, value_meaning, object_field_meaning, list_in}
use Rattle.execution_model.specs.Defaults.{constant, value_given}
use Rattle.execution_model.specs.Arguments.{argument_default}
use Rattle.rule_writes.specs.Defaults.{is_null, null_level}

list_is : (items : List Value) → is_null (list_value items) ≡ false
list_is items = ap null_level (out-roll-Value (Value-F.List items))

object_is : (members : Pairs) → is_null (object_value members) ≡ false
object_is members = ap null_level (out-roll-Value (Value-F.Obj members))

text_is : (text : List ℕ) → is_null (text_value text) ≡ false
text_is text = ap null_level (out-roll-Value (Value-F.Text text))

int_is : (n : ℤ) → is_null (int_value n) ≡ false
int_is n = ap null_level (out-roll-Value (Value-F.Int n))

bool_is : (b : Bool) → is_null (bool_value b) ≡ false
bool_is b = ap null_level (out-roll-Value (Value-F.Bool b))

pub null_is : is_null null_value ≡ true
null_is = ap null_level (out-roll-Value Value-F.Null)

-- what is given is no null
abbrev IsNoNull : Given → Type 0
IsNoNull Absent = ⊤
IsNoNull Refused = ⊤
IsNoNull (Is value) = is_null value ≡ false

list_case : (value : Value) (level : TypeRef-F TypeRef) → is_null value ≡ false
    → is_null (list_level (map-TypeRef TypeRef (Value → Value) in_lists level) value) ≡ false
list_case value (TypeRef-F.Named name required) is = is
list_case value (TypeRef-F.List inner required) is = list_is (in_lists inner value ∷ [])

-- a value in lists of one is no null, where it was none
in_lists_no_null : (type : TypeRef) (value : Value) → is_null value ≡ false → is_null (in_lists type value) ≡ false
in_lists_no_null type value is =
    ap (λ (wrap : Value → Value). is_null (wrap value)) (fold_out-TypeRef (Value → Value) list_level type)
    ∙ list_case value (out-TypeRef type) is

taken_no_null : (takes : Bool) (type : TypeRef) (value : Value) → is_null value ≡ false → IsNoNull (as_given (value_if takes type value))
taken_no_null true type value is = in_lists_no_null type value is
taken_no_null false type value is = tt

whole_case : (n : ℤ) (text : List ℕ) (b : Bool) → is_null (cond b (text_value text) (int_value n)) ≡ false
whole_case n text true = text_is text
whole_case n text false = int_is n

items_no_null : (items : Option (List Value)) → IsNoNull (as_list items)
items_no_null None = tt
items_no_null (Some items) = list_is items

members_no_null : (type : TypeRef) (members : Option Pairs) → IsNoNull (as_object_in type members)
members_no_null type None = tt
members_no_null type (Some members) = in_lists_no_null type (object_value members) (object_is members)

named_case : (b : Bool) (items : Option (List Value)) → IsNoNull (cond b (as_list items) Refused)
named_case true items = items_no_null items
named_case false items = tt

list_no_null : (schema : Schema) (items : List Meaning) (level : TypeRef-F TypeRef) → IsNoNull (list_in schema items level)
list_no_null schema items (TypeRef-F.Named name required) = named_case (takes_any schema name) (items_at None items)
list_no_null schema items (TypeRef-F.List inner required) = items_no_null (items_at (Some inner) items)

free_case : (b : Bool) (type : TypeRef) (members : Option Pairs) → IsNoNull (cond b (as_object_in type members) Refused)
free_case true type members = members_no_null type members
free_case false type members = tt

object_no_null : (defaults : Defaults) (schema : Schema) (members : List MemberMeaning) (type : TypeRef) (fields : Option (List (List ℕ × InputValue)))
    → IsNoNull (option_map_or (λ fs. as_object_in type (input_members (entry defaults (named_type type)) members fs)) fields (free_object schema members type))
object_no_null defaults schema members type None = free_case (takes_any schema (named_type type)) type (members_as_given members)
object_no_null defaults schema members type (Some fields) = members_no_null type (input_members (entry defaults (named_type type)) members fields)

null_case : (required : Bool) → required ≡ true → IsNoNull (cond required Refused (Is null_value))
null_case true is = tt
null_case false is = absurd (cc)

-- one level of a literal
level : (defaults : Defaults) (schema : Schema) (type : TypeRef) (x : LiteralValue-F LiteralValue Literal ObjectField) → is_non_null type ≡ true
    → IsNoNull (value_step defaults schema [] (map-LiteralValue _ _ _ _ _ _ (value_meaning defaults schema []) (literal_meaning defaults schema []) (object_field_meaning defaults schema []) x) (Some type))
level defaults schema type (LiteralValue-F.Variable name) required = tt
level defaults schema type (LiteralValue-F.Integer text number) required =
    taken_no_null (takes_integer schema number (named_type type)) type (whole_number number (named_type type))
    (whole_case number (signed_decimal number) (bytes_eq (named_type type) (codes "ID")))
level defaults schema type (LiteralValue-F.String text) required = taken_no_null (takes_string schema (named_type type)) type (text_value text) (text_is text)
level defaults schema type (LiteralValue-F.Boolean b) required = taken_no_null (takes_boolean schema (named_type type)) type (bool_value b) (bool_is b)
level defaults schema type LiteralValue-F.Null required = null_case (is_non_null type) required
level defaults schema type (LiteralValue-F.Enum word) required =
    taken_no_null (is_enum_value schema word (named_type type) || takes_any schema (named_type type)) type (text_value word) (text_is word)
level defaults schema type (LiteralValue-F.List items) required = list_no_null schema (map (literal_meaning defaults schema []) items) (out-TypeRef type)
level defaults schema type (LiteralValue-F.Object fields) required =
    object_no_null defaults schema (map (object_field_meaning defaults schema []) fields) type (input_fields_named schema (named_type type))

value_no_null : (defaults : Defaults) (schema : Schema) (type : TypeRef) (value : LiteralValue) → is_non_null type ≡ true
    → IsNoNull (value_meaning defaults schema [] value (Some type))
value_no_null defaults schema type value required =
    subst (λ (meaning : Meaning). IsNoNull (meaning (Some type)))
    (sym (fold_out-LiteralValue _ _ _ (value_step defaults schema []) literal_step field_step value))
    (level defaults schema type (out-LiteralValue value) required)

literal_no_null : (defaults : Defaults) (schema : Schema) (type : TypeRef) (literal : Literal) → is_non_null type ≡ true
    → IsNoNull (literal_meaning defaults schema [] literal (Some type))
literal_no_null defaults schema type literal required =
    subst (λ (meaning : Meaning). IsNoNull (meaning (Some type)))
    (sym (fold_out-Literal _ _ _ (value_step defaults schema []) literal_step field_step literal))
    (value_no_null defaults schema type (out-Literal literal).value required)

some_is : (a b : Value) → Some a ≡ Some b → a ≡ b
some_is a b is = ap (λ (o : Option Value). unwrap_or o a) is

none_some : {P : Type 0} (value : Value) → None ≡ Some value → P
none_some value is = absurd (cc)

given_case : (given : Given) (value : Value) → IsNoNull given → value_given given ≡ Some value → is_null value ≡ false
given_case Absent value sound is = none_some value is
given_case Refused value sound is = none_some value is
given_case (Is other) value sound is = subst (λ v. is_null v ≡ false) (some_is other value is) sound

default_case : (defaults : Defaults) (schema : Schema) (type : TypeRef) (literal : Option Literal) (value : Value)
    → option_and_then (λ l. constant defaults schema l type) literal ≡ Some value → is_non_null type ≡ true → is_null value ≡ false
default_case defaults schema type None value is required = absurd (cc)
default_case defaults schema type (Some literal) value is required =
    given_case (literal_meaning defaults schema [] literal (Some type)) value (literal_no_null defaults schema type literal required) is

-- a default's value is no null at a Non-Null type
pub default_no_null : (defaults : Defaults) (schema : Schema) (input : InputValue) (value : Value)
    → argument_default defaults schema input ≡ Some value → is_non_null input.input_type.type_ref ≡ true → is_null value ≡ false
default_no_null defaults schema input value is required = default_case defaults schema input.input_type.type_ref input.default value is required
