-- Whether a constant literal fits a type (GraphQL October 2021, 5.6.1, Values of Correct Type).
use Rattle.std.specs.Prelude.{ℕ, ℤ, pos, negsuc, int_le, Bool, true, false, ◌&&◌, ◌||◌, not, List, map, codes, bytes_eq}
use Rattle.std.specs.List.{list_all}
use Rattle.std.specs.Option.{option_map_or}
use Rattle.gql_model.specs.declared.literal.Literal.{Literal}
use Rattle.gql_model.specs.declared.literal.LiteralValue.{LiteralValue}
use Rattle.gql_model.specs.declared.literal.ObjectField.{ObjectField}
use Rattle.gql_model.specs.declared.literal.LiteralValue.TheOpen.{Literal-F, LiteralValue-F, ObjectField-F}
use Rattle.gql_model.specs.declared.literal.LiteralValue.TheFolds.{fold-Literal, fold-LiteralValue, fold-ObjectField}
use Rattle.gql_model.specs.declared.type_ref.TypeRef.{TypeRef, out-TypeRef}
use Rattle.gql_model.specs.declared.type_ref.TypeRef.TheOpen.{TypeRef-F}
use Rattle.schema_model.specs.declared.schema.Schema.{Schema}
use Rattle.schema_model.specs.declared.schema.InputValue.{InputValue}
use Rattle.schema_model.specs.declared.schema.TypeForm.{TypeForm}
use Rattle.schema_model.specs.declared.schema.TypeForm.TheVariants as form
use Rattle.schema_model.specs.Schemas.{has_value}
use Rattle.schema_model.specs.Tables.{entry}
use Rattle.schema_rules.specs.Lines.{Mark}
use Rattle.schema_defaults.specs.Repetitions.{meets}
use Rattle.schema_rules.specs.TypeRefs.{named_type, is_non_null}
use Rattle.schema_rules.specs.Unsatisfied.{is_required}

-- ---- scalars

-- a scalar that isn't built in, which takes any literal
abbrev pub is_custom : List ℕ → Bool
is_custom name =
    not (bytes_eq name (codes "Int") || bytes_eq name (codes "Float") || bytes_eq name (codes "String")
    || bytes_eq name (codes "Boolean") || bytes_eq name (codes "ID"))

-- from -2^31 to 2^31 - 1, as an Int is (GraphQL October 2021, 3.5.1)
abbrev pub fits_32_bits : ℤ → Bool
fits_32_bits n = int_le (negsuc 2147483647) n && int_le n (pos 2147483647)

-- an integer is an Int of 32 bits, a Float or an ID
abbrev pub scalar_takes_integer : List ℕ → ℤ → Bool
scalar_takes_integer name n =
    (bytes_eq name (codes "Int") && fits_32_bits n) || bytes_eq name (codes "Float") || bytes_eq name (codes "ID") || is_custom name

-- a string is a String or an ID
abbrev pub scalar_takes_string : List ℕ → Bool
scalar_takes_string name = bytes_eq name (codes "String") || bytes_eq name (codes "ID") || is_custom name

-- `true` and `false` are a Boolean
abbrev pub scalar_takes_boolean : List ℕ → Bool
scalar_takes_boolean name = bytes_eq name (codes "Boolean") || is_custom name

-- ---- named types

-- a type is a scalar, built in or custom
abbrev pub is_scalar : TypeForm → Bool
is_scalar form.Scalar = true
is_scalar _ = false

-- whether a name is that of a scalar
abbrev pub names_scalar : Schema → List ℕ → Bool
names_scalar schema name = option_map_or (λ t. is_scalar t.form) (entry schema.types name) false

-- an integer fits a scalar that takes it
abbrev pub takes_integer : Schema → ℤ → List ℕ → Bool
takes_integer schema n name = names_scalar schema name && scalar_takes_integer name n

-- a string fits a scalar that takes strings
abbrev pub takes_string : Schema → List ℕ → Bool
takes_string schema name = names_scalar schema name && scalar_takes_string name

-- `true` and `false` fit a scalar that takes them
abbrev pub takes_boolean : Schema → List ℕ → Bool
takes_boolean schema name = names_scalar schema name && scalar_takes_boolean name

-- any literal fits a custom scalar
abbrev pub takes_any : Schema → List ℕ → Bool
takes_any schema name = names_scalar schema name && is_custom name

-- a name fits an enum that has it
abbrev pub takes_name : Schema → List ℕ → List ℕ → Bool
takes_name schema word name =
    option_map_or (λ t. has_value t.form word) (entry schema.types name) false || takes_any schema name

-- ---- literals

-- whether a literal fits each type
abbrev pub Fit : Type 0
Fit = TypeRef → Bool

-- a field of an object literal
abbrev pub FieldFit : Type 0
FieldFit = List ℕ × Fit

-- a list fits a list type whose item type each of its items fits; such an item may stand for a list of one, which is this project's own
abbrev pub list_fits : Schema → List Fit → TypeRef-F TypeRef → Bool
list_fits schema items (TypeRef-F.Named name required) = takes_any schema name
list_fits schema items (TypeRef-F.List inner required) = list_all (λ fits. fits inner) items

-- a field of an object literal is one of the type's, and its value fits
abbrev pub field_fits : List (List ℕ × InputValue) → FieldFit → Bool
field_fits declared f = option_map_or (λ i. f.1 i.input_type.type_ref) (entry declared f.0) false

-- the names of the fields of an object literal, at no line
abbrev pub given_names : List FieldFit → List Mark
given_names fields = map (λ f. (f.0, 0)) fields

-- a field of the type is given, or need not be
abbrev pub is_given : List Mark → List ℕ × InputValue → Bool
is_given names d = meets d.0 names || not (is_required d.1)

-- each field that is given is one of the type's and fits, and each of the type's is given or need not be
-- (GraphQL October 2021, 5.6.2 and 5.6.4)
abbrev pub fields_fit : List (List ℕ × InputValue) → List FieldFit → Bool
fields_fit declared fields = list_all (field_fits declared) fields && list_all (is_given (given_names fields)) declared

-- the fields of an object literal fit those of an input object type; they fit no other type
abbrev pub form_takes_object : TypeForm → List FieldFit → Bool
form_takes_object (form.Input declared) fields = fields_fit declared fields
form_takes_object _ fields = false

-- an object literal fits an input object type whose fields it has
abbrev pub object_fits : Schema → List FieldFit → List ℕ → Bool
object_fits schema fields name =
    option_map_or (λ t. form_takes_object t.form fields) (entry schema.types name) false || takes_any schema name

-- a literal fits where its value does
abbrev pub literal_step : Literal-F Fit Fit FieldFit → Fit
literal_step l = l.value

-- null fits a nullable type, a variable any, and a value that isn't a list what its lists are of
abbrev pub value_step : Schema → LiteralValue-F Fit Fit FieldFit → Fit
value_step schema (LiteralValue-F.Variable name) t = true
value_step schema (LiteralValue-F.Integer text number) t = takes_integer schema number (named_type t)
value_step schema (LiteralValue-F.String text) t = takes_string schema (named_type t)
value_step schema (LiteralValue-F.Boolean b) t = takes_boolean schema (named_type t)
value_step schema LiteralValue-F.Null t = not (is_non_null t)
value_step schema (LiteralValue-F.Enum word) t = takes_name schema word (named_type t)
value_step schema (LiteralValue-F.List items) t = list_fits schema items (out-TypeRef t)
value_step schema (LiteralValue-F.Object fields) t = object_fits schema fields (named_type t)

-- a field of an object literal, by its name and the types that its value fits
abbrev pub field_step : ObjectField-F Fit Fit FieldFit → FieldFit
field_step f = (f.name.text, f.value)

-- what types a literal fits
abbrev pub literal_fits : Schema → Literal → Fit
literal_fits schema = fold-Literal Fit Fit FieldFit (value_step schema) literal_step field_step

-- what types the value of a literal fits
abbrev pub value_fits : Schema → LiteralValue → Fit
value_fits schema = fold-LiteralValue Fit Fit FieldFit (value_step schema) literal_step field_step

-- the name of a field of an object literal, and what types its value fits
abbrev pub object_field_fits : Schema → ObjectField → FieldFit
object_field_fits schema = fold-ObjectField Fit Fit FieldFit (value_step schema) literal_step field_step
