-- Where variables are used, and what is wanted there (GraphQL October 2021, 5.8.3 to 5.8.5).
use Rattle.std.specs.Prelude.{ℕ, Bool, false, List, [], ◌∷◌, ◌++◌, Option, Some, None, is_some}
use Rattle.std.specs.List.{flat_map}
use Rattle.std.specs.Option.{option_map, option_map_or, option_and_then}
use Rattle.gql_model.specs.declared.literal.Literal.{Literal}
use Rattle.gql_model.specs.declared.literal.LiteralValue.{LiteralValue}
use Rattle.gql_model.specs.declared.literal.ObjectField.{ObjectField}
use Rattle.gql_model.specs.declared.literal.LiteralValue.TheOpen.{Literal-F, LiteralValue-F, ObjectField-F}
use Rattle.gql_model.specs.declared.literal.LiteralValue.TheFolds.{fold-Literal, fold-LiteralValue, fold-ObjectField}
use Rattle.gql_model.specs.declared.type_ref.TypeRef.{TypeRef, out-TypeRef}
use Rattle.gql_model.specs.declared.type_ref.TypeRef.TheOpen.{TypeRef-F}
use Rattle.gql_model.specs.declared.selection.Argument.{Argument}
use Rattle.gql_model.specs.declared.document.Definition.{Definition}
use Rattle.gql_model.specs.declared.document.Document.{Document}
use Rattle.schema_model.specs.declared.schema.Schema.{Schema}
use Rattle.schema_model.specs.declared.schema.InputValue.{InputValue}
use Rattle.schema_model.specs.Schemas.{input_fields_in}
use Rattle.schema_model.specs.Tables.{entry}
use Rattle.schema_rules.specs.TypeRefs.{named_type}
use Rattle.check_model.specs.Spreads.{definitions_reached}
use Rattle.check_model.specs.Sites.{Site, definition_sites}

-- a type that a value stands at, and whether there is a default in its place
pub record Wanted : Type 0 where
  pub type : TypeRef
  pub has_default : Bool

-- what is wanted at a place; nothing inside a literal of a custom scalar, at an argument or a field that isn't defined,
-- or in a list literal where no list is wanted
abbrev pub At : Type 0
At = Option Wanted

-- a variable's name at a place
pub record Usage : Type 0 where
  pub name : List ℕ
  pub at : At

-- uses of variables, one after another
abbrev pub Usages : Type 0
Usages = List Usage

-- what an argument or an input field wants
abbrev pub wanted_by : InputValue → Wanted
wanted_by input = record { type = input.input_type.type_ref; has_default = is_some input.default }

-- what the argument or input field of a name wants
abbrev pub wanted_at : List (List ℕ × InputValue) → List ℕ → At
wanted_at defined name = option_map wanted_by (entry defined name)

-- what each item of a list literal is wanted to be
abbrev pub item_of : TypeRef-F TypeRef → At
item_of (TypeRef-F.Named name required) = None
item_of (TypeRef-F.List inner required) = Some (record { type = inner; has_default = false })

-- what is wanted of each item of a list literal, by what is wanted of the list
abbrev pub at_item : At → At
at_item at = option_and_then (λ w. item_of (out-TypeRef w.type)) at

-- the fields of the input object type that is wanted, itself or in a list of one
abbrev pub input_fields_at : Schema → At → List (List ℕ × InputValue)
input_fields_at schema at =
    option_map_or (λ w. option_map_or (λ t. option_map_or (λ fields. fields) (input_fields_in t.form) []) (entry schema.types (named_type w.type)) []) at []

-- ---- literals, each at what is wanted there

-- the variables in a literal, once it is given what is wanted of the literal
abbrev pub UsagesAt : Type 0
UsagesAt = At → Usages

-- a field of an object literal
abbrev pub FieldUsages : Type 0
FieldUsages = List ℕ × UsagesAt

-- the variables in a literal are those in its value
abbrev pub literal_usages : Literal-F UsagesAt UsagesAt FieldUsages → UsagesAt
literal_usages literal = literal.value

-- a variable is itself a use; lists and objects hand down what their items and fields are wanted to be
abbrev pub value_usages : Schema → LiteralValue-F UsagesAt UsagesAt FieldUsages → UsagesAt
value_usages schema (LiteralValue-F.Variable name) at = record { name = name; at = at } ∷ []
value_usages schema (LiteralValue-F.List items) at = flat_map (λ usages. usages (at_item at)) items
value_usages schema (LiteralValue-F.Object fields) at = flat_map (λ f. f.1 (wanted_at (input_fields_at schema at) f.0)) fields
value_usages schema _ at = []

-- a field of an object literal by its name, with the variables in its value
abbrev pub field_usages : ObjectField-F UsagesAt UsagesAt FieldUsages → FieldUsages
field_usages field = (field.name.text, field.value)

-- the variables in a literal
abbrev pub usages_in : Schema → Literal → UsagesAt
usages_in schema = fold-Literal UsagesAt UsagesAt FieldUsages (value_usages schema) literal_usages field_usages

-- the variables in the value of a literal
abbrev pub usages_in_value : Schema → LiteralValue → UsagesAt
usages_in_value schema = fold-LiteralValue UsagesAt UsagesAt FieldUsages (value_usages schema) literal_usages field_usages

-- the name of a field of an object literal, and the variables in its value, at every depth
abbrev pub usages_in_field : Schema → ObjectField → FieldUsages
usages_in_field schema = fold-ObjectField UsagesAt UsagesAt FieldUsages (value_usages schema) literal_usages field_usages

-- ---- documents

-- the variables in an argument, at what the defined argument of its name wants
abbrev pub argument_usages : Schema → List (List ℕ × InputValue) → Argument → Usages
argument_usages schema defined argument = usages_in schema argument.value (wanted_at defined argument.name.text)

-- the variables in a part of a document: they stand in arguments alone
abbrev pub site_usages : Schema → Site → Usages
site_usages schema (Site.Given defined arguments) = flat_map (argument_usages schema defined) arguments
site_usages schema _ = []

-- the variables that a definition itself uses, at every depth; spreads aren't followed
abbrev pub definition_usages : Schema → Document → Definition → Usages
definition_usages schema document d = flat_map (site_usages schema) (definition_sites schema document d)

-- the variables that the definition at a place uses, in itself and in each fragment that it reaches
abbrev pub followed_usages : Schema → Document → ℕ × Definition → Usages
followed_usages schema document p =
    definition_usages schema document p.1
    ++ flat_map (definition_usages schema document) (definitions_reached document p.0)
