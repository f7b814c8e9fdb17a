-- The tokens of type system definitions (GraphQL October 2021, 3.2 to 3.13).
use Rattle.std.specs.Prelude.{ℕ, Bool, true, false, List, [], ◌∷◌, ◌++◌, codes}
use Rattle.gql_tokens.specs.Tokens.{Token}
use Rattle.gql_tokens.specs.declared.token.Kind.TheVariants as kind
use Rattle.gql_model.specs.declared.name.Name.{Name}
use Rattle.gql_model.specs.declared.type_system.TypeSystem.{TypeSystem}
use Rattle.gql_model.specs.declared.type_system.TypeSystemForm.{TypeSystemForm}
use Rattle.gql_model.specs.declared.type_system.TypeSystemForm.TheVariants as form
use Rattle.gql_model.specs.declared.type_system.SchemaDefinition.{SchemaDefinition}
use Rattle.gql_model.specs.declared.type_system.RootOperation.{RootOperation}
use Rattle.gql_model.specs.declared.type_system.ScalarDefinition.{ScalarDefinition}
use Rattle.gql_model.specs.declared.type_system.ObjectDefinition.{ObjectDefinition}
use Rattle.gql_model.specs.declared.type_system.FieldDefinition.{FieldDefinition}
use Rattle.gql_model.specs.declared.type_system.InputDefinition.{InputDefinition}
use Rattle.gql_model.specs.declared.type_system.UnionDefinition.{UnionDefinition}
use Rattle.gql_model.specs.declared.type_system.EnumDefinition.{EnumDefinition}
use Rattle.gql_model.specs.declared.type_system.EnumValueDefinition.{EnumValueDefinition}
use Rattle.gql_model.specs.declared.type_system.InputObjectDefinition.{InputObjectDefinition}
use Rattle.gql_model.specs.declared.type_system.DirectiveDefinition.{DirectiveDefinition}
use Rattle.gql_printing.specs.Tokens.{punctuator, word, string, optional, grouped, listed}
use Rattle.gql_printing.specs.Types.{type_tokens}
use Rattle.gql_printing.specs.Selections.{directives_tokens}
use Rattle.gql_printing.specs.Executables.{kind_word, default_tokens}

-- a description (3.2, Descriptions)
abbrev pub description_tokens : List ℕ → List Token
description_tokens text = string text ∷ []

-- items between braces, or nothing where there are none
abbrev pub braced : {A : Type 0} → (A → List Token) → List A → List Token
braced tokens all = grouped kind.BraceOpen kind.BraceClose tokens all

-- ---- parts

-- the type of one kind of operations (3.3)
abbrev pub root_tokens : RootOperation → List Token
root_tokens r = word (kind_word r.kind) ∷ punctuator kind.Colon ∷ word r.named.text ∷ []

-- an argument, or a field of an input object (3.6.1)
abbrev pub input_tokens : InputDefinition → List Token
input_tokens i =
    optional description_tokens i.description
    ++ (word i.name.text ∷ punctuator kind.Colon ∷ (type_tokens i.input_type.type_ref ++ (optional default_tokens i.default ++ directives_tokens i.directives)))

-- arguments in parentheses, if there are any (3.6.1)
abbrev pub inputs_tokens : List InputDefinition → List Token
inputs_tokens = grouped kind.ParenOpen kind.ParenClose input_tokens

-- a field of an object type or an interface (3.6)
abbrev pub field_definition_tokens : FieldDefinition → List Token
field_definition_tokens f =
    optional description_tokens f.description
    ++ (word f.name.text ∷ (inputs_tokens f.arguments ++ (punctuator kind.Colon ∷ (type_tokens f.field_type.type_ref ++ directives_tokens f.directives))))

-- a value of an enum (3.9)
abbrev pub enum_value_tokens : EnumValueDefinition → List Token
enum_value_tokens v = optional description_tokens v.description ++ (word v.name.text ∷ directives_tokens v.directives)

-- what is implemented, without the `&` that may stand before the first name (3.6)
abbrev pub implements_tokens : List Name → List Token
implements_tokens [] = []
implements_tokens (name ∷ names) = word (codes "implements") ∷ listed kind.Ampersand (name ∷ names)

-- the members of a union, without the `|` that may stand before the first name (3.8)
abbrev pub members_tokens : List Name → List Token
members_tokens [] = []
members_tokens (name ∷ names) = punctuator kind.Equals ∷ listed kind.Pipe (name ∷ names)

-- whether a directive may stand more than once (3.13)
abbrev pub repeatable_tokens : Bool → List Token
repeatable_tokens true = word (codes "repeatable") ∷ []
repeatable_tokens false = []

-- ---- definitions

-- root operation types (3.3)
abbrev pub schema_tokens : SchemaDefinition → List Token
schema_tokens d = word (codes "schema") ∷ (directives_tokens d.directives ++ braced root_tokens d.roots)

-- a scalar type (3.5)
abbrev pub scalar_tokens : ScalarDefinition → List Token
scalar_tokens d = word (codes "scalar") ∷ word d.name.text ∷ directives_tokens d.directives

-- what stands behind the keyword of an object type or an interface
abbrev pub composite_tokens : ObjectDefinition → List Token
composite_tokens d =
    word d.name.text ∷ (implements_tokens d.interfaces ++ (directives_tokens d.directives ++ braced field_definition_tokens d.fields))

-- an object type (3.6)
abbrev pub object_type_tokens : ObjectDefinition → List Token
object_type_tokens d = word (codes "type") ∷ composite_tokens d

-- an interface (3.7)
abbrev pub interface_tokens : ObjectDefinition → List Token
interface_tokens d = word (codes "interface") ∷ composite_tokens d

-- a union (3.8)
abbrev pub union_tokens : UnionDefinition → List Token
union_tokens d = word (codes "union") ∷ word d.name.text ∷ (directives_tokens d.directives ++ members_tokens d.members)

-- an enum (3.9)
abbrev pub enum_tokens : EnumDefinition → List Token
enum_tokens d = word (codes "enum") ∷ word d.name.text ∷ (directives_tokens d.directives ++ braced enum_value_tokens d.values)

-- an input object type (3.10)
abbrev pub input_object_tokens : InputObjectDefinition → List Token
input_object_tokens d = word (codes "input") ∷ word d.name.text ∷ (directives_tokens d.directives ++ braced input_tokens d.fields)

-- a directive that may stand in documents (3.13)
abbrev pub directive_definition_tokens : DirectiveDefinition → List Token
directive_definition_tokens d =
    word (codes "directive") ∷ punctuator kind.At ∷ word d.name.text
    ∷ (inputs_tokens d.arguments ++ (repeatable_tokens d.repeatable ++ (word (codes "on") ∷ listed kind.Pipe d.locations)))

-- a definition without its description
abbrev pub form_tokens : TypeSystemForm → List Token
form_tokens (form.Schema d) = schema_tokens d
form_tokens (form.Scalar d) = scalar_tokens d
form_tokens (form.Object d) = object_type_tokens d
form_tokens (form.Interface d) = interface_tokens d
form_tokens (form.Union d) = union_tokens d
form_tokens (form.Enum d) = enum_tokens d
form_tokens (form.Input d) = input_object_tokens d
form_tokens (form.Directive d) = directive_definition_tokens d

-- a definition with its description (3.2)
abbrev pub type_system_tokens : TypeSystem → List Token
type_system_tokens d = optional description_tokens d.description ++ form_tokens d.form
