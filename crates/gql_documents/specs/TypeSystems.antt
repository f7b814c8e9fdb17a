-- The parser of type system definitions (GraphQL October 2021, 3.2 to 3.13).
use Rattle.std.specs.Prelude.{ℕ, true, List, [], ◌∷◌, Option, codes}
use Rattle.gql_tokens.specs.declared.token.Kind.{Kind}
use Rattle.gql_tokens.specs.declared.token.Kind.TheVariants as kind
use Rattle.gql_model.specs.declared.name.Name.{Name}
use Rattle.gql_model.specs.declared.type_system.TypeSystem.{TypeSystem}
use Rattle.gql_model.specs.declared.type_system.TypeSystemForm.{TypeSystemForm}
use Rattle.gql_model.specs.declared.type_system.RootOperation.{RootOperation}
use Rattle.gql_model.specs.declared.type_system.ObjectDefinition.{ObjectDefinition}
use Rattle.gql_model.specs.declared.type_system.FieldDefinition.{FieldDefinition}
use Rattle.gql_model.specs.declared.type_system.InputDefinition.{InputDefinition}
use Rattle.gql_model.specs.declared.type_system.EnumValueDefinition.{EnumValueDefinition}
use Rattle.gql_model.specs.Sorts.{Sort, Mark, mark, word}
use Rattle.gql_model.specs.Names.{any_name}
use Rattle.gql_model.specs.Rules.{cons, last}
use Rattle.gql_model.specs.TypeSystems as grammar
use Rattle.gql_documents.specs.Parsing.{Parser, tok, whether, seq, via, opt, either, many, here, behind, between, more, perhaps}
use Rattle.gql_documents.specs.Names.{name, enum_named, type_node}
use Rattle.gql_documents.specs.Selections.{directives}
use Rattle.gql_documents.specs.Executables.{operation_kind, default_if_any}

-- Desc = StringValue
unfoldable pub description : Parser (List ℕ)
description = tok grammar.description_in

-- Desc?: it is there where a string or block string stands
unfoldable pub description_if_any : Parser (Option (List ℕ))
description_if_any = opt (mark kind.String) description

-- between braces, one or more, where each but the first begins with a token of these sorts
abbrev pub braced : {A : Type 0} → List Sort → Parser A → Parser (List A)
braced enter p = between (mark kind.BraceOpen) (mark kind.BraceClose) (more enter p)

-- a name behind a mark of this kind
unfoldable pub name_behind : Kind → Parser Name
name_behind k = behind (mark k) name

-- names with a mark between each two, where the mark may stand before the first too
unfoldable pub listed_by : Kind → Parser (List Name)
listed_by k = via last (seq (whether (mark k)) (via cons (seq name (many (mark k) (name_behind k)))))

-- OperationType ":" Name
unfoldable pub root : Parser RootOperation
root = here (λ place. via (grammar.root_of place) (seq operation_kind (behind (mark kind.Colon) name)))

-- "{" (OperationType ":" Name)+ "}"
unfoldable pub roots : Parser (List RootOperation)
roots = braced any_name root

-- Schema = "schema" ConstDirectives "{" (OperationType ":" Name)+ "}"
unfoldable pub schema : Parser TypeSystemForm
schema = here (λ place. via (grammar.schema_of place) (behind (word (codes "schema")) (seq (directives true) roots)))

-- Scalar = "scalar" Name ConstDirectives
unfoldable pub scalar : Parser TypeSystemForm
scalar = via grammar.scalar_of (behind (word (codes "scalar")) (seq name (directives true)))

-- what a definition with a description begins with, where that may be left out
abbrev pub described_start : List Sort
described_start = Mark kind.String ∷ Mark kind.Name ∷ []

-- InputDef = Desc? Name ":" Type Default? ConstDirectives
unfoldable pub input : Parser InputDefinition
input = via grammar.input_of (seq description_if_any (seq name (behind (mark kind.Colon) (seq type_node (seq default_if_any (directives true))))))

-- Inputs = "(" InputDef+ ")"
unfoldable pub inputs : Parser (List InputDefinition)
inputs = between (mark kind.ParenOpen) (mark kind.ParenClose) (more described_start input)

-- Inputs?: they are there where a `(` stands
unfoldable pub inputs_if_any : Parser (List InputDefinition)
inputs_if_any = perhaps (mark kind.ParenOpen) inputs

-- FieldDef = Desc? Name Inputs? ":" Type ConstDirectives
unfoldable pub field_definition : Parser FieldDefinition
field_definition =
    via grammar.field_definition_of (seq description_if_any (seq name (seq inputs_if_any (behind (mark kind.Colon) (seq type_node (directives true))))))

-- Fields = "{" FieldDef+ "}"
unfoldable pub field_definitions : Parser (List FieldDefinition)
field_definitions = braced described_start field_definition

-- Fields?: they are there where a `{` stands
unfoldable pub field_definitions_if_any : Parser (List FieldDefinition)
field_definitions_if_any = perhaps (mark kind.BraceOpen) field_definitions

-- Implements = "implements" "&"? Name ("&" Name)*
unfoldable pub implements : Parser (List Name)
implements = behind (word (codes "implements")) (listed_by kind.Ampersand)

-- Implements?: it is there where the name `implements` stands
unfoldable pub implements_if_any : Parser (List Name)
implements_if_any = perhaps (word (codes "implements")) implements

-- what stands behind `type` and `interface`: Name Implements? ConstDirectives Fields?
unfoldable pub composite : Parser ObjectDefinition
composite = via grammar.composite_of (seq name (seq implements_if_any (seq (directives true) field_definitions_if_any)))

-- Object = "type" Name Implements? ConstDirectives Fields?
unfoldable pub object_type : Parser TypeSystemForm
object_type = via grammar.object_form (behind (word (codes "type")) composite)

-- Interface = "interface" Name Implements? ConstDirectives Fields?
unfoldable pub interface : Parser TypeSystemForm
interface = via grammar.interface_form (behind (word (codes "interface")) composite)

-- Members = "=" "|"? Name ("|" Name)*
unfoldable pub members : Parser (List Name)
members = behind (mark kind.Equals) (listed_by kind.Pipe)

-- Members?: they are there where an `=` stands
unfoldable pub members_if_any : Parser (List Name)
members_if_any = perhaps (mark kind.Equals) members

-- Union = "union" Name ConstDirectives Members?
unfoldable pub union : Parser TypeSystemForm
union = via grammar.union_of (behind (word (codes "union")) (seq name (seq (directives true) members_if_any)))

-- EnumValueDefinition = Desc? EnumValue ConstDirectives
unfoldable pub enum_value : Parser EnumValueDefinition
enum_value = via grammar.enum_value_of (seq description_if_any (seq enum_named (directives true)))

-- "{" EnumValueDefinition+ "}"
unfoldable pub enum_values : Parser (List EnumValueDefinition)
enum_values = braced described_start enum_value

-- ("{" EnumValueDefinition+ "}")?: they are there where a `{` stands
unfoldable pub enum_values_if_any : Parser (List EnumValueDefinition)
enum_values_if_any = perhaps (mark kind.BraceOpen) enum_values

-- Enum = "enum" Name ConstDirectives ("{" EnumValueDefinition+ "}")?
unfoldable pub enumeration : Parser TypeSystemForm
enumeration = via grammar.enum_of (behind (word (codes "enum")) (seq name (seq (directives true) enum_values_if_any)))

-- "{" InputDef+ "}"
unfoldable pub input_fields : Parser (List InputDefinition)
input_fields = braced described_start input

-- ("{" InputDef+ "}")?: they are there where a `{` stands
unfoldable pub input_fields_if_any : Parser (List InputDefinition)
input_fields_if_any = perhaps (mark kind.BraceOpen) input_fields

-- Input = "input" Name ConstDirectives ("{" InputDef+ "}")?
unfoldable pub input_object : Parser TypeSystemForm
input_object = via grammar.input_object_of (behind (word (codes "input")) (seq name (seq (directives true) input_fields_if_any)))

-- "on" "|"? Name ("|" Name)*: the locations of a directive
unfoldable pub locations : Parser (List Name)
locations = behind (word (codes "on")) (listed_by kind.Pipe)

-- DirectiveDefinition = "directive" "@" Name Inputs? "repeatable"? "on" "|"? Name ("|" Name)*
unfoldable pub directive_definition : Parser TypeSystemForm
directive_definition =
    via grammar.directive_form (behind (word (codes "directive")) (behind (mark kind.At) (seq name (seq inputs_if_any (seq (whether (word (codes "repeatable"))) locations)))))

-- Union | Enum | Input | DirectiveDefinition: by the first word, and the last where it is none of the other three
unfoldable pub form_from_union : Parser TypeSystemForm
form_from_union =
    either (word (codes "union")) union (either (word (codes "enum")) enumeration (either (word (codes "input")) input_object directive_definition))

-- Schema | Scalar | Object | Interface | Union | Enum | Input | DirectiveDefinition, by the first word
unfoldable pub form : Parser TypeSystemForm
form =
    either (word (codes "schema")) schema (either (word (codes "scalar")) scalar (either (word (codes "type")) object_type (either (word (codes "interface")) interface form_from_union)))

-- TypeSystem = Desc? (Schema | Scalar | Object | Interface | Union | Enum | Input | DirectiveDefinition)
unfoldable pub type_system : Parser TypeSystem
type_system = here (λ place. via (grammar.type_system_of place) (seq description_if_any form))
