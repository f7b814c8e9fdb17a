-- Type system definitions (GraphQL October 2021, 3.2 to 3.13).
use Rattle.std.specs.Prelude.{ℕ, Bool, true, List, Option, Some, None, codes}
use Rattle.gql_tokens.specs.Tokens.{Token, string_value_of}
use Rattle.gql_tokens.specs.declared.token.Kind.TheVariants as kind
use Rattle.gql_tokens.specs.declared.token.Kind.{Kind}
use Rattle.gql_tokens.specs.declared.token.Place.{Place}
use Rattle.gql_model.specs.declared.name.Name.{Name}
use Rattle.gql_model.specs.declared.literal.Literal.{Literal}
use Rattle.gql_model.specs.declared.type_ref.TypeNode.{TypeNode}
use Rattle.gql_model.specs.declared.selection.Directive.{Directive}
use Rattle.gql_model.specs.declared.executable.OperationKind.{OperationKind}
use Rattle.gql_model.specs.declared.type_system.TypeSystem.{TypeSystem}
use Rattle.gql_model.specs.declared.type_system.TypeSystemForm.{TypeSystemForm}
use Rattle.gql_model.specs.declared.type_system.TypeSystemForm.TheVariants as form
use Rattle.gql_model.specs.declared.type_system.RootOperation.{RootOperation}
use Rattle.gql_model.specs.declared.type_system.ObjectDefinition.{ObjectDefinition}
use Rattle.gql_model.specs.declared.type_system.FieldDefinition.{FieldDefinition}
use Rattle.gql_model.specs.declared.type_system.InputDefinition.{InputDefinition}
use Rattle.gql_model.specs.declared.type_system.EnumValueDefinition.{EnumValueDefinition}
use Rattle.gql_model.specs.Sorts.{mark, word}
use Rattle.gql_model.specs.Rules.{Rule, One, Seq, Opt, Many, Made, Whether, Either, Here, Behind, Between, More, Perhaps, cons, last}
use Rattle.gql_model.specs.Names.{NameRule, EnumNameRule}
use Rattle.gql_model.specs.Types.{TypeRule}
use Rattle.gql_model.specs.Selections.{DirectivesRule}
use Rattle.gql_model.specs.Executables.{KindRule, DefaultRule}

-- the meaning of a string token
abbrev pub string_in : Kind → List ℕ → Option (List ℕ)
string_in kind.String text = Some (string_value_of text)
string_in _ text = None

-- the meaning of a token that is a string or block string; no other token is a description (3.2)
abbrev pub description_in : Token → Option (List ℕ)
description_in x = string_in x.kind x.text

-- Desc = StringValue
abbrev pub DescriptionRule : Rule (List ℕ)
DescriptionRule = One description_in

-- between braces, one or more
abbrev pub Braced : {A : Type 0} → Rule A → Rule (List A)
Braced R = Between (mark kind.BraceOpen) (mark kind.BraceClose) (More R)

-- names with a mark between each two, where the mark may stand before the first too
abbrev pub ListedBy : Kind → Rule (List Name)
ListedBy k = Made last (Seq (Whether (mark k)) (Made cons (Seq NameRule (Many (Behind (mark k) NameRule)))))

-- ---- schemas and scalars

-- a root operation type: the place of its first word, the kind of operation and the name of the type (3.3.1)
abbrev pub root_of : Place → OperationKind × Name → RootOperation
root_of place p = record { place = place; kind = p.0; named = p.1 }

-- OperationType ":" Name
abbrev pub RootRule : Rule RootOperation
RootRule = Here (λ place. Made (root_of place) (Seq KindRule (Behind (mark kind.Colon) NameRule)))

-- a schema definition: the place of `schema`, its directives and its root operation types (3.3)
abbrev pub schema_of : Place → List Directive × List RootOperation → TypeSystemForm
schema_of place p = form.Schema (record { place = place; directives = p.0; roots = p.1 })

-- Schema = "schema" ConstDirectives "{" (OperationType ":" Name)+ "}"
abbrev pub SchemaRule : Rule TypeSystemForm
SchemaRule = Here (λ place. Made (schema_of place) (Behind (word (codes "schema")) (Seq (DirectivesRule true) (Braced RootRule))))

-- a scalar type: its name and its directives (3.5)
abbrev pub scalar_of : Name × List Directive → TypeSystemForm
scalar_of p = form.Scalar (record { name = p.0; directives = p.1 })

-- Scalar = "scalar" Name ConstDirectives
abbrev pub ScalarRule : Rule TypeSystemForm
ScalarRule = Made scalar_of (Behind (word (codes "scalar")) (Seq NameRule (DirectivesRule true)))

-- ---- objects and interfaces

-- an argument or an input field: its description if any, its name, its type, its default if any and its directives (3.6.1, 3.10)
abbrev pub input_of : Option (List ℕ) × (Name × (TypeNode × (Option Literal × List Directive))) → InputDefinition
input_of p = record { description = p.0; name = p.1.0; input_type = p.1.1.0; default = p.1.1.1.0; directives = p.1.1.1.1 }

-- InputDef = Desc? Name ":" Type Default? ConstDirectives
abbrev pub InputRule : Rule InputDefinition
InputRule = Made input_of (Seq (Opt DescriptionRule) (Seq NameRule (Behind (mark kind.Colon) (Seq TypeRule (Seq (Opt DefaultRule) (DirectivesRule true))))))

-- Inputs = "(" InputDef+ ")"
abbrev pub InputsRule : Rule (List InputDefinition)
InputsRule = Between (mark kind.ParenOpen) (mark kind.ParenClose) (More InputRule)

-- a field of a type: its description if any, its name, its arguments, its type and its directives (3.6)
abbrev pub field_definition_of : Option (List ℕ) × (Name × (List InputDefinition × (TypeNode × List Directive))) → FieldDefinition
field_definition_of p = record { description = p.0; name = p.1.0; arguments = p.1.1.0; field_type = p.1.1.1.0; directives = p.1.1.1.1 }

-- Desc? Name Inputs? ":" Type ConstDirectives
abbrev pub FieldDefinitionRule : Rule FieldDefinition
FieldDefinitionRule = Made field_definition_of (Seq (Opt DescriptionRule) (Seq NameRule (Seq (Perhaps InputsRule) (Behind (mark kind.Colon) (Seq TypeRule (DirectivesRule true))))))

-- Implements = "implements" "&"? Name ("&" Name)*
abbrev pub ImplementsRule : Rule (List Name)
ImplementsRule = Behind (word (codes "implements")) (ListedBy kind.Ampersand)

-- what object types and interfaces have alike: a name, the interfaces that are implemented, directives and fields
abbrev pub composite_of : Name × (List Name × (List Directive × List FieldDefinition)) → ObjectDefinition
composite_of p = record { name = p.0; interfaces = p.1.0; directives = p.1.1.0; fields = p.1.1.1 }

-- Name Implements? ConstDirectives Fields?
abbrev pub CompositeRule : Rule ObjectDefinition
CompositeRule = Made composite_of (Seq NameRule (Seq (Perhaps ImplementsRule) (Seq (DirectivesRule true) (Perhaps (Braced FieldDefinitionRule)))))

-- an object type of these parts (3.6)
abbrev pub object_form : ObjectDefinition → TypeSystemForm
object_form d = form.Object d

-- Object = "type" Name Implements? ConstDirectives Fields?
abbrev pub ObjectTypeRule : Rule TypeSystemForm
ObjectTypeRule = Made object_form (Behind (word (codes "type")) CompositeRule)

-- an interface of these parts (3.7)
abbrev pub interface_form : ObjectDefinition → TypeSystemForm
interface_form d = form.Interface d

-- Interface = "interface" Name Implements? ConstDirectives Fields?
abbrev pub InterfaceRule : Rule TypeSystemForm
InterfaceRule = Made interface_form (Behind (word (codes "interface")) CompositeRule)

-- ---- unions, enums, input objects and directives

-- a union: its name, its directives and the names of its member types (3.8)
abbrev pub union_of : Name × (List Directive × List Name) → TypeSystemForm
union_of p = form.Union (record { name = p.0; directives = p.1.0; members = p.1.1 })

-- Union = "union" Name ConstDirectives ("=" "|"? Name ("|" Name)*)?
abbrev pub UnionRule : Rule TypeSystemForm
UnionRule = Made union_of (Behind (word (codes "union")) (Seq NameRule (Seq (DirectivesRule true) (Perhaps (Behind (mark kind.Equals) (ListedBy kind.Pipe))))))

-- a value of an enum type: its description if any, its name and its directives (3.9)
abbrev pub enum_value_of : Option (List ℕ) × (Name × List Directive) → EnumValueDefinition
enum_value_of p = record { description = p.0; name = p.1.0; directives = p.1.1 }

-- EnumValueDefinition = Desc? EnumValue ConstDirectives
abbrev pub EnumValueRule : Rule EnumValueDefinition
EnumValueRule = Made enum_value_of (Seq (Opt DescriptionRule) (Seq EnumNameRule (DirectivesRule true)))

-- an enum type: its name, its directives and its values (3.9)
abbrev pub enum_of : Name × (List Directive × List EnumValueDefinition) → TypeSystemForm
enum_of p = form.Enum (record { name = p.0; directives = p.1.0; values = p.1.1 })

-- Enum = "enum" Name ConstDirectives ("{" EnumValueDefinition+ "}")?
abbrev pub EnumRule : Rule TypeSystemForm
EnumRule = Made enum_of (Behind (word (codes "enum")) (Seq NameRule (Seq (DirectivesRule true) (Perhaps (Braced EnumValueRule)))))

-- an input object type: its name, its directives and its input fields (3.10)
abbrev pub input_object_of : Name × (List Directive × List InputDefinition) → TypeSystemForm
input_object_of p = form.Input (record { name = p.0; directives = p.1.0; fields = p.1.1 })

-- Input = "input" Name ConstDirectives ("{" InputDef+ "}")?
abbrev pub InputObjectRule : Rule TypeSystemForm
InputObjectRule = Made input_object_of (Behind (word (codes "input")) (Seq NameRule (Seq (DirectivesRule true) (Perhaps (Braced InputRule)))))

-- a directive definition: its name, its arguments, whether it is repeatable, and its locations (3.13)
abbrev pub directive_form : Name × (List InputDefinition × (Bool × List Name)) → TypeSystemForm
directive_form p = form.Directive (record { name = p.0; arguments = p.1.0; repeatable = p.1.1.0; locations = p.1.1.1 })

-- DirectiveDefinition = "directive" "@" Name Inputs? "repeatable"? "on" "|"? Name ("|" Name)*
abbrev pub DirectiveDefinitionRule : Rule TypeSystemForm
DirectiveDefinitionRule =
    Made directive_form (Behind (word (codes "directive")) (Behind (mark kind.At) (Seq NameRule (Seq (Perhaps InputsRule) (Seq (Whether (word (codes "repeatable"))) (Behind (word (codes "on")) (ListedBy kind.Pipe)))))))

-- ---- definitions

-- Schema | Scalar | Object | Interface | Union | Enum | Input | DirectiveDefinition
abbrev pub FormRule : Rule TypeSystemForm
FormRule =
    Either SchemaRule (Either ScalarRule (Either ObjectTypeRule (Either InterfaceRule (Either UnionRule (Either EnumRule (Either InputObjectRule DirectiveDefinitionRule))))))

-- a type system definition: the place where it begins, its description if any, and what it defines (3.2)
abbrev pub type_system_of : Place → Option (List ℕ) × TypeSystemForm → TypeSystem
type_system_of place p = record { place = place; description = p.0; form = p.1 }

-- TypeSystem = Desc? (Schema | Scalar | Object | Interface | Union | Enum | Input | DirectiveDefinition)
abbrev pub TypeSystemRule : Rule TypeSystem
TypeSystemRule = Here (λ place. Made (type_system_of place) (Seq (Opt DescriptionRule) FormRule))
