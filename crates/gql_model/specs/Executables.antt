-- Operations and fragments (GraphQL October 2021, 2.3, 2.8 and 2.10).
use Rattle.std.specs.Prelude.{true, false, List, [], Option, Some, None, if◌then◌else◌, codes}
use Rattle.gql_tokens.specs.Tokens.{Token}
use Rattle.gql_tokens.specs.declared.token.Kind.TheVariants as kind
use Rattle.gql_tokens.specs.declared.token.Place.{Place}
use Rattle.gql_model.specs.declared.name.Name.{Name}
use Rattle.gql_model.specs.declared.literal.Literal.{Literal}
use Rattle.gql_model.specs.declared.type_ref.TypeNode.{TypeNode}
use Rattle.gql_model.specs.declared.selection.Directive.{Directive}
use Rattle.gql_model.specs.declared.selection.SelectionSet.{SelectionSet}
use Rattle.gql_model.specs.declared.executable.OperationKind.{OperationKind}
use Rattle.gql_model.specs.declared.executable.OperationKind.TheVariants.{Query, Mutation, Subscription}
use Rattle.gql_model.specs.declared.executable.Operation.{Operation}
use Rattle.gql_model.specs.declared.executable.VariableDefinition.{VariableDefinition}
use Rattle.gql_model.specs.declared.executable.Fragment.{Fragment}
use Rattle.gql_model.specs.Sorts.{is_in, mark, word}
use Rattle.gql_model.specs.Rules.{Rule, One, Seq, Opt, Made, Either, Here, Behind, Between, More, Perhaps}
use Rattle.gql_model.specs.Names.{NameRule, FragmentNameRule}
use Rattle.gql_model.specs.Types.{TypeRule}
use Rattle.gql_model.specs.Literals.{ValueRule}
use Rattle.gql_model.specs.Selections.{DirectivesRule, SetRule}

-- OperationType = "query" | "mutation" | "subscription"
abbrev pub kind_of : Token → Option OperationKind
kind_of x =
    if is_in (word (codes "query")) x then Some Query else (
    if is_in (word (codes "mutation")) x then Some Mutation else (
    if is_in (word (codes "subscription")) x then Some Subscription else None))

-- one token that is an OperationType, and the kind of operation that it names
abbrev pub KindRule : Rule OperationKind
KindRule = One kind_of

-- Default = "=" ConstValue
abbrev pub DefaultRule : Rule Literal
DefaultRule = Behind (mark kind.Equals) (ValueRule true)

-- a variable definition: the place of its `$`, its name, its type, its default if any and its directives
abbrev pub variable_definition_of : Place → Name × (TypeNode × (Option Literal × List Directive)) → VariableDefinition
variable_definition_of place p = record { place = place; name = p.0; variable_type = p.1.0; default = p.1.1.0; directives = p.1.1.1 }

-- VariableDefinition = "$" Name ":" Type Default? ConstDirectives
abbrev pub VariableDefinitionRule : Rule VariableDefinition
VariableDefinitionRule =
    Here (λ place. Made (variable_definition_of place) (Behind (mark kind.Dollar) (Seq NameRule (Behind (mark kind.Colon) (Seq TypeRule (Seq (Opt DefaultRule) (DirectivesRule true)))))))

-- VariableDefinitions = "(" VariableDefinition+ ")"
abbrev pub VariablesRule : Rule (List VariableDefinition)
VariablesRule = Between (mark kind.ParenOpen) (mark kind.ParenClose) (More VariableDefinitionRule)

-- a selection set alone is an anonymous query
abbrev pub short_of : Place → SelectionSet → Operation
short_of place set = record { place = place; kind = Query; name = None; variables = []; directives = []; selection_set = set }

-- Set, which stands alone for an operation (2.3, query shorthand)
abbrev pub ShortRule : Place → Rule Operation
ShortRule place = Made (short_of place) SetRule

-- an operation: the place of its first word, its kind, its name if any, its variables, its directives and its selection set
abbrev pub long_of : Place → OperationKind × (Option Name × (List VariableDefinition × (List Directive × SelectionSet))) → Operation
long_of place p = record { place = place; kind = p.0; name = p.1.0; variables = p.1.1.0; directives = p.1.1.1.0; selection_set = p.1.1.1.1 }

-- OperationType Name? VariableDefinitions? Directives Set
abbrev pub LongRule : Place → Rule Operation
LongRule place = Made (long_of place) (Seq KindRule (Seq (Opt NameRule) (Seq (Perhaps VariablesRule) (Seq (DirectivesRule false) SetRule))))

-- Operation = Set | OperationType Name? VariableDefinitions? Directives Set
abbrev pub OperationRule : Rule Operation
OperationRule = Here (λ place. Either (ShortRule place) (LongRule place))

-- a fragment definition: the place of `fragment`, its name, its type condition, its directives and its selection set
abbrev pub fragment_of : Place → Name × (Name × (List Directive × SelectionSet)) → Fragment
fragment_of place p = record { place = place; name = p.0; type_condition = p.1.0; directives = p.1.1.0; selection_set = p.1.1.1 }

-- Fragment = "fragment" Name-not-on "on" Name Directives Set
abbrev pub FragmentRule : Rule Fragment
FragmentRule =
    Here (λ place. Made (fragment_of place) (Behind (word (codes "fragment")) (Seq FragmentNameRule (Seq (Behind (word (codes "on")) NameRule) (Seq (DirectivesRule false) SetRule)))))
