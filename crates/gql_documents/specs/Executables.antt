-- The parser of operations and fragments (GraphQL October 2021, 2.3, 2.8 and 2.10).
use Rattle.std.specs.Prelude.{true, false, List, Option, codes}
use Rattle.gql_tokens.specs.declared.token.Kind.TheVariants as kind
use Rattle.gql_tokens.specs.declared.token.Place.{Place}
use Rattle.gql_model.specs.declared.literal.Literal.{Literal}
use Rattle.gql_model.specs.declared.executable.OperationKind.{OperationKind}
use Rattle.gql_model.specs.declared.executable.Operation.{Operation}
use Rattle.gql_model.specs.declared.executable.VariableDefinition.{VariableDefinition}
use Rattle.gql_model.specs.declared.executable.Fragment.{Fragment}
use Rattle.gql_model.specs.declared.name.Name.{Name}
use Rattle.gql_model.specs.Sorts.{mark, word}
use Rattle.gql_model.specs.Names.{any_name}
use Rattle.gql_model.specs.Executables.{kind_of, variable_definition_of, short_of, long_of, fragment_of}
use Rattle.gql_documents.specs.Parsing.{Parser, tok, seq, via, opt, either, here, behind, between, more, perhaps}
use Rattle.gql_documents.specs.Names.{name, fragment_named, type_node}
use Rattle.gql_documents.specs.Literals.{value}
use Rattle.gql_documents.specs.Selections.{directives, set}

-- OperationType = "query" | "mutation" | "subscription"
unfoldable pub operation_kind : Parser OperationKind
operation_kind = tok kind_of

-- Default?: an `=` and a value without variables, where an `=` stands
unfoldable pub default_if_any : Parser (Option Literal)
default_if_any = opt (mark kind.Equals) (behind (mark kind.Equals) (value true))

-- VariableDefinition = "$" Name ":" Type Default? ConstDirectives
unfoldable pub variable_definition : Parser VariableDefinition
variable_definition =
    here (λ place. via (variable_definition_of place) (behind (mark kind.Dollar) (seq name (behind (mark kind.Colon) (seq type_node (seq default_if_any (directives true)))))))

-- VariableDefinitions = "(" VariableDefinition+ ")"
unfoldable pub variables : Parser (List VariableDefinition)
variables = between (mark kind.ParenOpen) (mark kind.ParenClose) (more (mark kind.Dollar) variable_definition)

-- VariableDefinitions?: they are there where a `(` stands
unfoldable pub variables_if_any : Parser (List VariableDefinition)
variables_if_any = perhaps (mark kind.ParenOpen) variables

-- Name?: it is there where a name stands
unfoldable pub name_if_any : Parser (Option Name)
name_if_any = opt any_name name

-- Set alone, which is an anonymous query
unfoldable pub short : Place → Parser Operation
short place = via (short_of place) set

-- OperationType Name? VariableDefinitions? Directives Set
unfoldable pub long : Place → Parser Operation
long place = via (long_of place) (seq operation_kind (seq name_if_any (seq variables_if_any (seq (directives false) set))))

-- Operation: the short form where a `{` stands, else the long one
unfoldable pub operation : Parser Operation
operation = here (λ place. either (mark kind.BraceOpen) (short place) (long place))

-- Fragment = "fragment" Name-not-on "on" Name Directives Set
unfoldable pub fragment : Parser Fragment
fragment =
    here (λ place. via (fragment_of place) (behind (word (codes "fragment")) (seq fragment_named (seq (behind (word (codes "on")) name) (seq (directives false) set)))))
