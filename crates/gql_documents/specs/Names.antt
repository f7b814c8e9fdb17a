-- The parser of names and types (GraphQL October 2021, 2.1.9, 2.8, 2.9.6 and 2.11).
use Rattle.gql_tokens.specs.declared.token.Kind.TheVariants as kind
use Rattle.gql_model.specs.declared.name.Name.{Name}
use Rattle.gql_model.specs.declared.type_ref.TypeNode.{TypeNode}
use Rattle.gql_model.specs.Sorts.{mark}
use Rattle.gql_model.specs.Names.{name_in, any_name, fragment_name, enum_name}
use Rattle.gql_model.specs.Types.{type_of, of_name, of_type}
use Rattle.gql_documents.specs.Parsing.{Parser, tok, seq, via, whether, either, between, nested}

-- Name: any, keywords too
unfoldable pub name : Parser Name
name = tok (name_in any_name)

-- FragmentName: Name but not `on`
unfoldable pub fragment_named : Parser Name
fragment_named = tok (name_in fragment_name)

-- EnumValue: Name but not `true`, `false` or `null`
unfoldable pub enum_named : Parser Name
enum_named = tok (name_in enum_name)

-- Type = (Name | "[" Type "]") "!"?, where `inner` reads the type between brackets
unfoldable pub type_over : Parser TypeNode → Parser TypeNode
type_over inner =
    via type_of (seq (either any_name (via of_name name) (via of_type (between (mark kind.BracketOpen) (mark kind.BracketClose) inner))) (whether (mark kind.Bang)))

-- Type, with list types in list types to any depth
unfoldable pub type_node : Parser TypeNode
type_node = nested type_over
