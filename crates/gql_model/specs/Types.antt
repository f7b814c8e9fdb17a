-- Types (GraphQL October 2021, 2.11).
use Rattle.std.specs.Prelude.{◌⊎◌, Bool}
use mathlib.Core.Logic.{inl, inr}
use Rattle.gql_model.specs.declared.name.Name.{Name}
use Rattle.gql_model.specs.declared.type_ref.TypeNode.{TypeNode}
use Rattle.gql_model.specs.declared.type_ref.TypeRef.{roll-TypeRef}
use Rattle.gql_model.specs.declared.type_ref.TypeRef.TheOpen.{TypeRef-F}
use Rattle.gql_model.specs.Sorts.{mark}
use Rattle.gql_model.specs.Rules.{Rule, Seq, Made, Whether, Either, Between, Nested}
use Rattle.gql_model.specs.Names.{NameRule}
use Rattle.gql_tokens.specs.declared.token.Kind.TheVariants as kind

-- the type of a name, or of a list of a type, with its mark `!` if it has one
abbrev pub type_of : (Name ⊎ TypeNode) × Bool → TypeNode
type_of (inl name, bang) = record { place = name.place; type_ref = roll-TypeRef (TypeRef-F.Named name.text bang) }
type_of (inr inner, bang) = record { place = inner.place; type_ref = roll-TypeRef (TypeRef-F.List inner.type_ref bang) }

-- a name, as what a type is made of but for its `!`
abbrev pub of_name : Name → Name ⊎ TypeNode
of_name name = inl name

-- the type between brackets, as what a list type is made of but for its `!`
abbrev pub of_type : TypeNode → Name ⊎ TypeNode
of_type inner = inr inner

-- Type = (Name | "[" Type "]") "!"?
abbrev pub TypeOver : Rule TypeNode → Rule TypeNode
TypeOver Inner = Made type_of (Seq (Either (Made of_name NameRule) (Made of_type (Between (mark kind.BracketOpen) (mark kind.BracketClose) Inner))) (Whether (mark kind.Bang)))

-- Type, with list types in list types to any depth
abbrev pub TypeRule : Rule TypeNode
TypeRule = Nested TypeOver
