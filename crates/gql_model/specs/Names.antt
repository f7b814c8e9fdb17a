-- Names (GraphQL October 2021, 2.1.9).
use Rattle.std.specs.Prelude.{true, false, List, [], ◌∷◌, Option, Some, None, if◌then◌else◌, codes}
use Rattle.gql_tokens.specs.Tokens.{Token}
use Rattle.gql_model.specs.declared.name.Name.{Name}
use Rattle.gql_model.specs.Sorts.{Sort, Unlike, is_in, mark}
use Rattle.gql_model.specs.Rules.{Rule, One}
use Rattle.gql_tokens.specs.declared.token.Kind.TheVariants as kind

-- the name that a token of these sorts is
abbrev pub name_in : List Sort → Token → Option Name
name_in sorts x = if is_in sorts x then Some (record { place = x.place; text = x.text }) else None

-- every token that is a name
abbrev pub any_name : List Sort
any_name = mark kind.Name

-- Name
abbrev pub NameRule : Rule Name
NameRule = One (name_in any_name)

-- FragmentName: Name but not `on`
abbrev pub fragment_name : List Sort
fragment_name = Unlike (codes "on" ∷ []) ∷ []

-- one token that is a FragmentName, as a name with its place (2.8)
abbrev pub FragmentNameRule : Rule Name
FragmentNameRule = One (name_in fragment_name)

-- EnumValue: Name but not `true`, `false` or `null`
abbrev pub enum_name : List Sort
enum_name = Unlike (codes "true" ∷ codes "false" ∷ codes "null" ∷ []) ∷ []

-- one token that is an EnumValue, as a name with its place (2.9.6)
abbrev pub EnumNameRule : Rule Name
EnumNameRule = One (name_in enum_name)
