-- The tokens of selection sets, arguments and directives (GraphQL October 2021, 2.4 to 2.8 and 2.12).
use Rattle.std.specs.Prelude.{List, [], ◌∷◌, ◌++◌, Option, Some, None, map, codes}
use Rattle.gql_tokens.specs.Tokens.{Token}
use Rattle.gql_tokens.specs.declared.token.Kind.TheVariants as kind
use Rattle.gql_model.specs.declared.name.Name.{Name}
use Rattle.gql_model.specs.declared.selection.Argument.{Argument}
use Rattle.gql_model.specs.declared.selection.Directive.{Directive}
use Rattle.gql_model.specs.declared.selection.Spread.{Spread}
use Rattle.gql_model.specs.declared.selection.SelectionSet.{SelectionSet}
use Rattle.gql_model.specs.declared.selection.Selection.{Selection}
use Rattle.gql_model.specs.declared.selection.Field.{Field}
use Rattle.gql_model.specs.declared.selection.InlineFragment.{InlineFragment}
use Rattle.gql_model.specs.declared.selection.Selection.TheOpen.{SelectionSet-F, Selection-F, Field-F, InlineFragment-F}
use Rattle.gql_model.specs.declared.selection.Selection.TheFolds.{fold-SelectionSet, fold-Selection, fold-Field, fold-InlineFragment}
use Rattle.gql_printing.specs.Tokens.{Toks, punctuator, word, joined, optional, grouped}
use Rattle.gql_printing.specs.Literals.{literal_tokens}

-- a name and its value (2.6)
abbrev pub argument_tokens : Argument → List Token
argument_tokens a = word a.name.text ∷ punctuator kind.Colon ∷ literal_tokens a.value

-- arguments in parentheses, if there are any (2.6)
abbrev pub arguments_tokens : List Argument → List Token
arguments_tokens = grouped kind.ParenOpen kind.ParenClose argument_tokens

-- a directive (2.12)
abbrev pub directive_tokens : Directive → List Token
directive_tokens d = punctuator kind.At ∷ word d.name.text ∷ arguments_tokens d.arguments

-- directives in their order (2.12)
abbrev pub directives_tokens : List Directive → List Token
directives_tokens directives = joined (map directive_tokens directives)

-- the name before a colon (2.7)
abbrev pub alias_tokens : Name → List Token
alias_tokens name = word name.text ∷ punctuator kind.Colon ∷ []

-- the type behind `on` (2.8)
abbrev pub condition_tokens : Name → List Token
condition_tokens name = word (codes "on") ∷ word name.text ∷ []

-- a fragment spread (2.8)
abbrev pub spread_tokens : Spread → List Token
spread_tokens s = punctuator kind.Spread ∷ word s.name.text ∷ directives_tokens s.directives

-- the tokens of a set that may be left out
abbrev pub or_nothing : Option (List Token) → List Token
or_nothing None = []
or_nothing (Some tokens) = tokens

-- one level of a field, where its set is its tokens already
abbrev pub field_step : Field-F Toks Toks Toks Toks → Toks
field_step f =
    optional alias_tokens f.alias ++ (word f.name.text ∷ (arguments_tokens f.arguments ++ (directives_tokens f.directives ++ or_nothing f.selection_set)))

-- one level of an inline fragment (2.8.2)
abbrev pub inline_step : InlineFragment-F Toks Toks Toks Toks → Toks
inline_step f = punctuator kind.Spread ∷ (optional condition_tokens f.type_condition ++ (directives_tokens f.directives ++ f.selection_set))

-- one level of a selection (2.4)
abbrev pub selection_step : Selection-F Toks Toks Toks Toks → Toks
selection_step (Selection-F.Field field) = field
selection_step (Selection-F.Spread spread) = spread_tokens spread
selection_step (Selection-F.Inline fragment) = fragment

-- one level of a selection set (2.4)
abbrev pub set_step : SelectionSet-F Toks Toks Toks Toks → Toks
set_step s = punctuator kind.BraceOpen ∷ (joined s.selections ++ punctuator kind.BraceClose ∷ [])

-- the tokens of a selection set
abbrev pub set_tokens : SelectionSet → Toks
set_tokens = fold-SelectionSet Toks Toks Toks Toks selection_step field_step inline_step set_step

-- the tokens of a selection
abbrev pub selection_tokens : Selection → Toks
selection_tokens = fold-Selection Toks Toks Toks Toks selection_step field_step inline_step set_step

-- the tokens of a field
abbrev pub field_tokens : Field → Toks
field_tokens = fold-Field Toks Toks Toks Toks selection_step field_step inline_step set_step

-- the tokens of an inline fragment
abbrev pub inline_tokens : InlineFragment → Toks
inline_tokens = fold-InlineFragment Toks Toks Toks Toks selection_step field_step inline_step set_step
