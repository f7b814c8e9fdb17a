-- The tokens of one level of a tree.
use Rattle.std.proofs.Common.{◌≡◌, List, ◌∷◌, ◌++◌, Option, Some, None, refl, ◌∙◌}
use Rattle.std.specs.Option.{option_map}
use Rattle.gql_model.specs.declared.name.Name.{Name}
use Rattle.gql_model.specs.declared.selection.Argument.{Argument}
use Rattle.gql_model.specs.declared.selection.Directive.{Directive}
use Rattle.gql_model.specs.declared.selection.SelectionSet.{SelectionSet}
use Rattle.gql_model.specs.declared.selection.Selection.{Selection}
use Rattle.gql_model.specs.declared.selection.InlineFragment.{InlineFragment}
use Rattle.gql_model.specs.declared.selection.Field.{Field, out-Field}
use Rattle.gql_model.specs.declared.selection.Selection.TheFolds.{map-Field, fold_out-Field}
use Rattle.gql_printing.specs.Tokens.{Toks, word, optional}
use Rattle.gql_printing.specs.Selections.{field_step, inline_step, selection_step, set_step, selection_tokens, field_tokens, inline_tokens, set_tokens, alias_tokens, arguments_tokens, directives_tokens, or_nothing}

-- a field's tokens, part by part
abbrev pub field_form : Option Name → Name → List Argument → List Directive → Option SelectionSet → Toks
field_form alias name arguments directives set =
    optional alias_tokens alias ++ (word name.text ∷ (arguments_tokens arguments ++ (directives_tokens directives ++ or_nothing (option_map set_tokens set))))

pub field_layer : (alias : Option Name) (name : Name) (arguments : List Argument) (directives : List Directive) (set : Option SelectionSet)
    → field_step (map-Field Selection Field InlineFragment SelectionSet Toks Toks Toks Toks selection_tokens field_tokens inline_tokens set_tokens (record { alias = alias; name = name; arguments = arguments; directives = directives; selection_set = set }))
    ≡ field_form alias name arguments directives set
field_layer alias name arguments directives None = refl
field_layer alias name arguments directives (Some set) = refl

pub field_out : (field : Field) → field_tokens field ≡ field_form (out-Field field).alias (out-Field field).name (out-Field field).arguments (out-Field field).directives (out-Field field).selection_set
field_out field =
    fold_out-Field Toks Toks Toks Toks selection_step field_step inline_step set_step field
    ∙ field_layer (out-Field field).alias (out-Field field).name (out-Field field).arguments (out-Field field).directives (out-Field field).selection_set
