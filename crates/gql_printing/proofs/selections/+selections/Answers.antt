use Rattle.std.proofs.Common.{◌+◌, ◌++◌, [], ◌∷◌, List, map, drop, ap, sym}
use Rattle.std.specs.Option.{option_map}
use Rattle.gql_tokens.specs.declared.token.Kind.TheVariants as kind
use Rattle.gql_model.specs.declared.selection.SelectionSet.{out-SelectionSet}
use Rattle.gql_model.specs.declared.selection.Selection.TheFolds.{fold_out-SelectionSet, fold_out-InlineFragment}
use Rattle.gql_model.specs.declared.selection.Selection.{Selection}
use Rattle.gql_model.specs.declared.selection.Field.{out-Field}
use Rattle.gql_model.specs.declared.selection.InlineFragment.{out-InlineFragment}
use Rattle.gql_printing.specs.Tokens.{Toks, joined, optional, punctuator, word}
use Rattle.gql_printing.specs.Selections.{selection_tokens, set_tokens, field_step, inline_step, selection_step, set_step, alias_tokens, arguments_tokens, directives_tokens, condition_tokens, or_nothing}
use Rattle.gql_printing.proofs.Folds.{field_out}
use Rattle.gql_printing.proofs.Writing.{drop_turn, turn, then, written_as}
use Rattle.gql_printing.proofs.selections.+selections.Goals as goal

pub print_selections-selections-preserved : goal.print_selections-selections-preserved
print_selections-selections-preserved t c =
    let items = c.as_slice-selection-items.result.now in
    let i = c.selections.selection-index in
    let item = c.selection-item.result in
    turn _ c.selections.printer _ (selection_tokens item) (joined (map selection_tokens (drop (i + 1) items))) _
    (ap (λ (rest : List Selection). joined (map selection_tokens rest)) (drop_turn items i item c.selections-test.true c.selection-item.is))
    c.selections.invariant c.in_ok-print_selection.ensures

pub print_field-returns : goal.print_field-returns
print_field-returns t c =
    let f = out-Field c.args.field.now in
    let set = or_nothing (option_map set_tokens f.selection_set) in
    let directives = directives_tokens f.directives in
    let arguments = arguments_tokens f.arguments in
    let name = word f.name.text ∷ [] in
    written_as _ _ _ _ _ (sym (field_out c.args.field.now))
    (then _ _ _ _ (optional alias_tokens f.alias) (name ++ (arguments ++ (directives ++ set))) c.in_ok-print_alias.ensures
    (then _ _ _ _ name (arguments ++ (directives ++ set)) c.in_ok-name.ensures
    (then _ _ _ _ arguments (directives ++ set) c.in_ok-print_arguments.ensures
    (then _ _ _ _ directives set c.in_ok-print_directives.ensures c.print_inner.ensures))))

pub print_inline-returns : goal.print_inline-returns
print_inline-returns t c =
    let f = out-InlineFragment c.args.fragment.now in
    let set = set_tokens f.selection_set in
    let directives = directives_tokens f.directives in
    let condition = optional condition_tokens f.type_condition in
    written_as _ _ _ _ _ (sym (fold_out-InlineFragment Toks Toks Toks Toks selection_step field_step inline_step set_step c.args.fragment.now))
    (then _ _ _ _ (punctuator kind.Spread ∷ []) (condition ++ (directives ++ set)) c.in_ok-punctuator.ensures
    (then _ _ _ _ condition (directives ++ set) c.in_ok-print_condition_if_any.ensures
    (then _ _ _ _ directives set c.in_ok-print_directives.ensures c.print_set.ensures)))

pub print_set-returns : goal.print_set-returns
print_set-returns t c =
    let s = out-SelectionSet c.args.set.now in
    let inner = joined (map selection_tokens s.selections) in
    written_as _ _ _ _ _ (sym (fold_out-SelectionSet Toks Toks Toks Toks selection_step field_step inline_step set_step c.args.set.now))
    (then _ _ _ _ (punctuator kind.BraceOpen ∷ []) (inner ++ punctuator kind.BraceClose ∷ []) c.in_ok-punctuator.ensures
    (then _ _ _ _ inner (punctuator kind.BraceClose ∷ []) c.in_ok-print_selections.ensures c.punctuator-2.ensures))
