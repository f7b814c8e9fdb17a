use Rattle.std.proofs.Common.{arith, List, map, ap, sym, ◌∙◌}
use Rattle.std.specs.List.{list_any, flat_map}
use Rattle.check_model.specs.Spreads.{Spreads, selection_spreads, field_spreads, inline_spreads, set_spreads, spreads_of_selection}
use Rattle.gql_model.specs.declared.selection.Selection.TheFolds.{fold_out-SelectionSet}
use Rattle.gql_model.specs.declared.selection.Selection.{Selection}
use Rattle.check_model.proofs.ListLaws.{any_flat_map}
use Rattle.schema_defaults.proofs.TestLaws.{any_next, any_holds}
use Rattle.fragment_rules.specs.Indexes.{lacks}
use Rattle.fragment_rules.proofs.spreads.+unknown.Goals as goal

pub set_spreads_unknown-selections-init : goal.set_spreads_unknown-selections-init
set_spreads_unknown-selections-init t c =
    ap (list_any (lacks c.args.index.now)) (fold_out-SelectionSet Spreads Spreads Spreads Spreads selection_spreads field_spreads inline_spreads set_spreads c.args.set.now)
    ∙ ap (λ (ss : List Selection). list_any (lacks c.args.index.now) (flat_map (λ names. names) (map spreads_of_selection ss))) (sym c.as_slice-selection-items.ensures)
    ∙ any_flat_map (lacks c.args.index.now) (λ (names : Spreads). names) (map spreads_of_selection c.as_slice-selection-items.result.now)

pub set_spreads_unknown-returns-then-selection_spreads_unknown : goal.set_spreads_unknown-returns-then-selection_spreads_unknown
set_spreads_unknown-returns-then-selection_spreads_unknown t c =
    any_holds (list_any (lacks c.args.index.now)) spreads_of_selection c.as_slice-selection-items.result.now c.selections.selection-index c.selection-item.result _ _
    (omega arith) c.selection-item.is c.selections.invariant c.selection_spreads_unknown.ensures c.if-selection_spreads_unknown.true

pub set_spreads_unknown-selections-preserved : goal.set_spreads_unknown-selections-preserved
set_spreads_unknown-selections-preserved t c =
    any_next (list_any (lacks c.args.index.now)) spreads_of_selection c.as_slice-selection-items.result.now c.selections.selection-index c.selection-item.result _ _
    (omega arith) c.selection-item.is c.selections.invariant c.selection_spreads_unknown.ensures c.if-selection_spreads_unknown.false
