use Rattle.std.proofs.Common.{arith, sym, ap, ◌∙◌}
use Rattle.std.specs.Prelude.{Some}
use Rattle.check_model.specs.Sizes.{beside, size_of_selection}
use Rattle.fragment_rules.specs.Tables.{size_in}
use Rattle.fragment_rules.proofs.SizeLaws.{size_next, size_stops}
use Rattle.fragment_rules.proofs.sizes.+sizes.Goals as goal

pub set_size-returns-in_err-size : goal.set_size-returns-in_err-size
set_size-returns-in_err-size t c =
    c.from_residual.ensures
    ∙ size_stops (size_of_selection (size_in c.args.index.now c.args.sizes.now)) c.as_slice-selection-items.result.now c.selections.selection-index c.selection-item.result c.selections.total _
    (omega arith) c.selection-item.is c.selections.invariant
    (ap (beside (Some c.selections.total)) (sym c.selection_size.ensures ∙ c.in_err-size.was))

pub set_size-returns-in_err-total : goal.set_size-returns-in_err-total
set_size-returns-in_err-total t c =
    c.from_residual-in_err-total.ensures
    ∙ size_stops (size_of_selection (size_in c.args.index.now c.args.sizes.now)) c.as_slice-selection-items.result.now c.selections.selection-index c.selection-item.result c.selections.total _
    (omega arith) c.selection-item.is c.selections.invariant
    (ap (beside (Some c.selections.total)) (sym c.selection_size.ensures ∙ c.in_ok-size.was) ∙ sym c.both.ensures ∙ c.in_err-total.was)

pub set_size-selections-preserved : goal.set_size-selections-preserved
set_size-selections-preserved t c =
    size_next (size_of_selection (size_in c.args.index.now c.args.sizes.now)) c.as_slice-selection-items.result.now c.selections.selection-index c.selection-item.result c.selections.total (Some c.in_ok-total.total) _
    (omega arith) c.selection-item.is c.selections.invariant
    (ap (beside (Some c.selections.total)) (sym c.selection_size.ensures ∙ c.in_ok-size.was) ∙ sym c.both.ensures ∙ c.in_ok-total.was)
