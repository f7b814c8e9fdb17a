use Rattle.std.proofs.Common.{arith}
use Rattle.check_model.specs.Spreads.{spreads_of_selection}
use Rattle.check_model.proofs.ListLaws.{next_pushed}
use Rattle.fragment_rules.specs.Indexes.{place_in}
use Rattle.fragment_rules.proofs.spreads.+push.Goals as goal

pub push_set-selections-preserved : goal.push_set-selections-preserved
push_set-selections-preserved t c =
    next_pushed (place_in c.args.index.now) spreads_of_selection c.as_slice-selection-items.result.now c.selections.selection-index c.selection-item.result _ _ _
    (omega arith) c.selection-item.is c.selections.invariant c.in_ok-push_selection.ensures
