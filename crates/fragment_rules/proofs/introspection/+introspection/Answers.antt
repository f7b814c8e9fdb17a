use Rattle.std.proofs.Common.{arith, Bool}
use Rattle.check_model.specs.Introspection.{introspects_in_selection}
use Rattle.schema_defaults.proofs.TestLaws.{any_next, any_holds}
use Rattle.fragment_rules.proofs.introspection.+introspection.Goals as goal

pub introspects-returns-then-selection_introspects : goal.introspects-returns-then-selection_introspects
introspects-returns-then-selection_introspects t c =
    any_holds (λ (b : Bool). b) introspects_in_selection c.as_slice-selection-items.result.now c.selections.selection-index c.selection-item.result _ _
    (omega arith) c.selection-item.is c.selections.invariant c.selection_introspects.ensures c.if-selection_introspects.true

pub introspects-selections-preserved : goal.introspects-selections-preserved
introspects-selections-preserved t c =
    any_next (λ (b : Bool). b) introspects_in_selection c.as_slice-selection-items.result.now c.selections.selection-index c.selection-item.result _ _
    (omega arith) c.selection-item.is c.selections.invariant c.selection_introspects.ensures c.if-selection_introspects.false
