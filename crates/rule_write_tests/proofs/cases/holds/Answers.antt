use Rattle.std.proofs.Common.{sym, ap, subst, ◌∙◌}
use Rattle.checked_operation.specs.declared.checked.Checked.{Checked}
use Rattle.checked_operation.specs.Acceptance.{IsWhole}
use Rattle.execution_model.specs.Asked.{Execution}
use Rattle.execution_model.specs.Fronts.{fronts_of}
use Rattle.rule_write_tests.proofs.cases.holds.Goals as goal

-- the operation is whole, and the fronts are those of its document
pub is_written-requires : goal.is_written-requires
is_written-requires c = record {
  whole = subst (λ (o : Checked). IsWhole o) (sym c.in_ok-asking.ensures.operation) c.in_ok-operation.ensures;
  fronts =
      c.in_ok-asking.ensures.fronts
      ∙ c.as_slice.ensures
      ∙ c.in_ok-fronts.ensures
      ∙ sym (ap (λ (e : Execution). fronts_of e.schema e.document) c.in_ok-asking.ensures.execution);
}
