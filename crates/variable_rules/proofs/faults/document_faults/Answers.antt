use Rattle.std.proofs.Common.{arith, ap, sym, ◌∙◌, ◌+◌, drop}
use Rattle.std.specs.List.{enumerate_from}
use Rattle.variable_rules.specs.Faults.{faults_in, either}
use Rattle.variable_rules.proofs.FaultLaws.{faults_next}
use Rattle.variable_rules.proofs.faults.document_faults.Goals as goal

pub definitions-preserved : goal.definitions-preserved
definitions-preserved c =
    faults_next c.args.scope.now.schema.now c.args.scope.now.document.now c.as_slice-definitions.result.now c.definitions.place c.index-definitions-place.result
    _ c.definitions.faults c.in_ok-definition_faults.field-0
    (omega arith) c.index-definitions-place.is c.definitions.invariant c.in_ok-definition_faults.ensures
    ∙ ap (λ e. either e (faults_in c.args.scope.now.schema.now c.args.scope.now.document.now
    (enumerate_from (c.definitions.place + 1) (drop (c.definitions.place + 1) c.as_slice-definitions.result.now)))) (sym c.either-faults.ensures)
