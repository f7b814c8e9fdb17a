use Rattle.std.proofs.Common.{◌≡◌, drop}
use Rattle.std.specs.List.{enumerate_from}
use Rattle.variable_rules.specs.Faults.{faults_of, faults_in, either}
use Rattle.variable_rules.proofs.faults.document_faults.Given as goal

abbrev pub invariant-definitions : goal.invariant-definitions
invariant-definitions l =
    faults_of l.scope.schema.now l.scope.document.now
    ≡ either l.faults (faults_in l.scope.schema.now l.scope.document.now (enumerate_from l.place (drop l.place l.definitions)))
