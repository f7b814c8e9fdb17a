-- What follows a change: live queries are re-evaluated, and then due fetches are issued.
use Rattle.machine_model.specs.Operations.{Meaning}
use Rattle.machine_model.specs.State.{GatewayState}
use Rattle.machine_model.specs.Steps.{Step, Change, Sequel, stops, issues, reevaluates, unmoved, and_then, made}
use Rattle.machine_model.specs.Reevaluation.{reevaluated}
use Rattle.machine_model.specs.Issue.{issued}

-- nothing follows; or due fetches are issued; or live queries are re-evaluated, and then due fetches are issued
abbrev pub followed : {O : Type 0} → Meaning O → Sequel → GatewayState O → Step O
followed meaning stops state = unmoved state
followed meaning issues state = issued meaning state
followed meaning (reevaluates ticket answer) state = and_then (reevaluated meaning answer state) (issued meaning)

-- a change with all that follows it
abbrev pub concluded : {O : Type 0} → Meaning O → Change O → Step O
concluded meaning change = and_then (made change) (followed meaning change.sequel)
