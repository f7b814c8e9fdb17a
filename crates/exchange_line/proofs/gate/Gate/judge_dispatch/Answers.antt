use Rattle.std.proofs.Common.{ap}
use Rattle.std.specs.Option.{option_copied}
use Rattle.schema_model.specs.Tables.{tabled}
use Rattle.gate_machine.specs.Machine.{GatewayState}
use Rattle.exchange_line.proofs.DispatchLaws.{accepted_by_same, refused_by_same}
use Rattle.exchange_line.proofs.gate.Gate.judge_dispatch.Goals as goal

pub returns-clause-accepted : goal.returns-clause-accepted
returns-clause-accepted c =
    accepted_by_same c.self.inside.service c.args.self.now.service c.args.asked.query.now (option_copied c.as_ref-name.result) c.args.asked.operation c.in_ok-values.values (tabled c.args.asked.variables) c.judge.result
    (ap (λ (s : GatewayState). s.service) c.self.view_is) c.as_ref-name.ensures.value c.in_ok-values.ensures c.judge.ensures.accepted

pub returns-clause-refused : goal.returns-clause-refused
returns-clause-refused c =
    refused_by_same c.self.inside.service c.args.self.now.service c.args.asked.query.now (option_copied c.as_ref-name.result) c.args.asked.operation c.in_ok-values.values (tabled c.args.asked.variables) c.judge.result
    (ap (λ (s : GatewayState). s.service) c.self.view_is) c.as_ref-name.ensures.value c.in_ok-values.ensures c.judge.ensures.refused
