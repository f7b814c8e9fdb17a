use Rattle.std.proofs.Common.{◌≡◌, rules}
use Rattle.gate_machine.specs.Runs.{line_run}
use Rattle.gateway.proofs.Fronts.{WritesFront-take}
use Rattle.gateway.proofs.lines.run_line.Goals as goal

pub returns-in-Err-clause-sink : goal.returns-in-Err-clause-sink
returns-in-Err-clause-sink g c e =
    let h = c.in-Err.ensures.err in
    let same : c.as_slice.result.now ≡ (line_run c.args.number c.args.line.now c.args.gate.now).text = search rules in
    (c.in-Err.ensures.cause.failed, WritesFront-take _ _ h.0 _ _ same h.1)
