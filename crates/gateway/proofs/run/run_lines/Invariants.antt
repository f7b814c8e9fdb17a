use Rattle.std.proofs.Common.{◌-◌, ◌≤◌}
use Rattle.gateway.proofs.Reading.{Reading}
use Rattle.gateway.proofs.run.run_lines.Given as goal

abbrev pub invariant-reads : goal.invariant-reads
invariant-reads g l = record {
  reading : Reading l.fn.service g.I.Source.left g.I.Source.given g.O.Sink.held l.initial.input l.input l.initial.out l.out l.lines l.taken;
  within : l.taken ≤ l.limit;
  source : g.I.Source.faults l.initial.input ≤ g.I.Source.faults l.input;
  sink : g.O.Sink.faults l.initial.out ≤ g.O.Sink.faults l.out;
}

abbrev pub decreases-reads : goal.decreases-reads
decreases-reads g l = l.limit - l.taken
