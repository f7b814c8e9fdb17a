use Rattle.std.proofs.Common.{rules, of_calls, ap, ◌∙◌, Err}
use Rattle.std.proofs.lemmas.Result.{err_from_is_err_and}
use Rattle.stream_core.proofs.DrainLaws.{goes_on, stops, ends, falls}
use Rattle.stream_core.proofs.draining.drain_with.Goals as goal

pub loop-command-preserved : goal.loop-command-preserved
loop-command-preserved g c = (
  search of_calls,
  λ answer last left run. c.loop-command.invariant.1 answer last left
      (goes_on g.F.FnMut (λ q. q.items) c.loop-command.f c.in-Some.command _ c.f.result _ c.f.new.self c.f.ensures c.in_ok-f.was c.loop-command.queue.items c.in-Some.ensures.items answer last left run),
)

pub returns-in_err-f-clause-run : goal.returns-in_err-f-clause-run
returns-in_err-f-clause-run g c =
    let p = err_from_is_err_and c.from_residual.result c.from_residual.ensures.1 in
    c.loop-command.invariant.1 _ _ _
    (stops g.F.FnMut (λ q. q.items) c.loop-command.f c.in-Some.command _ c.f.result _ c.f.new.self c.f.ensures c.in_err-f.field-0.0 c.in_err-f.was c.loop-command.queue.items c.in-Some.ensures.items c.from_residual.result (p.1 ∙ ap Err p.2))

pub returns-clause-run : goal.returns-clause-run
returns-clause-run g c =
    c.loop-command.invariant.1 _ _ _ (ends g.F.FnMut (λ q. q.items) c.loop-command.f c.loop-command.queue.items c.pop_front.new.self.items (search rules) (search rules))

pub loop-command-smaller : goal.loop-command-smaller
loop-command-smaller g c = falls g.F.FnMut (λ q. q.items) g.C.Weighed.weight c.requires.lighter c.loop-command.f c.in-Some.command _ c.f.result _ c.f.new.self c.loop-command.invariant.0 c.f.ensures c.in_ok-f.was c.loop-command.queue.items c.in-Some.ensures.items
