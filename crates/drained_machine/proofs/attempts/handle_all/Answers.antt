use Rattle.std.proofs.Common.{rules, ap, refl, ◌∙◌, ◌+◌}
use Rattle.std.proofs.lemmas.Result.{on_ok_weaker}
use Rattle.drained_machine.proofs.Runs.{ran}
use Rattle.drained_machine.proofs.attempts.handle_all.Goals as goal

pub returns-clause-noted : goal.returns-clause-noted
returns-clause-noted g c = on_ok_weaker c.drain_with.result (λ all. let is = all.0 in let kept = ap (λ p. p.0) all.4 in search rules)
    (ran _ refl c.drain_with.ensures.run (λ f. f.0.now.items) (λ f. f.1.now) (λ f. (f.0.ghost_name, f.1.ghost_name)) (λ f after attempt rest left made. (search rules, search rules, search rules, search rules)))

pub returns-clause-counted : goal.returns-clause-counted
returns-clause-counted g c = on_ok_weaker c.drain_with.result (λ all. let is = all.1 in let kept = ap (λ p. p.1) all.4 in search rules)
    (ran _ refl c.drain_with.ensures.run (λ f. f.0.now.items) (λ f. f.1.now) (λ f. (f.0.ghost_name, f.1.ghost_name)) (λ f after attempt rest left made. (search rules, search rules, search rules, search rules)))

pub returns-clause-exact : goal.returns-clause-exact
returns-clause-exact g c = on_ok_weaker c.drain_with.result (λ all. let is = all.1 ∙ ap (λ n. c.args.steps.now + n) all.2 in let kept = ap (λ p. p.1) all.4 in search rules)
    (ran _ refl c.drain_with.ensures.run (λ f. f.0.now.items) (λ f. f.1.now) (λ f. (f.0.ghost_name, f.1.ghost_name)) (λ f after attempt rest left made. (search rules, search rules, search rules, search rules)))

pub returns-clause-emptied : goal.returns-clause-emptied
returns-clause-emptied g c = on_ok_weaker c.drain_with.result (λ all. all.3)
    (ran _ refl c.drain_with.ensures.run (λ f. f.0.now.items) (λ f. f.1.now) (λ f. (f.0.ghost_name, f.1.ghost_name)) (λ f after attempt rest left made. (search rules, search rules, search rules, search rules)))
