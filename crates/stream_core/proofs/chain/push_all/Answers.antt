use Rattle.std.proofs.Common.{rules, ◌≡◌, List, [], ◌∷◌, sym, ◌∙◌, subst}
use Rattle.std.proofs.lemmas.List.{map-id, map-append}
use Rattle.std.proofs.lemmas.Iterator.Consumers.{YieldsList-end}
use Rattle.std.proofs.lemmas.Iterator.Adapters.{YieldsList-from_vec}
use Rattle.stream_core.specs.declared.signal.Signal.{Signal}
use Rattle.stream_core.specs.declared.calls.Call.{Call}
use Rattle.stream_core.specs.declared.calls.Call.TheVariants as call
use Rattle.stream_core.specs.Walks.{Walk, pushes}
use Rattle.stream_core.proofs.Walks.{pushed}
use Rattle.stream_core.proofs.chain.push_all.Goals as goal

pub loop-signal-preserved : goal.loop-signal-preserved
loop-signal-preserved g c =
    let gives = g.S.Stage.gives c.args.stage.now in
    let p = g.S.Stage.phase c.args.stage.now in
    let q = g.S.Stage.phase c.push.new.self in
    let held = c.loop-signal.invariant.2 in
    let next = pushed gives (g.S.Stage.gives c.loop-signal.stage) c.loop-signal.invariant.1 p (pushes c.loop-signal.yielded) held.0 (g.S.Stage.phase c.loop-signal.stage) held.2 c.args.out.now.items c.loop-signal.out.items held.1 c.in-Some.signal q c.push.new.out.items (search rules) in
    let P : List (Call g.row.S-In.Denot) → Type 0 = λ calls. Walk gives p calls next.0 q in
    (search rules, λ x ys ends k. c.loop-signal.invariant.1 x ys ends (c.push.ensures.same x ys ends k), (next.0, next.1, subst P (sym (map-append call.Push c.loop-signal.yielded (c.in-Some.signal ∷ []))) next.2))

pub returns-clause-pushed : goal.returns-clause-pushed
returns-clause-pushed g c =
    let gives = g.S.Stage.gives c.args.stage.now in
    let p = g.S.Stage.phase c.args.stage.now in
    let held = c.loop-signal.invariant.2 in
    let seen = YieldsList-end (YieldsList-from_vec c.args.signals.items (search rules) (search rules)) c.loop-signal.yielded _ c.loop-signal.yielded_by c.next.result c.next.new.self c.in-None.is c.next.ensures.steps in
    let all : c.loop-signal.yielded ≡ c.args.signals.items = sym (map-id c.loop-signal.yielded) ∙ seen.0 in
    let P : List (Signal g.row.S-In.Denot) → Type 0 = λ signals. Walk gives p (pushes signals) held.0 (g.S.Stage.phase c.loop-signal.stage) in
    (held.0, held.1, subst P all held.2)
