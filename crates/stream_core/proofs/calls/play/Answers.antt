use Rattle.std.proofs.Common.{rules, ◌≡◌, List, [], ◌∷◌, ◌++◌, sym, ◌∙◌, subst}
use Rattle.std.proofs.lemmas.List.{map-id}
use Rattle.std.proofs.lemmas.Iterator.Consumers.{YieldsList-end}
use Rattle.std.proofs.lemmas.Iterator.Adapters.{YieldsList-from_vec}
use Rattle.stream_core.specs.declared.phase.Phase.TheVariants.{Waiting}
use Rattle.stream_core.specs.declared.calls.Call.{Call}
use Rattle.stream_core.specs.Played.{Played}
use Rattle.stream_core.specs.Walks.{Walk}
use Rattle.stream_core.proofs.Walks.{pushed, talked, walk_plays}
use Rattle.stream_core.proofs.calls.play.Goals as goal

pub loop-call-preserved-in-Continue-1 : goal.loop-call-preserved-in-Continue-1
loop-call-preserved-in-Continue-1 g c =
    let gives = g.S.Stage.gives c.args.stage.now in
    let held = c.loop-call.invariant.2 in
    let next = pushed gives (g.S.Stage.gives c.loop-call.stage) c.loop-call.invariant.1 Waiting c.loop-call.yielded held.0 (g.S.Stage.phase c.loop-call.stage) held.2 c.args.out.now.items c.loop-call.out.items held.1 c.in-Push.signal (g.S.Stage.phase c.push.new.self) c.push.new.out.items (search rules) in
    let P : Call g.row.S-In.Denot → Type 0 = λ call. Walk gives Waiting (c.loop-call.yielded ++ call ∷ []) next.0 (g.S.Stage.phase c.push.new.self) in
    (search rules, λ x ys ends k. c.loop-call.invariant.1 x ys ends (c.push.ensures.same x ys ends k), (next.0, next.1, subst P (sym c.in-Push.is) next.2))

pub loop-call-preserved : goal.loop-call-preserved
loop-call-preserved g c =
    let gives = g.S.Stage.gives c.args.stage.now in
    let held = c.loop-call.invariant.2 in
    let next = talked gives Waiting c.loop-call.yielded held.0 (g.S.Stage.phase c.loop-call.stage) held.2 c.in-Talk.talk (g.S.Stage.phase c.talk.new.self) c.talk.ensures.after in
    let P : Call g.row.S-In.Denot → Type 0 = λ call. Walk gives Waiting (c.loop-call.yielded ++ call ∷ []) held.0 (g.S.Stage.phase c.talk.new.self) in
    (c.talk.ensures.ready, λ x ys ends k. c.loop-call.invariant.1 x ys ends (c.talk.ensures.same x ys ends k), (held.0, held.1, subst P (sym c.in-Talk.is) next))

pub returns-clause-played : goal.returns-clause-played
returns-clause-played g c =
    let gives = g.S.Stage.gives c.args.stage.now in
    let held = c.loop-call.invariant.2 in
    let seen = YieldsList-end (YieldsList-from_vec c.args.calls.items (search rules) (search rules)) c.loop-call.yielded _ c.loop-call.yielded_by c.next.result c.next.new.self c.in-None.is c.next.ensures.steps in
    let all : c.loop-call.yielded ≡ c.args.calls.items = sym (map-id c.loop-call.yielded) ∙ seen.0 in
    let P : List (Call g.row.S-In.Denot) → Type 0 = λ calls. Played gives calls held.0 in
    (held.0, held.1, subst P all (walk_plays gives c.loop-call.yielded held.0 (g.S.Stage.phase c.loop-call.stage) held.2))
