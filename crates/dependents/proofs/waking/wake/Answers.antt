use Rattle.std.proofs.Common.{sym, ◌∙◌}
use Rattle.std.specs.Map.Iter.{deref}
use Rattle.std.proofs.lemmas.Map.Iter.{iter_end}
use Rattle.dependents.proofs.SpanLaws.{forward}
use Rattle.dependents.proofs.PlacingLaws.{one_more_woken, one_more_asleep, all_looked_at}
use Rattle.dependents.proofs.waking.wake.Goals as goal

pub range-place-items-requires : goal.range-place-items-requires
range-place-items-requires c = rw (c.in_ok-start.ensures, c.in_ok-end.ensures) (forward c.args.write.now)

pub loop-place-preserved-in_ok-insert : goal.loop-place-preserved-in_ok-insert
loop-place-preserved-in_ok-insert c = λ sub.
    one_more_woken c.args.write.now sub c.loop-place.yielded c.in-Some.place _ _ _
    (sym c.covers_texts.ensures ∙ c.if-covers_texts.true) (c.in_ok-insert.ensures.updates.0 sub) (c.loop-place.invariant sub)

pub loop-place-preserved : goal.loop-place-preserved
loop-place-preserved c = λ sub.
    one_more_asleep c.args.write.now sub c.loop-place.yielded c.in-Some.place _ _
    (sym c.covers_texts.ensures ∙ c.if-covers_texts.false) (c.loop-place.invariant sub)

pub returns : goal.returns
returns c = λ sub.
    all_looked_at c.args.write.now sub c.in_ok-start.start c.in_ok-end.end c.args.places.now c.loop-place.yielded _ _
    c.in_ok-start.ensures c.in_ok-end.ensures
    (iter_end deref _ c.loop-place.yielded _ _ _ _ (c.into_iter-place-iterator.ensures.into_iter_gives ∙ c.range-place-items.ensures.between tt) c.loop-place.yielded_by c.in-None.is c.next.ensures.steps).0
    (c.loop-place.invariant sub)
