use Rattle.dependents.proofs.PlacingLaws.{one_less_placed}
use Rattle.dependents.proofs.placing.remove_places.Goals as goal

pub loop-entity-preserved : goal.loop-entity-preserved
loop-entity-preserved c = λ place.
    one_less_placed c.args.sub c.args.turn c.loop-entity.yielded (c.in-Some.entity, c.in-Some.field) place _ _ _ (c.remove.ensures.updates.0 place) (c.loop-entity.invariant place)
