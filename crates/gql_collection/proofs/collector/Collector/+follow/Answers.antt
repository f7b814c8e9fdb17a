use Rattle.std.proofs.Common.{◌≡◌, IfOk, subst, arith}
use Rattle.execution_model.specs.Collection as spec
use Rattle.gql_collection.specs.States.{collecting, context_of}
use Rattle.gql_collection.proofs.FollowLaws.{one_level, through_next}
use Rattle.gql_collection.proofs.collector.Collector.+follow.Goals as goal

pub follow-returns : goal.follow-returns
follow-returns t c =
    subst (λ (s : spec.Collecting). IfOk c.follow_set.result (λ r. collecting r ≡ s))
    (one_level c.args.depth (context_of c.args.self.now) c.args.set (collecting c.args.state) (omega (arith, c.if-depth-eq0.false)))
    c.follow_set.ensures

pub with_selections-selections-preserved : goal.with_selections-selections-preserved
with_selections-selections-preserved t c =
    through_next
    (spec.with_nth (spec.followed_within c.args.depth (context_of c.args.self.now)) (context_of c.args.self.now) c.args.marks.now)
    c.as_slice-selection-items.result.now c.selections.at c.selection-item.result
    (collecting c.selections.state) (collecting c.in_ok-state.state) _
    (omega arith) c.selection-item.is
    (rw c.mark_at.ensures at c.in_ok-state.ensures)
    c.selections.invariant
