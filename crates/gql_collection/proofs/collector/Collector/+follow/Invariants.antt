use Rattle.std.proofs.Common.{◌≡◌, ◌+◌, ◌*◌, drop}
use Rattle.execution_model.specs.Collection as spec
use Rattle.gql_collection.specs.States.{collecting, context_of}
use Rattle.gql_collection.proofs.collector.Collector.+follow.Given as goal

-- the selections that are left take it to where all of them take it
abbrev pub invariant-with_selections-selections : goal.invariant-with_selections-selections
invariant-with_selections-selections l =
    spec.through (spec.with_nth (spec.followed_within l.depth (context_of l.self)) (context_of l.self) l.marks) l.at (drop l.at l.selection-items) (collecting l.state)
    ≡ spec.through (spec.with_nth (spec.followed_within l.depth (context_of l.self)) (context_of l.self) l.marks) 0 l.selection-items (collecting l.initial.state)

-- what a set leads to is followed less deep
abbrev pub decreases-follow : goal.decreases-follow
decreases-follow l = 8 * l.depth

abbrev pub decreases-follow_set : goal.decreases-follow_set
decreases-follow_set l = 8 * l.depth + 6

abbrev pub decreases-with_selections : goal.decreases-with_selections
decreases-with_selections l = 8 * l.depth + 5

abbrev pub decreases-with_nth : goal.decreases-with_nth
decreases-with_nth l = 8 * l.depth + 4

abbrev pub decreases-with_selection : goal.decreases-with_selection
decreases-with_selection l = 8 * l.depth + 3

abbrev pub decreases-with_spread : goal.decreases-with_spread
decreases-with_spread l = 8 * l.depth + 2

abbrev pub decreases-with_fragment : goal.decreases-with_fragment
decreases-with_fragment l = 8 * l.depth + 1

abbrev pub decreases-with_inline : goal.decreases-with_inline
decreases-with_inline l = 8 * l.depth + 1
