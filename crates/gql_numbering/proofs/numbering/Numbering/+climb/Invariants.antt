use Rattle.std.proofs.Common.{◌+◌, ◌*◌}
use Rattle.gql_numbering.proofs.numbering.Numbering.+climb.Given as goal

-- a selection is found by a set with the same number, and a set by a selection of a set with a lower one
abbrev pub decreases-selection : goal.decreases-selection
decreases-selection l = 2 * l.spot.set + 1

abbrev pub decreases-set : goal.decreases-set
decreases-set l = 2 * l.number
