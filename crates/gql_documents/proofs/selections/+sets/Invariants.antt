use Rattle.std.proofs.Common.{◌*◌, ◌+◌, ◌≡◌, ◌≤◌, length}
use Rattle.gql_documents.specs.Parsing.{onto, many}
use Rattle.gql_documents.specs.Selections as spec
use Rattle.gql_documents.proofs.selections.+sets.Given as goal

abbrev pub decreases-selection_set : goal.decreases-selection_set
decreases-selection_set l = 6 * length l.tokens.now

abbrev pub decreases-set_if_any : goal.decreases-set_if_any
decreases-set_if_any l = 6 * length l.tokens.now + 1

abbrev pub decreases-field : goal.decreases-field
decreases-field l = 6 * length l.tokens.now + 2

abbrev pub decreases-inline : goal.decreases-inline
decreases-inline l = 6 * length l.tokens.now + 2

abbrev pub decreases-spreading : goal.decreases-spreading
decreases-spreading l = 6 * length l.tokens.now + 3

abbrev pub decreases-selection : goal.decreases-selection
decreases-selection l = 6 * length l.tokens.now + 4

abbrev pub decreases-more_selections : goal.decreases-more_selections
decreases-more_selections l = 6 * length l.tokens.now + 5

abbrev pub invariant-more_selections-turn : goal.invariant-more_selections-turn
invariant-more_selections-turn l = record {
  reads : onto l.all (many spec.selection_start (spec.selection spec.set) l.tokens) ≡ onto l.fn.all (many spec.selection_start (spec.selection spec.set) l.fn.tokens);
  shorter : length l.tokens ≤ length l.fn.tokens;
}

abbrev pub decreases-more_selections-turn : goal.decreases-more_selections-turn
decreases-more_selections-turn l = length l.tokens
