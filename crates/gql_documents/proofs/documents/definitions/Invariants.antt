use Rattle.std.proofs.Common.{◌≡◌, ◌≤◌, [], ◌∷◌, length}
use Rattle.gql_documents.specs.Parsing.{onto, many}
use Rattle.gql_documents.specs.Documents as spec
use Rattle.gql_documents.proofs.documents.definitions.Given as goal

abbrev pub invariant-turn : goal.invariant-turn
invariant-turn l = record {
  reads : onto l.all (many spec.definition_start (spec.definition) l.tokens) ≡ many spec.definition_start (spec.definition) l.fn.tokens;
  shorter : length l.tokens ≤ length l.fn.tokens;
}

abbrev pub decreases-turn : goal.decreases-turn
decreases-turn l = length l.tokens
