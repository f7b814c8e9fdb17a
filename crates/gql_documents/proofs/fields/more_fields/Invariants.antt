use Rattle.std.proofs.Common.{◌≡◌, ◌≤◌, [], ◌∷◌, length}
use Rattle.gql_documents.specs.Parsing.{onto, many}
use Rattle.gql_documents.specs.TypeSystems as spec
use Rattle.gql_documents.proofs.fields.more_fields.Given as goal

abbrev pub invariant-turn : goal.invariant-turn
invariant-turn l = record {
  reads : onto l.all (many spec.described_start (spec.field_definition) l.tokens) ≡ onto l.fn.all (many spec.described_start (spec.field_definition) l.fn.tokens);
  shorter : length l.tokens ≤ length l.fn.tokens;
}

abbrev pub decreases-turn : goal.decreases-turn
decreases-turn l = length l.tokens
