use Rattle.std.proofs.Common.{◌≡◌, ◌≤◌, [], ◌∷◌, length}
use Rattle.gql_documents.specs.Parsing.{onto, many}
use Rattle.gql_documents.specs.TypeSystems as spec
use Rattle.gql_model.specs.Sorts.{mark}
use Rattle.gql_documents.proofs.name_lists.more_names.Given as goal

abbrev pub invariant-turn : goal.invariant-turn
invariant-turn l = record {
  reads : onto l.all (many (mark l.fn.kind) (spec.name_behind l.fn.kind) l.tokens) ≡ onto l.fn.all (many (mark l.fn.kind) (spec.name_behind l.fn.kind) l.fn.tokens);
  shorter : length l.tokens ≤ length l.fn.tokens;
}

abbrev pub decreases-turn : goal.decreases-turn
decreases-turn l = length l.tokens
