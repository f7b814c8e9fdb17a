use Rattle.std.proofs.Common.{◌≡◌, ◌≤◌, [], ◌∷◌, length}
use Rattle.gql_documents.specs.Parsing.{onto, many}
use Rattle.gql_documents.specs.Selections as spec
use Rattle.gql_model.specs.Sorts.{mark}
use Rattle.gql_tokens.specs.declared.token.Kind.TheVariants as kind
use Rattle.gql_documents.proofs.selections.directives.Given as goal

abbrev pub invariant-turn : goal.invariant-turn
invariant-turn l = record {
  reads : onto l.all (many (mark kind.At) (spec.directive l.fn.constant) l.tokens) ≡ many (mark kind.At) (spec.directive l.fn.constant) l.fn.tokens;
  shorter : length l.tokens ≤ length l.fn.tokens;
}

abbrev pub decreases-turn : goal.decreases-turn
decreases-turn l = length l.tokens
