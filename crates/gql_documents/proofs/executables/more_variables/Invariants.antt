use Rattle.std.proofs.Common.{◌≡◌, ◌≤◌, [], ◌∷◌, length}
use Rattle.gql_documents.specs.Parsing.{onto, many}
use Rattle.gql_documents.specs.Executables as spec
use Rattle.gql_model.specs.Sorts.{mark}
use Rattle.gql_tokens.specs.declared.token.Kind.TheVariants as kind
use Rattle.gql_documents.proofs.executables.more_variables.Given as goal

abbrev pub invariant-turn : goal.invariant-turn
invariant-turn l = record {
  reads : onto l.all (many (mark kind.Dollar) (spec.variable_definition) l.tokens) ≡ onto l.fn.all (many (mark kind.Dollar) (spec.variable_definition) l.fn.tokens);
  shorter : length l.tokens ≤ length l.fn.tokens;
}

abbrev pub decreases-turn : goal.decreases-turn
decreases-turn l = length l.tokens
