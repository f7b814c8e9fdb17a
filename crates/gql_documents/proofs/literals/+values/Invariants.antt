use Rattle.std.proofs.Common.{◌*◌, ◌+◌, ◌≡◌, ◌≤◌, length}
use Rattle.gql_documents.specs.Parsing.{onto, many}
use Rattle.gql_documents.specs.Literals as spec
use Rattle.gql_model.specs.Names.{any_name}
use Rattle.gql_documents.proofs.literals.+values.Given as goal

abbrev pub decreases-list : goal.decreases-list
decreases-list l = 5 * length l.tokens.now

abbrev pub decreases-object : goal.decreases-object
decreases-object l = 5 * length l.tokens.now

abbrev pub decreases-object_field : goal.decreases-object_field
decreases-object_field l = 5 * length l.tokens.now

abbrev pub decreases-literal_value : goal.decreases-literal_value
decreases-literal_value l = 5 * length l.tokens.now + 1

abbrev pub decreases-value : goal.decreases-value
decreases-value l = 5 * length l.tokens.now + 2

abbrev pub decreases-values : goal.decreases-values
decreases-values l = 5 * length l.tokens.now + 3

abbrev pub decreases-object_fields : goal.decreases-object_fields
decreases-object_fields l = 5 * length l.tokens.now + 3

abbrev pub invariant-values-turn : goal.invariant-values-turn
invariant-values-turn l = record {
  reads : onto l.all (many spec.value_start (spec.value l.fn.constant) l.tokens) ≡ many spec.value_start (spec.value l.fn.constant) l.fn.tokens;
  shorter : length l.tokens ≤ length l.fn.tokens;
}

abbrev pub decreases-values-turn : goal.decreases-values-turn
decreases-values-turn l = length l.tokens

abbrev pub invariant-object_fields-turn : goal.invariant-object_fields-turn
invariant-object_fields-turn l = record {
  reads : onto l.all (many any_name (spec.object_field (spec.value l.fn.constant)) l.tokens) ≡ many any_name (spec.object_field (spec.value l.fn.constant)) l.fn.tokens;
  shorter : length l.tokens ≤ length l.fn.tokens;
}

abbrev pub decreases-object_fields-turn : goal.decreases-object_fields-turn
decreases-object_fields-turn l = length l.tokens
