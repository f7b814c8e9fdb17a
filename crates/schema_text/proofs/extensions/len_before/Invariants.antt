use Rattle.std.proofs.Common.{◌≡◌, ◌≤◌, ◌+◌, ◌-◌, length}
use Rattle.gql_tokens.specs.Places.{first_place}
use Rattle.schema_text.specs.Extensions.{len_before}
use Rattle.schema_text.proofs.extensions.len_before.Given as goal

abbrev pub invariant-bytes : goal.invariant-bytes
invariant-bytes l = record {
  so_far : (length l.text - length l.rest) + len_before l.target l.place l.rest ≡ len_before l.target first_place l.text;
  within : length l.rest ≤ length l.text;
  row : l.place.row + length l.rest ≤ length l.text + 1;
  column : l.place.column + length l.rest ≤ length l.text + 1;
}

abbrev pub decreases-bytes : goal.decreases-bytes
decreases-bytes l = length l.rest
