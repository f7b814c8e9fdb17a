use Rattle.std.proofs.Common.{◌≡◌, ◌≤◌, ◌+◌, max, length}
use Rattle.gql_tokens.specs.Nesting.{most_open, nesting_of}
use Rattle.gql_tokens.specs.Heads.{IsHead, tokens_at}
use Rattle.gql_tokens.proofs.brackets.nesting.Given as goal

abbrev pub invariant-tokens : goal.invariant-tokens
invariant-tokens l = record {
  most : max l.most (most_open l.unclosed (tokens_at l.head)) ≡ nesting_of l.text;
  least : l.unclosed ≤ l.most;
  room : l.unclosed + length l.head.rest.now ≤ length l.text;
  head : IsHead l.head;
}

abbrev pub decreases-tokens : goal.decreases-tokens
decreases-tokens l = length l.head.rest.now
