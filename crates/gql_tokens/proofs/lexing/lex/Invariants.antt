use Rattle.std.proofs.Common.{◌≡◌, ◌++◌, ◌-◌, map, length}
use Rattle.gql_tokens.specs.Places.{first_place}
use Rattle.gql_tokens.specs.Tokens.{tokens_of, seen, AreInOrder}
use Rattle.gql_tokens.specs.Heads.{IsHead, IsBehind, tokens_at}
use Rattle.gql_tokens.proofs.lexing.lex.Given as goal

abbrev pub invariant-tokens : goal.invariant-tokens
invariant-tokens l = record {
  tokens : map (seen l.text) l.tokens ++ tokens_at l.head ≡ tokens_of l.text;
  order : AreInOrder 0 (length l.text - length l.head.rest.now) l.tokens;
  head : IsHead l.head;
  behind : IsBehind first_place l.text (length l.text - length l.head.rest.now) l.head.place l.head.rest.now;
}

abbrev pub decreases-tokens : goal.decreases-tokens
decreases-tokens l = length l.head.rest.now
