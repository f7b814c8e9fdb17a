use Rattle.std.proofs.Common.{◌≡◌, ◌-◌, ◌≤◌, length}
use Rattle.gql_tokens.specs.Lexemes.{ignored_len}
use Rattle.gql_tokens.specs.Tokens.{tokens_from}
use Rattle.gql_tokens.specs.Readings.{HasRoom}
use Rattle.gql_tokens.specs.Heads.{IsBehind}
use Rattle.gql_tokens.proofs.heads.skip_ignored.Given as goal

abbrev pub invariant-ignored : goal.invariant-ignored
invariant-ignored l = record {
  tokens : tokens_from l.place l.rest ≡ tokens_from l.fn.start l.text;
  len : l.len ≡ ignored_len l.rest;
  within : l.len ≤ length l.rest;
  room : HasRoom l.place l.rest;
  behind : IsBehind l.fn.start l.text (length l.text - length l.rest) l.place l.rest;
}

abbrev pub decreases-ignored : goal.decreases-ignored
decreases-ignored l = length l.rest
