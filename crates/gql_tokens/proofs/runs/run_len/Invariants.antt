use Rattle.std.proofs.Common.{◌≡◌, length, ◌+◌}
use Rattle.gql_tokens.specs.Runs.{run}
use Rattle.gql_tokens.specs.Readings.{rule_of}
use Rattle.gql_tokens.proofs.runs.run_len.Given as goal

abbrev pub invariant-characters : goal.invariant-characters
invariant-characters l = record {
  value : l.len + (run (rule_of l.context) l.rest).1 ≡ (run (rule_of l.context) l.text).1;
  within : l.len + length l.rest ≡ length l.text;
}

abbrev pub decreases-characters : goal.decreases-characters
decreases-characters l = length l.rest
