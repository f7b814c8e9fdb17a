use Rattle.std.proofs.Common.{◌≡◌, ◌++◌, length, string_bytes}
use Rattle.gql_tokens.specs.Runs.{run}
use Rattle.gql_tokens.specs.Readings.{rule_of}
use Rattle.gql_tokens.proofs.runs.run_value.Given as goal

abbrev pub invariant-characters : goal.invariant-characters
invariant-characters l = string_bytes l.value ++ (run (rule_of l.context) l.rest).0 ≡ (run (rule_of l.context) l.text).0

abbrev pub decreases-characters : goal.decreases-characters
decreases-characters l = length l.rest
