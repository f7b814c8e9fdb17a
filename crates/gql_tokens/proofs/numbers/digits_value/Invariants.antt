use Rattle.std.proofs.Common.{◌≡◌, drop}
use Rattle.gql_tokens.specs.Numbers as spec
use Rattle.gql_tokens.proofs.numbers.digits_value.Given as goal

abbrev pub invariant-digits : goal.invariant-digits
invariant-digits l = spec.digits_after l.value (drop l.digit-index l.digits) ≡ spec.digits_value l.digits
