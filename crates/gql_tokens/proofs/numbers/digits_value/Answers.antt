use Rattle.std.proofs.Common.{◌≤◌, ◌^◌, arith}
use Rattle.gql_tokens.specs.Numbers as spec
use Rattle.gql_tokens.proofs.NumberLaws.{too_large}
use Rattle.gql_tokens.proofs.numbers.digits_value.Goals as goal

pub returns-in_err-shifted : goal.returns-in_err-shifted
returns-in_err-shifted c =
    let h = c.in_err-shifted.ensures in
    let large : 2 ^ 64 ≤ spec.digits_value c.args.digits.now = too_large c.digits.value c.digits.digit-index c.args.digits.now (omega arith) (omega arith) c.digits.invariant in
    rw c.from_residual.ensures large

pub returns-in_err-value : goal.returns-in_err-value
returns-in_err-value c =
    let h = c.in_err-value.ensures in
    let shifted = c.in_ok-shifted.ensures in
    let large : 2 ^ 64 ≤ spec.digits_value c.args.digits.now = too_large c.digits.value c.digits.digit-index c.args.digits.now (omega arith) (omega arith) c.digits.invariant in
    rw c.from_residual-in_err-value.ensures large
