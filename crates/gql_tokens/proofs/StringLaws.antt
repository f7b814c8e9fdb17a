-- Characters of strings.
use Rattle.std.proofs.Common.{◌≡◌, ◌<◌, ℕ, false, arith}
use Rattle.std.specs.Char.{IsScalar}
use Rattle.std.proofs.lemmas.Bool.Decides.{nat_tests}
use Rattle.gql_tokens.specs.Strings.{is_leading_surrogate, is_trailing_surrogate}

-- a code unit that is no surrogate is a character
pub whole_unit : (u : ℕ) → u < 65536 → is_leading_surrogate u ≡ false → is_trailing_surrogate u ≡ false → IsScalar u
whole_unit u b l t = grind (arith, nat_tests)
