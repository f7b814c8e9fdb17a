-- A method is ASCII.
use Rattle.std.proofs.Common.{◌≡◌, ℕ, ◌<◌, IsTrue, true, false, List, IsUtf8, inl, inr, sym, ◌∙◌, arith}
use Rattle.std.proofs.lemmas.Bool.{cases_lt}
use Rattle.std.proofs.lemmas.Bool.Decides.{nat_tests}
use Rattle.std.proofs.lemmas.Str.{IsUtf8-from_ascii}
use Rattle.std.proofs.lemmas.Str.Ascii.{IsAscii-from_all}
use Rattle.httparse.specs.Grammar.{is_token_byte, IsToken}

token-ascii : (b : ℕ) → IsTrue (is_token_byte b) → b < 128
unfolding is_token_byte
token-ascii b token = elim (cases_lt b 128) [
  | inl small ↦ small
  | inr big ↦ let no : is_token_byte b ≡ false = grind (arith, nat_tests) in let never : true ≡ false = sym token ∙ no in cc
]

pub IsUtf8-token : (bytes : List ℕ) → IsToken bytes → IsUtf8 bytes
IsUtf8-token bytes token = IsUtf8-from_ascii bytes (IsAscii-from_all bytes (λ k d within. token-ascii _ (token.1 k d within)))
