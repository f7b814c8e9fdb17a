-- Fronts of a text that are UTF-8.
use Rattle.std.proofs.Common.{◌≡◌, ◌≤◌, ℕ, Bool, true, false, nat_le, List, length, take, length-take, Some, None, refl, IsUtf8, arith}
use Rattle.std.specs.Str.{is_utf8}
use Rattle.std.proofs.lemmas.Str.{IsUtf8-from_is_utf8, is_utf8-from_IsUtf8}
use Rattle.std.proofs.lemmas.Bool.Decides.{nat_tests}
use Rattle.gql_tokens.specs.Characters.{utf8_front}

within : (n m : ℕ) → n ≤ m → nat_le n m ≡ true
within n m h = grind (arith, nat_tests)

-- bytes that are no UTF-8 fail the test
is_utf8_not : (bytes : List ℕ) (t : Bool) → is_utf8 bytes ≡ t → ¬ (IsUtf8 bytes) → t ≡ false
is_utf8_not bytes true e h = absurd (h (IsUtf8-from_is_utf8 bytes e))
is_utf8_not bytes false e h = refl

pub utf8_front_some : (n : ℕ) (text front : List ℕ) → n ≤ length text → front ≡ take n text → IsUtf8 front → Some (front, length front) ≡ utf8_front n text
utf8_front_some n text front h e u =
    let i : is_utf8 (take n text) ≡ true = is_utf8-from_IsUtf8 (take n text) (rw e at u) in
    let l : length (take n text) ≡ n = omega (arith, length-take n text) in
    rw (e, l, within n (length text) h, i) refl

pub utf8_front_none : (n : ℕ) (text front : List ℕ) → n ≤ length text → front ≡ take n text → ¬ (IsUtf8 front) → None ≡ utf8_front n text
utf8_front_none n text front h e u =
    let i : is_utf8 (take n text) ≡ false = is_utf8_not (take n text) (is_utf8 (take n text)) refl (rw e at u) in
    rw (within n (length text) h, i) refl
