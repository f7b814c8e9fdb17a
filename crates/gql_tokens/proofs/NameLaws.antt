-- Names are ASCII.
use Rattle.std.proofs.Common.{◌≡◌, ◌<◌, ◌&&◌, ℕ, zero, suc, Bool, true, false, List, [], ◌∷◌, get_or, IsUtf8, arith}
use Rattle.std.specs.List.{list_all}
use Rattle.std.proofs.lemmas.Str.{IsUtf8-from_ascii}
use Rattle.std.proofs.lemmas.Bool.Decides.{nat_tests}
use Rattle.gql_tokens.specs.Names.{is_name_start, is_name_continue, IsName}

-- both halves of a test that holds
pub both : (a b : Bool) → (a && b) ≡ true → (a ≡ true) × (b ≡ true)
both true b e = (cc, e)
both false b e = absurd cc

pub name_byte : (b : ℕ) → is_name_continue b ≡ true → b < 128
name_byte b h = grind (arith, nat_tests)

start_byte : (b : ℕ) → is_name_start b ≡ true → b < 128
start_byte b h = grind (arith, nat_tests)

rest_bytes : (text : List ℕ) → list_all is_name_continue text ≡ true → (i : ℕ) → get_or text i 0 < 128
rest_bytes [] h i = omega arith
rest_bytes (b ∷ rest) h zero = name_byte b (both _ _ h).0
rest_bytes (b ∷ rest) h (suc i) = rest_bytes rest (both _ _ h).1 i

name_bytes : (text : List ℕ) → IsName text → (i : ℕ) → get_or text i 0 < 128
name_bytes [] h i = omega arith
name_bytes (b ∷ rest) h zero = start_byte b (both _ _ h).0
name_bytes (b ∷ rest) h (suc i) = rest_bytes rest (both _ _ h).1 i

pub name_is_text : (text : List ℕ) → IsName text → IsUtf8 text
name_is_text text h = IsUtf8-from_ascii text (name_bytes text h)
