-- From each place bytes lead to the end of a head.
use Rattle.std.proofs.Common.{◌≡◌, ℕ, zero, suc, ◌+◌, ◌<◌, nat_lt, false, List, [], ◌∷◌, ◌++◌, length, get_or, codes, fold, if◌then◌else◌, refl, ap, ◌∙◌, arith}
use Rattle.std.proofs.lemmas.Bool.Decides.{nat_tests}
use Rattle.std.proofs.lemmas.List.Sums.{fold-append}
use Rattle.httparse.specs.Grammar.{is_token_byte}
use Rattle.head_scan.specs.Places.{version_front, expected, step_after, placed}
use Rattle.head_scan.specs.declared.place.Place.{Place}
use Rattle.head_scan.specs.declared.place.Place.TheVariants.{EmptyLines, EmptyLineCr, Version, VersionEnd, Status, Value, LineCr, LineStart, Name, LastCr}
use Rattle.head_scan.specs.declared.place.Step.TheVariants.{Stands, Ends, Fails}

-- some bytes lead from this place to the end
pub record Finishes (place : Place) : Type 0 where
  pub more : List ℕ
  pub some : 0 < length more
  pub leads : placed place more ≡ Ends

-- the shortest rest of a status line, and the empty line
abbrev lines : List ℕ
lines = 10 ∷ 10 ∷ []

finishes_status : (came : ℕ) → Finishes (Status came)
unfolding is_token_byte
finishes_status zero = record { more = 48 ∷ 48 ∷ 48 ∷ lines; some = omega arith; leads = refl }
finishes_status (suc zero) = record { more = 48 ∷ 48 ∷ lines; some = omega arith; leads = refl }
finishes_status (suc (suc zero)) = record { more = 48 ∷ lines; some = omega arith; leads = refl }
finishes_status (suc (suc (suc n))) =
    let came = suc (suc (suc n)) in
    let all : nat_lt came 3 ≡ false = grind (arith, nat_tests) in record {
      more = lines;
      some = omega arith;
      leads = ap (λ t. fold step_after (if t then Fails else Stands LineStart) (10 ∷ [])) all;
    }

-- behind the 7 bytes of a version
abbrev minor : List ℕ
minor = codes "0 000" ++ lines

finishes_version : (matched : ℕ) → Finishes (Version matched)
unfolding is_token_byte
finishes_version zero = record { more = codes "HTTP/1." ++ minor; some = omega arith; leads = refl }
finishes_version (suc zero) = record { more = codes "TTP/1." ++ minor; some = omega arith; leads = refl }
finishes_version (suc (suc zero)) = record { more = codes "TP/1." ++ minor; some = omega arith; leads = refl }
finishes_version (suc (suc (suc zero))) = record { more = codes "P/1." ++ minor; some = omega arith; leads = refl }
finishes_version (suc (suc (suc (suc zero)))) = record { more = codes "/1." ++ minor; some = omega arith; leads = refl }
finishes_version (suc (suc (suc (suc (suc zero))))) = record { more = codes "1." ++ minor; some = omega arith; leads = refl }
finishes_version (suc (suc (suc (suc (suc (suc zero)))))) = record { more = codes "." ++ minor; some = omega arith; leads = refl }
finishes_version (suc (suc (suc (suc (suc (suc (suc n))))))) =
    let matched = suc (suc (suc (suc (suc (suc (suc n)))))) in
    let all : nat_lt matched 7 ≡ false = grind (arith, nat_tests) in record {
      more = minor;
      some = omega arith;
      leads = ap (λ t. fold step_after (if t then expected 48 (get_or version_front matched 0) (Stands (Version (matched + 1))) else Stands VersionEnd) (codes " 000" ++ lines)) all;
    }

pub finishes : (place : Place) → Finishes place
unfolding is_token_byte
finishes EmptyLines = record { more = codes "HTTP/1." ++ minor; some = omega arith; leads = refl }
finishes EmptyLineCr = record { more = 10 ∷ (codes "HTTP/1." ++ minor); some = omega arith; leads = refl }
finishes (Version matched) = finishes_version matched
finishes VersionEnd = record { more = codes " 000" ++ lines; some = omega arith; leads = refl }
finishes (Status came) = finishes_status came
finishes Value = record { more = lines; some = omega arith; leads = refl }
finishes LineCr = record { more = lines; some = omega arith; leads = refl }
finishes LineStart = record { more = 10 ∷ []; some = omega arith; leads = refl }
finishes Name = record { more = 58 ∷ lines; some = omega arith; leads = refl }
finishes LastCr = record { more = 10 ∷ []; some = omega arith; leads = refl }

-- and so from where bytes have led
pub leads_on : (from at : Place) (bytes more : List ℕ) → placed from bytes ≡ Stands at → placed at more ≡ Ends → placed from (bytes ++ more) ≡ Ends
leads_on from at bytes more stands leads = fold-append step_after (Stands from) bytes more ∙ ap (λ s. fold step_after s more) stands ∙ leads
