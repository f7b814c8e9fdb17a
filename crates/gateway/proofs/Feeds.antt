-- The first line feed among some bytes.
use Rattle.std.proofs.Common.{◌≡◌, ℕ, suc, ◌+◌, ◌<◌, List, [], ◌∷◌, ◌++◌, length, take, drop, Bool, true, false, None, Some, ltb, refl, sym, ap, subst, add-one, arith}
use Rattle.std.proofs.lemmas.Bool.Decides.{nat_tests}
use Rattle.std.specs.Prelude.{◌==◌, cond, not, position}
use Rattle.std.specs.List.{prefix_len}
use Rattle.std.proofs.lemmas.List.{take_all}
use Rattle.gateway.specs.Lines.{HasNoLineFeed}

-- at this place stands the first line feed, or it is the end
pub record IsCut (bytes : List ℕ) (at : ℕ) : Type 0 where
  pub front : HasNoLineFeed (take at bytes)
  pub whole : at < length bytes → bytes ≡ take at bytes ++ 10 ∷ drop (at + 1) bytes

cut_at : (is_feed : Bool) (b : ℕ) (bs : List ℕ) (n : ℕ) → (b == 10) ≡ is_feed → IsCut bs n → IsCut (b ∷ bs) (cond (not is_feed) (1 + n) 0)
cut_at true b bs n e c = let feed : b ≡ 10 = grind (arith, nat_tests) in record { front = tt; whole = λ h. ap (λ z. z ∷ bs) feed }
cut_at false b bs n e c =
    let next : 1 + n ≡ suc n = omega arith in
    subst (IsCut (b ∷ bs)) (sym next) (record {
      front = (e, c.front);
      whole = λ h. rw add-one (ap (λ z. b ∷ z) (rw add-one at (c.whole (omega arith))));
    })

pub cut : (bs : List ℕ) → IsCut bs (prefix_len (λ b. not (b == 10)) bs)
cut [] = record { front = tt; whole = λ h. absurd (omega arith) }
cut (b ∷ bs) = cut_at (b == 10) b bs (prefix_len (λ b. not (b == 10)) bs) refl (cut bs)

none_by : (is_within : Bool) (bs : List ℕ) (n : ℕ) → ltb n (length bs) ≡ is_within → IsCut bs n → cond is_within (Some n) None ≡ None → HasNoLineFeed bs
none_by true bs n e c none = cc
none_by false bs n e c none = subst HasNoLineFeed (take_all n bs (grind (arith, nat_tests))) c.front

pub no_feed : (bs : List ℕ) → position (λ b. b == 10) bs ≡ None → HasNoLineFeed bs
no_feed bs none = none_by _ bs _ refl (cut bs) none

some_by : (is_within : Bool) (bs : List ℕ) (n at : ℕ) → ltb n (length bs) ≡ is_within → IsCut bs n → cond is_within (Some n) None ≡ Some at → HasNoLineFeed (take at bs) × (bs ≡ take at bs ++ 10 ∷ drop (at + 1) bs)
some_by true bs n at e c found = let same : n ≡ at = cc in subst (λ z. HasNoLineFeed (take z bs) × (bs ≡ take z bs ++ 10 ∷ drop (z + 1) bs)) same (c.front, c.whole (grind (arith, nat_tests)))
some_by false bs n at e c found = cc

pub first_feed : (bs : List ℕ) (at : ℕ) → position (λ b. b == 10) bs ≡ Some at → HasNoLineFeed (take at bs) × (bs ≡ take at bs ++ 10 ∷ drop (at + 1) bs)
first_feed bs at found = some_by _ bs _ at refl (cut bs) found
