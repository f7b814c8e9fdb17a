-- What stands behind a front of a text, by the clauses of `strip_prefix`.
use Rattle.std.proofs.Common.{◌≡◌, ◌≢◌, ℕ, ◌==◌, Bool, true, false, List, [], ◌∷◌, ◌++◌, drop, Option, None, Some, refl, ap, sym, ◌∙◌, arith}
use Rattle.std.proofs.lemmas.Bool.Decides.{nat_tests}
use Rattle.std.specs.Prelude.{MatchOption, length, ◌+◌}
use Rattle.std.specs.Borrow.{Bor}
use Rattle.std.specs.Option.{option_copied}
use Rattle.std.specs.Str.Pattern.{FindsTextPrefix}
use Rattle.rules_model.specs.Terms.{behind_mark}
use Rattle.rules_model.specs.RootFields.{behind}

behind_mark-at : (c : ℕ) (rest : List ℕ) → behind_mark c (c ∷ rest) ≡ Some rest
behind_mark-at c rest = go (c == c) refl (grind (arith, nat_tests))
  where
    go : (t : Bool) → (c == c) ≡ t → t ≡ true → behind_mark c (c ∷ rest) ≡ Some rest
    go t e f = rw (e, f)

-- at a mark of one byte
pub behind_mark-from : (c : ℕ) (bs : List ℕ) (r : Option (Bor (List ℕ)))
    → MatchOption r ((rest : List ℕ) → bs ≢ c ∷ rest) (λ x. bs ≡ c ∷ x.now) → option_copied r ≡ behind_mark c bs
behind_mark-from c [] None h = refl
behind_mark-from c [] (Some x) h = cc
behind_mark-from c (b ∷ bs) None h = go (b == c) refl
  where
    go : (t : Bool) → (b == c) ≡ t → None ≡ behind_mark c (b ∷ bs)
    go true e = absurd (h bs (ap (λ n. n ∷ bs) (grind (arith, nat_tests))))
    go false e = rw e
behind_mark-from c (b ∷ bs) (Some x) h = sym (ap (behind_mark c) h ∙ behind_mark-at c x.now)

behind-at : (front rest : List ℕ) → behind front (front ++ rest) ≡ Some rest
behind-at [] rest = refl
behind-at (b ∷ front) rest = go (b == b) refl (grind (arith, nat_tests)) (behind-at front rest)
  where
    go : (t : Bool) → (b == b) ≡ t → t ≡ true → behind front (front ++ rest) ≡ Some rest → behind (b ∷ front) (b ∷ (front ++ rest)) ≡ Some rest
    go t e f further = rw (e, f) further

behind-without : (front text : List ℕ) → ((rest : List ℕ) → text ≢ front ++ rest) → behind front text ≡ None
behind-without [] text h = absurd (h text refl)
behind-without (b ∷ front) [] h = refl
behind-without (b ∷ front) (c ∷ text) h = go (c == b) refl (behind-without front text)
  where
    go : (t : Bool) → (c == b) ≡ t → (((rest : List ℕ) → text ≢ front ++ rest) → behind front text ≡ None) → behind (b ∷ front) (c ∷ text) ≡ None
    go true e further =
        let same : c ≡ b = grind (arith, nat_tests) in
        rw e (further (λ rest is. h rest (ap (λ n. n ∷ text) same ∙ ap (λ ns. b ∷ ns) is)))
    go false e further = rw e

-- at a front of several bytes
pub behind-from : (front text : List ℕ) (r : Option (Bor (List ℕ)))
    → MatchOption r ((rest : List ℕ) → text ≢ front ++ rest) (λ x. text ≡ front ++ x.now) → option_copied r ≡ behind front text
behind-from front text None h = sym (behind-without front text h)
behind-from front text (Some x) h = sym (ap (behind front) h ∙ behind-at front x.now)

-- the clause of `strip_prefix` at a text
pub strip_prefix_text : (front text : List ℕ) (r : Option (Bor (List ℕ)))
    → MatchOption r (FindsTextPrefix front text None) (λ x. (n : ℕ) × FindsTextPrefix front text (Some n) × (x.now ≡ drop n text) × (length x.now + n ≡ length text))
    → MatchOption r ((rest : List ℕ) → text ≢ front ++ rest) (λ x. text ≡ front ++ x.now)
strip_prefix_text front text None h = h
strip_prefix_text front text (Some x) h = h.1.1 ∙ ap (λ rest. front ++ rest) (sym h.2)
