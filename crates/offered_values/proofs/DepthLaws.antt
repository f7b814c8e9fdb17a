-- Whether values nest deeper than a limit, by their parts.
use Rattle.std.proofs.Common.{◌≡◌, ℕ, ◌+◌, List, [], ◌∷◌, refl, ap, ◌∙◌, Bool, true, false, ◌||◌, arith}
use Rattle.std.proofs.lemmas.Bool.Decides.{nat_tests}
use Rattle.std.specs.Prelude.{nat_lt, max}
use Rattle.std.specs.List.{fold, list_any}

or_assoc : (a b c : Bool) → ((a || b) || c) ≡ (a || (b || c))
or_assoc true b c = refl
or_assoc false b c = refl

or_none : (a : Bool) → a ≡ (a || false)
or_none true = refl
or_none false = refl

lt_max : (l a b : ℕ) → nat_lt l (max a b) ≡ (nat_lt l a || nat_lt l b)
lt_max l a b = grind (arith, nat_tests)

deeper_from : (l a : ℕ) (ds : List ℕ) → nat_lt l (fold max a ds) ≡ (nat_lt l a || list_any (nat_lt l) ds)
deeper_from l a [] = or_none (nat_lt l a)
deeper_from l a (d ∷ ds) =
    deeper_from l (max a d) ds
    ∙ ap (λ b. b || list_any (nat_lt l) ds) (lt_max l a d)
    ∙ or_assoc (nat_lt l a) (nat_lt l d) (list_any (nat_lt l) ds)

one_less : (limit l n : ℕ) → limit ≡ l + 1 → nat_lt limit (n + 1) ≡ nat_lt l n
one_less limit l n is = grind (arith, nat_tests)

not_less : (l : ℕ) → nat_lt l 0 ≡ false
not_less l = grind (arith, nat_tests)

-- one level deeper than all the parts
pub deeper : (limit l : ℕ) (ds : List ℕ) → limit ≡ l + 1 → nat_lt limit (fold max 0 ds + 1) ≡ list_any (nat_lt l) ds
deeper limit l ds is =
    one_less limit l (fold max 0 ds) is
    ∙ deeper_from l 0 ds
    ∙ ap (λ b. b || list_any (nat_lt l) ds) (not_less l)
