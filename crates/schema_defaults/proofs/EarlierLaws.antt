-- The lesser of two lines, as an operation.
use Rattle.std.proofs.Common.{◌≡◌, ℕ, min, refl, ap, sym, ◌∙◌, arith, Bool, true, false, cond, ◌||◌}
use Rattle.std.specs.Prelude.{Option, None, Some}
use Rattle.schema_rules.specs.Lines.{earlier}

min_assoc : (a b c : ℕ) → min (min a b) c ≡ min a (min b c)
min_assoc a b c = omega arith

min_comm : (a b : ℕ) → min a b ≡ min b a
min_comm a b = omega arith

min_same : (a : ℕ) → min a a ≡ a
min_same a = omega arith

pub earlier_assoc : (a b c : Option ℕ) → earlier (earlier a b) c ≡ earlier a (earlier b c)
earlier_assoc None b c = refl
earlier_assoc (Some a) None c = refl
earlier_assoc (Some a) (Some b) None = refl
earlier_assoc (Some a) (Some b) (Some c) = ap Some (min_assoc a b c)

pub earlier_comm : (a b : Option ℕ) → earlier a b ≡ earlier b a
earlier_comm None None = refl
earlier_comm None (Some b) = refl
earlier_comm (Some a) None = refl
earlier_comm (Some a) (Some b) = ap Some (min_comm a b)

pub earlier_none : (a : Option ℕ) → earlier a None ≡ a
earlier_none None = refl
earlier_none (Some a) = refl

-- four lines, the inner two of which change places
pub earlier_swap : (a b c d : Option ℕ) → earlier (earlier a b) (earlier c d) ≡ earlier (earlier a c) (earlier b d)
earlier_swap a b c d =
    earlier_assoc a b (earlier c d)
    ∙ ap (earlier a) (sym (earlier_assoc b c d) ∙ ap (λ o. earlier o d) (earlier_comm b c) ∙ earlier_assoc c b d)
    ∙ sym (earlier_assoc a c (earlier b d))

-- a line that one of two tests gives
pub line_or : (a b : Bool) (n : ℕ) → cond (a || b) (Some n) None ≡ earlier (cond a (Some n) None) (cond b (Some n) None)
line_or true true n = ap Some (sym (min_same n))
line_or true false n = refl
line_or false b n = refl
