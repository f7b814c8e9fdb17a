-- Escapes can be taken back, and leave no dot.
use Rattle.std.proofs.Common.{◌≡◌, ℕ, ◌<◌, List, [], ◌∷◌, ◌++◌, refl, ap, sym, subst, ◌∙◌, arith, ◌⊎◌, inl, inr}
use Rattle.std.proofs.lemmas.Bool.{cases_eq}
use Rattle.std.proofs.lemmas.Bool.Decides.{nat_tests}
use Rattle.cache_model.specs.Keys.{escaped_byte, escaped}
use Rattle.entity_keys.proofs.Splits.{Lacks, heads, tails, conses, Lacks-append}

-- what a byte is written as: one of the two escapes, or itself
abbrev pub Written : ℕ → List ℕ → Type 0
Written b bs = ((b ≡ 37) × (bs ≡ 37 ∷ 50 ∷ 53 ∷ [])) ⊎ (((b ≡ 46) × (bs ≡ 37 ∷ 50 ∷ 69 ∷ [])) ⊎ (((b ≡ 37 → ⊥) × (b ≡ 46 → ⊥)) × (bs ≡ b ∷ [])))

at_mark : escaped_byte 37 ≡ 37 ∷ 50 ∷ 53 ∷ []
at_mark = refl

at_dot : escaped_byte 46 ≡ 37 ∷ 50 ∷ 69 ∷ []
at_dot = refl

at_other : (b : ℕ) → (b ≡ 37 → ⊥) → (b ≡ 46 → ⊥) → escaped_byte b ≡ b ∷ []
at_other b p q = grind (arith, nat_tests)

pub written : (b : ℕ) → Written b (escaped_byte b)
written b =
    elim (cases_eq b 37) [
      | inl e ↦ inl (e, ap escaped_byte e ∙ at_mark)
      | inr p ↦ elim (cases_eq b 46) [
        | inl e ↦ inr (inl (e, ap escaped_byte e ∙ at_dot))
        | inr q ↦ inr (inr ((p, q), at_other b p q))
      ]
    ]

pub apart : (x y : ℕ) → x < y → x ≡ y → ⊥
apart x y l e = absurd (omega (arith, e))

pub after : (x y : ℕ) → y < x → x ≡ y → ⊥
after x y l e = absurd (omega (arith, e))

lacks_dot : (b : ℕ) (bs : List ℕ) → Written b bs → Lacks 46 bs
lacks_dot b bs w =
    elim w [
      | inl e ↦ subst (Lacks 46) (sym e.1) (apart 37 46 (omega arith), (after 50 46 (omega arith), (after 53 46 (omega arith), tt)))
      | inr v ↦ elim v [
        | inl e ↦ subst (Lacks 46) (sym e.1) (apart 37 46 (omega arith), (after 50 46 (omega arith), (after 69 46 (omega arith), tt)))
        | inr e ↦ subst (Lacks 46) (sym e.1) (e.0.1, tt)
      ]
    ]

pub escaped_lacks_dot : (s : List ℕ) → Lacks 46 (escaped s)
escaped_lacks_dot [] = tt
escaped_lacks_dot (b ∷ s) = Lacks-append 46 (escaped_byte b) (escaped s) (lacks_dot b (escaped_byte b) (written b)) (escaped_lacks_dot s)

three_same : (x y : ℕ) (r t : List ℕ) → 37 ∷ 50 ∷ x ∷ r ≡ 37 ∷ 50 ∷ y ∷ t → (x ≡ y) × (r ≡ t)
three_same x y r t e =
    let f = tails 50 50 (x ∷ r) (y ∷ t) (tails 37 37 (50 ∷ x ∷ r) (50 ∷ y ∷ t) e) in
    (heads x y r t f, tails x y r t f)

-- what two bytes are written as, with what stands behind
written_same : (a b : ℕ) (x y r t : List ℕ) → Written a x → Written b y → x ++ r ≡ y ++ t → (a ≡ b) × (r ≡ t)
written_same a b x y r t v w e =
    elim v [
      | inl p ↦ elim w [
        | inl q ↦ (p.0 ∙ sym q.0, (three_same 53 53 r t (ap (λ z. z ++ r) (sym p.1) ∙ e ∙ ap (λ z. z ++ t) q.1)).1)
        | inr u ↦ elim u [
          | inl q ↦ absurd (omega (arith, (three_same 53 69 r t (ap (λ z. z ++ r) (sym p.1) ∙ e ∙ ap (λ z. z ++ t) q.1)).0))
          | inr q ↦ absurd (q.0.0 (sym (heads 37 b (50 ∷ 53 ∷ r) t (ap (λ z. z ++ r) (sym p.1) ∙ e ∙ ap (λ z. z ++ t) q.1))))
        ]
      ]
      | inr o ↦ elim o [
        | inl p ↦ elim w [
          | inl q ↦ absurd (omega (arith, (three_same 69 53 r t (ap (λ z. z ++ r) (sym p.1) ∙ e ∙ ap (λ z. z ++ t) q.1)).0))
          | inr u ↦ elim u [
            | inl q ↦ (p.0 ∙ sym q.0, (three_same 69 69 r t (ap (λ z. z ++ r) (sym p.1) ∙ e ∙ ap (λ z. z ++ t) q.1)).1)
            | inr q ↦ absurd (q.0.0 (sym (heads 37 b (50 ∷ 69 ∷ r) t (ap (λ z. z ++ r) (sym p.1) ∙ e ∙ ap (λ z. z ++ t) q.1))))
          ]
        ]
        | inr p ↦ elim w [
          | inl q ↦ absurd (p.0.0 (heads a 37 r (50 ∷ 53 ∷ t) (ap (λ z. z ++ r) (sym p.1) ∙ e ∙ ap (λ z. z ++ t) q.1)))
          | inr u ↦ elim u [
            | inl q ↦ absurd (p.0.0 (heads a 37 r (50 ∷ 69 ∷ t) (ap (λ z. z ++ r) (sym p.1) ∙ e ∙ ap (λ z. z ++ t) q.1)))
            | inr q ↦ let f : a ∷ r ≡ b ∷ t = ap (λ z. z ++ r) (sym p.1) ∙ e ∙ ap (λ z. z ++ t) q.1 in (heads a b r t f, tails a b r t f)
          ]
        ]
      ]
    ]

not_empty : (b : ℕ) (bs r : List ℕ) → Written b bs → bs ++ r ≡ [] → ⊥
not_empty b bs r w e =
    elim w [
      | inl p ↦ let f : 37 ∷ 50 ∷ 53 ∷ r ≡ [] = ap (λ z. z ++ r) (sym p.1) ∙ e in absurd cc
      | inr v ↦ elim v [
        | inl p ↦ let f : 37 ∷ 50 ∷ 69 ∷ r ≡ [] = ap (λ z. z ++ r) (sym p.1) ∙ e in absurd cc
        | inr p ↦ let f : b ∷ r ≡ [] = ap (λ z. z ++ r) (sym p.1) ∙ e in absurd cc
      ]
    ]

pub escaped_same : (s t : List ℕ) → escaped s ≡ escaped t → s ≡ t
escaped_same [] [] e = refl
escaped_same [] (b ∷ t) e = absurd (not_empty b (escaped_byte b) (escaped t) (written b) (sym e))
escaped_same (a ∷ s) [] e = absurd (not_empty a (escaped_byte a) (escaped s) (written a) e)
escaped_same (a ∷ s) (b ∷ t) e =
    let r = written_same a b (escaped_byte a) (escaped_byte b) (escaped s) (escaped t) (written a) (written b) e in
    conses a b s t r.0 (escaped_same s t r.1)
