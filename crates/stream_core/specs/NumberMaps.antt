-- A tree map with numbers for keys as a finite map, and what the map has once a key is put or taken out.
use Rattle.std.proofs.Common.{◌≡◌, ◌≢◌, ◌⊎◌, ℕ, true, false, refl, sym, ap, subst, ◌∙◌, inl, inr}
use Rattle.std.specs.Prelude.{List, [], ◌∷◌, Option, None, Some, cond}
use Rattle.std.specs.declared.cmp.Ordering.TheVariants.{Less, Equal, Greater}
use Rattle.std.specs.Ordering.{nat_cmp, eq_by_cmp, is_eq}
use Rattle.std.specs.Cmp.{nat_cmp_total, eq_by_cmp_equiv}
use Rattle.std.specs.BTreeMap.{is_at}
use Rattle.std.specs.Map.{lookup}
use Rattle.std.specs.FinMap as map

-- entries in order of keys
abbrev pub Entries : Type 0 → Type 0
Entries V = List (ℕ × V)

-- the value of the first entry with this key, where there is one
abbrev pub found : {V : Type 0} → Entries V → ℕ → Option V
found es k = lookup (is_at (nat_cmp k)) es

module _ {V : Type 0} where
  -- both look-ups scan from the front
  find_is_lookup : (es : Entries V) (k : ℕ) → map.find nat_cmp k es ≡ found es k
  find_is_lookup [] k = refl
  find_is_lookup (e ∷ es) k = ap (cond (is_eq (nat_cmp k e.0)) (Some e.1)) (find_is_lookup es k)

  -- the map finds what the entries have
  pub get_is_found : (es : Entries V) (k : ℕ) → map.get (map.from_entries {R = nat_cmp} es) k ≡ found es k
  get_is_found es k = map.get-from_entries nat_cmp_total es k ∙ find_is_lookup es k

  turned : (key k : ℕ) (o p : Option V) → cond (is_at (nat_cmp key) k) o p ≡ cond (eq_by_cmp nat_cmp k key) o p
  turned key k o p = ap (λ b. cond b o p) ((eq_by_cmp_equiv nat_cmp_total).symm key k)

  -- entries that differ in one value
  pub inserted : (es fs : Entries V) (key : ℕ) (value : V)
      → ((k : ℕ) → found fs k ≡ cond (is_at (nat_cmp key) k) (Some value) (found es k))
      → map.from_entries {R = nat_cmp} fs ≡ map.insert (map.from_entries es) key value
  inserted es fs key value is = map.same_map nat_cmp_total map.nat_cmp-IsAntisymmetric _ _ (λ k.
      get_is_found fs k ∙ is k ∙ turned key k _ _
      ∙ ap (cond (eq_by_cmp nat_cmp k key) (Some value)) (sym (get_is_found es k))
      ∙ sym (map.get-insert nat_cmp_total (map.from_entries es) key value k))

  -- entries that differ in one key that is gone
  pub removed : (es fs : Entries V) (key : ℕ)
      → ((k : ℕ) → found fs k ≡ cond (is_at (nat_cmp key) k) None (found es k))
      → map.from_entries {R = nat_cmp} fs ≡ map.remove (map.from_entries es) key
  removed es fs key is = map.same_map nat_cmp_total map.nat_cmp-IsAntisymmetric _ _ (λ k.
      get_is_found fs k ∙ is k ∙ turned key k _ _
      ∙ ap (cond (eq_by_cmp nat_cmp k key) None) (sym (get_is_found es k))
      ∙ sym (map.get-remove nat_cmp_total (map.from_entries es) key k))

equal_of : (q f : ℕ) → eq_by_cmp nat_cmp q f ≡ true → q ≡ f
equal_of q f e =
    elim (nat_cmp q f) as (λ o. nat_cmp q f ≡ o → is_eq o ≡ true → q ≡ f) [
      | Less ↦ λ p h. absurd (cc h)
      | Equal ↦ λ p h. map.nat_cmp-IsAntisymmetric q f p
      | Greater ↦ λ p h. absurd (cc h)
    ] refl e

itself : (q : ℕ) → eq_by_cmp nat_cmp q q ≡ true
itself q = (eq_by_cmp_equiv nat_cmp_total).refl q

pub tells : (q f : ℕ) → ((eq_by_cmp nat_cmp q f ≡ true) × (q ≡ f)) ⊎ ((eq_by_cmp nat_cmp q f ≡ false) × (q ≢ f))
tells q f =
    elim (eq_by_cmp nat_cmp q f) as (λ b. eq_by_cmp nat_cmp q f ≡ b → ((eq_by_cmp nat_cmp q f ≡ true) × (q ≡ f)) ⊎ ((eq_by_cmp nat_cmp q f ≡ false) × (q ≢ f))) [
      | true ↦ λ e. inl (e, equal_of q f e)
      | false ↦ λ e. inr (e, λ same. let own : eq_by_cmp nat_cmp q f ≡ true = subst (λ v. eq_by_cmp nat_cmp q v ≡ true) same (itself q) in absurd (cc (e, own)))
    ] refl

module _ {V : Type 0} (m : map.FinMap nat_cmp V) where
  pub got_removed : (f : ℕ) → map.get (map.remove m f) f ≡ None
  got_removed f = map.get-remove nat_cmp_total m f f ∙ ap (λ b. cond b None (map.get m f)) (itself f)

  pub got_kept : (f q : ℕ) → q ≢ f → map.get (map.remove m f) q ≡ map.get m q
  got_kept f q ne = elim (tells q f) [
    | inl (e, same) ↦ absurd (ne same)
    | inr (e, n) ↦ map.get-remove nat_cmp_total m f q ∙ ap (λ b. cond b None (map.get m q)) e
  ]

  pub got_put : (f : ℕ) (v : V) → map.get (map.insert m f v) f ≡ Some v
  got_put f v = map.get-insert nat_cmp_total m f v f ∙ ap (λ b. cond b (Some v) (map.get m f)) (itself f)

  pub got_beside : (f q : ℕ) (v : V) → q ≢ f → map.get (map.insert m f v) q ≡ map.get m q
  got_beside f q v ne = elim (tells q f) [
    | inl (e, same) ↦ absurd (ne same)
    | inr (e, n) ↦ map.get-insert nat_cmp_total m f v q ∙ ap (λ b. cond b (Some v) (map.get m q)) e
  ]

  -- what a map without f has isn't at f
  pub at_kept : (f q : ℕ) (v : V) → map.get (map.remove m f) q ≡ Some v → (map.get m q ≡ Some v) × (q ≢ f)
  at_kept f q v e = elim (tells q f) [
    | inl (b, same) ↦ absurd (let none : map.get (map.remove m f) q ≡ None = subst (λ w. map.get (map.remove m f) w ≡ None) (sym same) (got_removed f) in cc (e, none))
    | inr (b, n) ↦ (sym (got_kept f q n) ∙ e, n)
  ]

  -- what a map with f has is at f, or was there
  pub at_put : (f q : ℕ) (v w : V) → map.get (map.insert m f v) q ≡ Some w → ((q ≡ f) × (v ≡ w)) ⊎ ((map.get m q ≡ Some w) × (q ≢ f))
  at_put f q v w e = elim (tells q f) [
    | inl (b, same) ↦ inl (same, let own : map.get (map.insert m f v) q ≡ Some v = subst (λ u. map.get (map.insert m f v) u ≡ Some v) (sym same) (got_put f v) in cc (e, own))
    | inr (b, n) ↦ inr (sym (got_beside f q v n) ∙ e, n)
  ]

-- a fetch that was put where none was, and taken again
pub put_and_removed : {V : Type 0} (d : map.FinMap nat_cmp V) (f : ℕ) (v : V) → map.get d f ≡ None → map.remove (map.insert d f v) f ≡ d
put_and_removed d f v none = map.same_map nat_cmp_total map.nat_cmp-IsAntisymmetric _ _ (λ q. elim (tells q f) [
  | inl (b, same) ↦ subst (λ u. map.get (map.remove (map.insert d f v) f) u ≡ map.get d u) (sym same) (got_removed (map.insert d f v) f ∙ sym none)
  | inr (b, n) ↦ got_kept (map.insert d f v) f q n ∙ got_beside d f q v n
])

-- a fetch that is taken out and put again is put
pub put_afresh : {V : Type 0} (d : map.FinMap nat_cmp V) (f : ℕ) (v : V) → map.insert (map.remove d f) f v ≡ map.insert d f v
put_afresh d f v = map.same_map nat_cmp_total map.nat_cmp-IsAntisymmetric _ _ (λ q. elim (tells q f) [
  | inl (b, same) ↦ subst (λ u. map.get (map.insert (map.remove d f) f v) u ≡ map.get (map.insert d f v) u) (sym same) (got_put (map.remove d f) f v ∙ sym (got_put d f v))
  | inr (b, n) ↦ got_beside (map.remove d f) f q v n ∙ got_kept d f q n ∙ sym (got_beside d f q v n)
])

-- what a fetch was is gone with it
pub none_left : {V : Type 0} (d e : map.FinMap nat_cmp V) (f : ℕ) → d ≡ map.remove e f → map.get d f ≡ None
none_left d e f is = ap (λ m. map.get m f) is ∙ got_removed e f
