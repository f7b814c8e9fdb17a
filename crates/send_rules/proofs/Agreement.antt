-- The two maps of the fetches that are down, from keys to fetches and back.
use Rattle.std.proofs.Common.{◌≡◌, ℕ, inl, inr, refl, sym, subst, ◌∙◌}
use Rattle.std.specs.Prelude.{Option, None, Some}
use Rattle.std.specs.Ordering.{nat_cmp}
use Rattle.std.specs.FinMap as finite
use Rattle.stream_core.specs.NumberMaps.{tells, got_kept, got_put, got_beside, at_kept, at_put}
use Rattle.send_rules.specs.Sendings.{Fetches, Agree, IsInFlight, OneFetchEach}

pub agree_empty : Agree finite.empty finite.empty
agree_empty = (λ k f e. absurd (let none = finite.get-empty {X = ℕ} nat_cmp k in cc (e, none)), λ k f e. absurd (let none = finite.get-empty {X = Option ℕ} nat_cmp f in cc (e, none)))

pub agree_one : (i : finite.FinMap nat_cmp ℕ) (d : Fetches) → Agree i d → OneFetchEach d
agree_one i d a k f g e h = let p = a.1 k f e in let q = a.1 k g h in cc (p, q)

-- a fetch without a key is gone
pub agree_unkeyed : (i : finite.FinMap nat_cmp ℕ) (d : Fetches) (f : ℕ) → Agree i d → ((k : ℕ) → finite.get d f ≡ Some (Some k) → ⊥) → Agree i (finite.remove d f)
agree_unkeyed i d f a unkeyed = (
  λ k g e. elim (tells g f) [
    | inl (b, same) ↦ absurd (unkeyed k (subst (λ v. finite.get d v ≡ Some (Some k)) same (a.0 k g e)))
    | inr (b, n) ↦ got_kept d f g n ∙ a.0 k g e
  ],
  λ k g e. a.1 k g (at_kept d f g (Some k) e).0,
)

-- a fetch and its key are gone
pub agree_keyed : (i : finite.FinMap nat_cmp ℕ) (d : Fetches) (f key : ℕ) → Agree i d → finite.get d f ≡ Some (Some key) → Agree (finite.remove i key) (finite.remove d f)
agree_keyed i d f key a at = (
  λ k g e. let held = at_kept i key k g e in
      let down = a.0 k g held.0 in
      elim (tells g f) [
        | inl (b, same) ↦ absurd (held.1 (let here : finite.get d f ≡ Some (Some k) = subst (λ v. finite.get d v ≡ Some (Some k)) same down in cc (here, at)))
        | inr (b, n) ↦ got_kept d f g n ∙ down
      ],
  λ k g e. let held = at_kept d f g (Some k) e in
      let flight = a.1 k g held.0 in
      elim (tells k key) [
        | inl (b, same) ↦ absurd (held.1 (let here : finite.get i key ≡ Some g = subst (λ v. finite.get i v ≡ Some g) same flight in let there = a.1 key f at in cc (here, there)))
        | inr (b, n) ↦ got_kept i key k n ∙ flight
      ],
)

-- a fetch without a key is new
pub agree_put_unkeyed : (i : finite.FinMap nat_cmp ℕ) (d : Fetches) (f : ℕ) → Agree i d → finite.get d f ≡ None → Agree i (finite.insert d f None)
agree_put_unkeyed i d f a none = (
  λ k g e. elim (tells g f) [
    | inl (b, same) ↦ absurd (let here : finite.get d f ≡ Some (Some k) = subst (λ v. finite.get d v ≡ Some (Some k)) same (a.0 k g e) in cc (here, none))
    | inr (b, n) ↦ got_beside d f g None n ∙ a.0 k g e
  ],
  λ k g e. elim (at_put d f g None (Some k) e) [ inl (same, is) ↦ absurd (cc is) | inr (held, n) ↦ a.1 k g held ],
)

-- a fetch with its key is new
pub agree_put_keyed : (i : finite.FinMap nat_cmp ℕ) (d : Fetches) (f key : ℕ) → Agree i d → finite.get d f ≡ None → finite.get i key ≡ None → Agree (finite.insert i key f) (finite.insert d f (Some key))
agree_put_keyed i d f key a none free = (
  λ k g e. elim (at_put i key k f g e) [
    | inl (same, is) ↦ subst (λ v. finite.get (finite.insert d f (Some key)) v ≡ Some (Some k)) is (subst (λ v. finite.get (finite.insert d f (Some key)) f ≡ Some (Some v)) (sym same) (got_put d f (Some key)))
    | inr (held, n) ↦ elim (tells g f) [
      | inl (b, same) ↦ absurd (let here : finite.get d f ≡ Some (Some k) = subst (λ v. finite.get d v ≡ Some (Some k)) same (a.0 k g held) in cc (here, none))
      | inr (b, m) ↦ got_beside d f g (Some key) m ∙ a.0 k g held
    ]
  ],
  λ k g e. elim (at_put d f g (Some key) (Some k) e) [
    | inl (same, is) ↦ let own : key ≡ k = cc is in subst (λ v. finite.get (finite.insert i key f) v ≡ Some g) own (subst (λ v. finite.get (finite.insert i key f) key ≡ Some v) (sym same) (got_put i key f))
    | inr (held, n) ↦ elim (tells k key) [
      | inl (b, same) ↦ absurd (let here : finite.get i key ≡ Some g = subst (λ v. finite.get i v ≡ Some g) same (a.1 k g held) in cc (here, free))
      | inr (b, m) ↦ got_beside i key k f m ∙ a.1 k g held
    ]
  ],
)

-- a key that isn't in flight has no fetch
pub not_in_flight : (i : finite.FinMap nat_cmp ℕ) (d : Fetches) (key : ℕ) → Agree i d → (IsInFlight d key → ⊥) → finite.get i key ≡ None
not_in_flight i d key a unheld =
    elim (finite.get i key) as (λ o. finite.get i key ≡ o → o ≡ None) [
      | None ↦ λ e. refl
      | Some f ↦ λ e. absurd (unheld (f, a.0 key f e))
    ] refl

-- a key that has no fetch isn't in flight
pub none_in_flight : (i : finite.FinMap nat_cmp ℕ) (d : Fetches) (key : ℕ) → Agree i d → finite.get i key ≡ None → IsInFlight d key → ⊥
none_in_flight i d key a none (f, e) = let held = a.1 key f e in absurd (cc (held, none))

-- a key isn't in flight without a fetch either
pub free_without : (d : Fetches) (f key : ℕ) → (IsInFlight d key → ⊥) → IsInFlight (finite.remove d f) key → ⊥
free_without d f key unheld (g, e) = unheld (g, (at_kept d f g (Some key) e).0)
