-- Deduplication keeps the laws of an exchange.
use Rattle.std.proofs.Common.{◌≡◌, ◌≢◌, ℕ, List, [], ◌∷◌, ◌++◌, map, Bool, true, false, inl, inr, refl, sym, ap, subst, ◌∙◌}
use Rattle.std.specs.Prelude.{Option, None, Some, IsSome, is_some, if◌then◌else◌}
use Rattle.std.specs.FinMap as finite
use Rattle.stream_core.specs.declared.flow.Flow.{Flow}
use Rattle.stream_core.specs.declared.flow.Flow.TheVariants.{Down, Up}
use Rattle.stream_core.specs.Exchanges.{downs, ups, mutation_of, mutations, MayAwait, EachAwaited, OperatedOnto, AnsweredOnto, Onto}
use Rattle.send_rules.specs.declared.sending.Back.{Back}
use Rattle.send_rules.specs.declared.sending.Sending.{Sending}
use Rattle.send_rules.specs.declared.sending.Sending.TheVariants.{Query, Mutation, Teardown}
use Rattle.send_rules.specs.Sendings.{Fetches, IsDown, Sent, Operates, Answers, kind_of}
use Rattle.stream_core.specs.NumberMaps.{tells, got_removed, got_kept, got_beside}

downs_down : (C : Type 0) (given : List Sending) → downs {U = Back} {C = C} (map Down given) ≡ given
downs_down C [] = refl
downs_down C (s ∷ given) = ap (λ l. s ∷ l) (downs_down C given)

ups_down : (C : Type 0) (given : List Sending) → ups {U = Back} {C = C} (map Down given) ≡ []
ups_down C [] = refl
ups_down C (s ∷ given) = ups_down C given

downs_up : (C : Type 0) (given : List Back) → downs {D = Sending} {C = C} (map Up given) ≡ []
downs_up C [] = refl
downs_up C (s ∷ given) = downs_up C given

ups_up : (C : Type 0) (given : List Back) → ups {D = Sending} {C = C} (map Up given) ≡ given
ups_up C [] = refl
ups_up C (s ∷ given) = ap (λ l. s ∷ l) (ups_up C given)

-- what is down behind one more fetch was down before, or is that fetch
down_beside : (d : Fetches) (f i : ℕ) (v : Option ℕ) → IsDown (finite.insert d f v) i → MayAwait (kind_of (Mutation f)) (IsDown d i) i
down_beside d f i v h = elim (tells i f) [
  | inl (b, same) ↦ inr same
  | inr (b, n) ↦ inl (subst IsSome (got_beside d f i v n) h)
]

-- what is down without a fetch was down before, and isn't that fetch
pub down_kept : (d : Fetches) (f i : ℕ) → IsDown (finite.remove d f) i → IsDown d i × (i ≢ f)
down_kept d f i h = elim (tells i f) [
  | inl (b, same) ↦ absurd (let none : finite.get (finite.remove d f) i ≡ None = ap (finite.get (finite.remove d f)) same ∙ got_removed d f in let some : is_some {T = Option ℕ} None ≡ true = subst IsSome none h in cc some)
  | inr (b, n) ↦ (subst IsSome (got_kept d f i n) h, n)
]

same_down : (before after : Fetches) (i : ℕ) → after ≡ before → IsDown after i → IsDown before i
same_down before after i e h = subst (λ d. IsDown d i) e h

module _ (before after : Fetches) where
  sent_once : (op : Sending) (given : List Sending) → Sent before op after given → mutations kind_of given ≡ mutation_of (kind_of op)
  sent_once (Query key fetch) given (inl (h, e, g)) = ap (mutations kind_of) g
  sent_once (Query key fetch) given (inr (h, e, g)) = ap (mutations kind_of) g
  sent_once (Mutation fetch) given (e, g) = ap (mutations kind_of) g
  sent_once (Teardown fetch) given (e, g) = ap (mutations kind_of) g ∙ go (finite.contains_key before fetch)
    where
      go : (b : Bool) → mutations kind_of (if b then Teardown fetch ∷ [] else []) ≡ []
      go true = refl
      go false = refl

  sent_awaits : (op : Sending) (given : List Sending) → Sent before op after given → (i : ℕ) → IsDown after i → MayAwait (kind_of op) (IsDown before i) i
  sent_awaits (Query key fetch) given (inl (h, e, g)) i d = inl (same_down before after i e d)
  sent_awaits (Query key fetch) given (inr (h, e, g)) i d = down_beside before fetch i (Some key) (same_down (finite.insert before fetch (Some key)) after i e d)
  sent_awaits (Mutation fetch) given (e, g) i d = down_beside before fetch i None (same_down (finite.insert before fetch None) after i e d)
  sent_awaits (Teardown fetch) given (e, g) i d = down_kept before fetch i (same_down (finite.remove before fetch) after i e d)

  pub sent_lawful : {C : Type 0} (op : Sending) (there all : List (Flow Sending Back C)) → Onto (Operates before op after) there all → OperatedOnto kind_of (IsDown before) (IsDown after) op there all
  sent_lawful {C} op there all (more, e, (given, f, s)) = (
    map Down given,
    e ∙ ap (λ l. there ++ l) f,
    record {
      silent = ups_down C given;
      once = ap (mutations kind_of) (downs_down C given) ∙ sent_once op given s;
      awaits = sent_awaits op given s;
    },
  )

  -- the same of an operation that a match made out
  pub sent_lawful_at : {C : Type 0} (op made : Sending) → op ≡ made → (there all : List (Flow Sending Back C)) → Onto (Operates before made after) there all → OperatedOnto kind_of (IsDown before) (IsDown after) op there all
  sent_lawful_at {C} op made is there all s = sent_lawful op there all (let P : Sending → Type 0 = λ v. Onto (Operates {C = C} before v after) there all in subst P (sym is) s)

  awaited_if : (res : Back) (b : Bool) → is_some (finite.get before res.fetch) ≡ b → EachAwaited (λ u. u.fetch) (IsDown before) (if b then res ∷ [] else [])
  awaited_if res true e = (e, tt)
  awaited_if res false e = tt

  pub returned_lawful : {C : Type 0} (res : Back) (there all : List (Flow Sending Back C)) → Onto (Answers before res after) there all → AnsweredOnto kind_of (λ u. u.fetch) (IsDown before) (IsDown after) there all
  returned_lawful {C} res there all (more, e, (gone, f)) =
      let given : List Back = if finite.contains_key before res.fetch then res ∷ [] else [] in (
        map Up given,
        e ∙ ap (λ l. there ++ l) f,
        record {
          awaited = subst (EachAwaited (λ u. u.fetch) (IsDown before)) (sym (ups_up C given)) (awaited_if res (finite.contains_key before res.fetch) refl);
          unsent = ap (mutations kind_of) (downs_up C given);
          awaits = λ i d. (down_kept before res.fetch i (same_down (finite.remove before res.fetch) after i gone d)).0;
        },
      )
