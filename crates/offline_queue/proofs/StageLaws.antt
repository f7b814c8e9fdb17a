-- The queue's stage keeps the laws of an exchange.
use Rattle.std.proofs.Common.{◌≡◌, ◌≢◌, ℕ, List, [], ◌∷◌, ◌++◌, map, Bool, true, false, inl, inr, refl, sym, ap, subst, ◌∙◌}
use Rattle.std.specs.Prelude.{Option, None, Some, IsSome, is_some, if◌then◌else◌, Result, Ok, Err}
use Rattle.std.specs.FinMap as finite
use Rattle.std.specs.Ordering.{nat_cmp}
use Rattle.std.specs.Cmp.{nat_cmp_total}
use Rattle.stream_core.specs.declared.flow.Flow.{Flow}
use Rattle.stream_core.specs.declared.flow.Flow.TheVariants.{Down, Up}
use Rattle.stream_core.specs.Exchanges.{downs, ups, mutation_of, mutations, MayAwait, EachAwaited, OperatedOnto, AnsweredOnto, Onto}
use Rattle.stream_core.specs.NumberMaps.{tells, got_removed, got_kept, got_beside}
use Rattle.offline_queue.specs.declared.keeper.PutError.{PutError}
use Rattle.offline_queue.specs.declared.offer.Offer.{Offer}
use Rattle.offline_queue.specs.declared.offer.Offer.TheVariants.{Mutation, Teardown}
use Rattle.offline_queue.specs.declared.offer.Kept.{Kept}
use Rattle.offline_queue.specs.declared.offer.Kept.TheVariants.{Answer, Queued, NotQueued}
use Rattle.offline_queue.specs.Offers.{Offered, RowTexts, IsDown, Operates, kind_of, fetch_of, told, kept_texts, texts_to_keep}
use Rattle.offline_queue.specs.Stage.{Answers, ComesUp}

-- a fetch that isn't down may be taken out
pub absent_removed : (d : Offered) (f : ℕ) → finite.get d f ≡ None → d ≡ finite.remove d f
absent_removed d f none = finite.same_map nat_cmp_total finite.nat_cmp-IsAntisymmetric _ _ (λ q. elim (tells q f) [
  | inl (b, same) ↦ subst (λ u. finite.get d u ≡ finite.get (finite.remove d f) u) (sym same) (none ∙ sym (got_removed d f))
  | inr (b, n) ↦ sym (got_kept d f q n)
])

module _ {K : Type 0} (puts : K → K → RowTexts → Result ℕ PutError → Type 0) (keeper : K) (d : Offered) where
  absent_up : (C : Type 0) (res : Kept) → finite.get d (fetch_of res) ≡ None → (texts : Option RowTexts) → texts ≡ None → ComesUp {C = C} puts keeper d res keeper texts []
  absent_up C res none None e = (refl, ap (λ b. map Up (if b then res ∷ [] else [])) (sym (ap is_some none)))
  absent_up C res none (Some t) e = absurd (cc e)

  no_texts : (res : Kept) → finite.get d (fetch_of res) ≡ None → texts_to_keep d res ≡ None
  no_texts (Answer fetch true) none = ap kept_texts none
  no_texts (Answer fetch false) none = refl
  no_texts (Queued fetch row) none = refl
  no_texts (NotQueued fetch error) none = refl

  -- an answer of a fetch that isn't down does nothing
  pub absent_answers : (C : Type 0) (res : Kept) → finite.get d (fetch_of res) ≡ None → Answers {C = C} puts keeper d res keeper d []
  absent_answers C res none = (absent_removed d (fetch_of res) none, absent_up C res none (texts_to_keep d res) (no_texts res none))

kept_down : (o : Option (Option RowTexts)) (texts : RowTexts) → kept_texts o ≡ Some texts → IsSome o
kept_down None texts e = absurd (cc e)
kept_down (Some row) texts e = refl

texts_down : (d : Offered) (res : Kept) (texts : RowTexts) → texts_to_keep d res ≡ Some texts → IsDown d (fetch_of res)
texts_down d (Answer fetch true) texts e = kept_down (finite.get d fetch) texts e
texts_down d (Answer fetch false) texts e = absurd (cc e)
texts_down d (Queued fetch row) texts e = absurd (cc e)
texts_down d (NotQueued fetch error) texts e = absurd (cc e)

told_of : (fetch : ℕ) (answer : Result ℕ PutError) → fetch_of (told fetch answer) ≡ fetch
told_of fetch (Ok row) = refl
told_of fetch (Err error) = refl

-- what is down without a fetch was down before, and isn't that fetch
down_kept : (d : Offered) (f i : ℕ) → IsDown (finite.remove d f) i → IsDown d i × (i ≢ f)
down_kept d f i h = elim (tells i f) [
  | inl (b, same) ↦ absurd (let none : finite.get (finite.remove d f) i ≡ None = ap (finite.get (finite.remove d f)) same ∙ got_removed d f in let some : is_some {T = Option RowTexts} None ≡ true = subst IsSome none h in cc some)
  | inr (b, n) ↦ (subst IsSome (got_kept d f i n) h, n)
]

down_beside : (d : Offered) (f i : ℕ) (v : Option RowTexts) → IsDown (finite.insert d f v) i → MayAwait (kind_of (Mutation f v)) (IsDown d i) i
down_beside d f i v h = elim (tells i f) [
  | inl (b, same) ↦ inr same
  | inr (b, n) ↦ inl (subst IsSome (got_beside d f i v n) h)
]

same_down : (before after : Offered) (i : ℕ) → after ≡ before → IsDown after i → IsDown before i
same_down before after i e h = subst (λ d. IsDown d i) e h

module _ {K C : Type 0} (puts : K → K → RowTexts → Result ℕ PutError → Type 0) (keeper keeper' : K) (d after : Offered) where
  comes_up : (res : Kept) (o : Option RowTexts) → texts_to_keep d res ≡ o → (given : List (Flow Offer Kept C)) → ComesUp puts keeper d res keeper' o given → EachAwaited fetch_of (IsDown d) (ups given) × (mutations kind_of (downs given) ≡ [])
  comes_up res None e given (k, f) = up (finite.contains_key d (fetch_of res)) refl f
    where
      up : (b : Bool) → finite.contains_key d (fetch_of res) ≡ b → given ≡ map Up (if b then res ∷ [] else []) → EachAwaited fetch_of (IsDown d) (ups given) × (mutations kind_of (downs given) ≡ [])
      up true is f' = (subst (λ l. EachAwaited fetch_of (IsDown d) (ups l)) (sym f') (is, tt), ap (λ l. mutations kind_of (downs l)) f')
      up false is f' = (subst (λ l. EachAwaited fetch_of (IsDown d) (ups l)) (sym f') tt, ap (λ l. mutations kind_of (downs l)) f')
  comes_up res (Some texts) e given (answer, p, m, f) =
      (subst (λ l. EachAwaited fetch_of (IsDown d) (ups l)) (sym f) (subst (IsDown d) (sym (told_of (fetch_of res) answer)) (texts_down d res texts e), tt), ap (λ l. mutations kind_of (downs l)) f)

  pub answers_lawful : (res : Kept) (there all : List (Flow Offer Kept C)) → Onto (Answers puts keeper d res keeper' after) there all → AnsweredOnto kind_of fetch_of (IsDown d) (IsDown after) there all
  answers_lawful res there all (given, e, (gone, up)) =
      let both = comes_up res (texts_to_keep d res) refl given up in
      (given, e, record { awaited = both.0; unsent = both.1; awaits = λ i h. (down_kept d (fetch_of res) i (same_down (finite.remove d (fetch_of res)) after i gone h)).0 })

teardown_silent : (C : Type 0) (fetch : ℕ) (b : Bool) → (ups {D = Offer} {U = Kept} {C = C} (map Down (if b then Teardown fetch ∷ [] else [])) ≡ []) × (mutations kind_of (downs {D = Offer} {U = Kept} {C = C} (map Down (if b then Teardown fetch ∷ [] else []))) ≡ [])
teardown_silent C fetch true = (refl, refl)
teardown_silent C fetch false = (refl, refl)

module _ {C : Type 0} (d after : Offered) where
  pub operates_lawful : (op made : Offer) → op ≡ made → (there all : List (Flow Offer Kept C)) → Onto (Operates d made after) there all → OperatedOnto kind_of (IsDown d) (IsDown after) op there all
  operates_lawful op (Mutation fetch row) is there all (given, e, (put, f)) = subst (λ v. OperatedOnto kind_of (IsDown d) (IsDown after) v there all) (sym is)
      (given, e, record { silent = ap ups f; once = ap (λ l. mutations kind_of (downs l)) f; awaits = λ i h. down_beside d fetch i row (same_down (finite.insert d fetch row) after i put h) })
  operates_lawful op (Teardown fetch) is there all (given, e, (gone, f)) = subst (λ v. OperatedOnto kind_of (IsDown d) (IsDown after) v there all) (sym is)
      (let silent = teardown_silent C fetch (finite.contains_key d fetch) in
      (given, e, record { silent = ap ups f ∙ silent.0; once = ap (λ l. mutations kind_of (downs l)) f ∙ silent.1; awaits = λ i h. down_kept d fetch i (same_down (finite.remove d fetch) after i gone h) }))
