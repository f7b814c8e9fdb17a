-- What exchanges give, one after another.
use Rattle.std.proofs.Common.{◌≡◌, ℕ, List, [], ◌∷◌, ◌++◌, refl, ap, subst, sym, ◌∙◌, append_assoc}
use Rattle.std.proofs.lemmas.List.{append-nil}
use Rattle.stream_core.specs.declared.flow.Flow.{Flow}
use Rattle.stream_core.specs.declared.flow.Flow.TheVariants.{Down, Up, Again}
use Rattle.stream_core.specs.declared.operation.Kind.{Kind}
use Rattle.stream_core.specs.Exchanges.{downs, ups, mutation_of, mutations, EachAwaited, Operated, Answered, OperatedOnto, AnsweredOnto, PassedDown, PassedUp, PassedDownOnto, PassedUpOnto}

module _ {D U C : Type 0} where
  pub ups-append : (xs ys : List (Flow D U C)) → ups (xs ++ ys) ≡ ups xs ++ ups ys
  ups-append [] ys = refl
  ups-append (Down d ∷ xs) ys = ups-append xs ys
  ups-append (Up u ∷ xs) ys = ap (λ l. u ∷ l) (ups-append xs ys)
  ups-append (Again c ∷ xs) ys = ups-append xs ys

  downs-append : (xs ys : List (Flow D U C)) → downs (xs ++ ys) ≡ downs xs ++ downs ys
  downs-append [] ys = refl
  downs-append (Down d ∷ xs) ys = ap (λ l. d ∷ l) (downs-append xs ys)
  downs-append (Up u ∷ xs) ys = downs-append xs ys
  downs-append (Again c ∷ xs) ys = downs-append xs ys

pub no_result : {D U C : Type 0} (flow : Flow D U C) → ((u : U) → flow ≡ Up u → ⊥) → ups (flow ∷ []) ≡ []
no_result (Down d) h = refl
no_result (Up u) h = absurd (h u refl)
no_result (Again c) h = refl

mutations-append : {D : Type 0} (kind : D → Kind) (xs ys : List D) → mutations kind (xs ++ ys) ≡ mutations kind xs ++ mutations kind ys
mutations-append kind [] ys = refl
mutations-append kind (x ∷ xs) ys = ap (λ l. mutation_of (kind x) ++ l) (mutations-append kind xs ys) ∙ sym (append_assoc (mutation_of (kind x)) (mutations kind xs) (mutations kind ys))

pub each-append : {U : Type 0} (id : U → ℕ) (awaits : ℕ → Type 0) (xs ys : List U) → EachAwaited id awaits xs → EachAwaited id awaits ys → EachAwaited id awaits (xs ++ ys)
each-append id awaits [] ys a b = b
each-append id awaits (x ∷ xs) ys a b = (a.0, each-append id awaits xs ys a.1 b)

each-earlier : {U : Type 0} (id : U → ℕ) (before after : ℕ → Type 0) → ((i : ℕ) → after i → before i) → (xs : List U) → EachAwaited id after xs → EachAwaited id before xs
each-earlier id before after k [] a = a
each-earlier id before after k (x ∷ xs) a = (k (id x) a.0, each-earlier id before after k xs a.1)

module _ {D U C : Type 0} (kind : D → Kind) where
  -- the mutations among what was given
  abbrev sent : List (Flow D U C) → List ℕ
  sent given = mutations kind (downs given)

  sent-append : (xs ys : List (Flow D U C)) → sent (xs ++ ys) ≡ sent xs ++ sent ys
  sent-append xs ys = ap (mutations kind) (downs-append xs ys) ∙ mutations-append kind (downs xs) (downs ys)

  -- one more that is passed on as it is
  pub kept : (from given : List (Flow D U C)) → PassedDown kind from given → (flow : Flow D U C) → PassedDown kind (from ++ flow ∷ []) (given ++ flow ∷ [])
  kept from given h flow = record {
    results = ups-append given (flow ∷ []) ∙ ap (λ l. l ++ ups (flow ∷ [])) h.results ∙ sym (ups-append from (flow ∷ []));
    mutated = sent-append given (flow ∷ []) ∙ ap (λ l. l ++ sent (flow ∷ [])) h.mutated ∙ sym (sent-append from (flow ∷ []));
  }

  -- one more operation, that goes down into the part below
  pub lowered : (from given : List (Flow D U C)) → PassedDown kind from given → (before after : ℕ → Type 0) (op : D) (more : List (Flow D U C)) → Operated kind before after op more → PassedDown kind (from ++ Down op ∷ []) (given ++ more)
  lowered from given h before after op more m = record {
    results = ups-append given more ∙ ap (λ l. ups given ++ l) m.silent ∙ ap (λ l. l ++ []) h.results ∙ sym (ups-append from (Down op ∷ []));
    mutated = sent-append given more ∙ ap (λ l. sent given ++ l) (m.once ∙ sym (append-nil (mutation_of (kind op)))) ∙ ap (λ l. l ++ sent (Down op ∷ [])) h.mutated ∙ sym (sent-append from (Down op ∷ []));
  }

  module _ (id : U → ℕ) (before : ℕ → Type 0) where
    -- one more that isn't a result, passed on as it is
    pub beside : (after : ℕ → Type 0) (from given : List (Flow D U C)) → PassedUp kind id before after from given → (flow : Flow D U C) → ups (flow ∷ []) ≡ [] → PassedUp kind id before after (from ++ flow ∷ []) (given ++ flow ∷ [])
    beside after from given h flow none = record {
      awaited = let P : List U → Type 0 = EachAwaited id before in subst P (sym (ups-append given (flow ∷ []) ∙ ap (λ l. ups given ++ l) none ∙ append-nil (ups given))) h.awaited;
      mutated = sent-append given (flow ∷ []) ∙ ap (λ l. l ++ sent (flow ∷ [])) h.mutated ∙ sym (sent-append from (flow ∷ []));
      awaits = h.awaits;
    }

    -- one more result, that goes up into the part above, and what that sends down goes down through the part below
    pub raised : (between after : ℕ → Type 0) (from given : List (Flow D U C)) → PassedUp kind id before between from given → (u : U) (inner more : List (Flow D U C)) → Answered kind id between after inner → PassedDown kind inner more → PassedUp kind id before after (from ++ Up u ∷ []) (given ++ more)
    raised between after from given h u inner more m d = record {
      awaited =
          let P : List U → Type 0 = EachAwaited id before in
          subst P (sym (ups-append given more)) (each-append id before (ups given) (ups more) h.awaited (subst P (sym d.results) (each-earlier id before between h.awaits (ups inner) m.awaited)));
      mutated = sent-append given more ∙ ap (λ l. sent given ++ l) (d.mutated ∙ m.unsent) ∙ ap (λ l. l ++ []) h.mutated ∙ sym (sent-append from (Up u ∷ []));
      awaits = λ i a. h.awaits i (m.awaits i a);
    }

-- the same, where what was given stands behind what was there
module _ {D U C : Type 0} (kind : D → Kind) where
  further : (there given more mid then : List (Flow D U C)) → mid ≡ there ++ given → then ≡ mid ++ more → then ≡ there ++ (given ++ more)
  further there given more mid then e f = f ∙ ap (λ l. l ++ more) e ∙ append_assoc there given more

  pub kept_onto : (from there mid then : List (Flow D U C)) → PassedDownOnto kind from there mid → (flow : Flow D U C) → then ≡ mid ++ flow ∷ [] → PassedDownOnto kind (from ++ flow ∷ []) there then
  kept_onto from there mid then (given, e, h) flow f = (given ++ flow ∷ [], further there given (flow ∷ []) mid then e f, kept kind from given h flow)

  pub lowered_onto : (from there mid then : List (Flow D U C)) → PassedDownOnto kind from there mid → (before after : ℕ → Type 0) (op : D) → OperatedOnto kind before after op mid then → (flow : Flow D U C) → flow ≡ Down op → PassedDownOnto kind (from ++ flow ∷ []) there then
  lowered_onto from there mid then (given, e, h) before after op (more, f, m) flow is =
      let P : Flow D U C → Type 0 = λ v. PassedDown kind (from ++ v ∷ []) (given ++ more) in
      (given ++ more, further there given more mid then e f, subst P (sym is) (lowered kind from given h before after op more m))

  module _ (id : U → ℕ) (before : ℕ → Type 0) where
    pub beside_onto : (after : ℕ → Type 0) (from there mid then : List (Flow D U C)) → PassedUpOnto kind id before after from there mid → (flow : Flow D U C) → ups (flow ∷ []) ≡ [] → then ≡ mid ++ flow ∷ [] → PassedUpOnto kind id before after (from ++ flow ∷ []) there then
    beside_onto after from there mid then (given, e, h) flow none f = (given ++ flow ∷ [], further there given (flow ∷ []) mid then e f, beside kind id before after from given h flow none)

    pub raised_onto : (between after : ℕ → Type 0) (from there mid then : List (Flow D U C)) → PassedUpOnto kind id before between from there mid → (u : U) (start inner : List (Flow D U C)) → start ≡ [] → AnsweredOnto kind id between after start inner → PassedDownOnto kind inner mid then → (flow : Flow D U C) → flow ≡ Up u → PassedUpOnto kind id before after (from ++ flow ∷ []) there then
    raised_onto between after from there mid then (given, e, h) u start inner none (own, f, m) (more, k, d) flow is =
        let all : inner ≡ own = f ∙ ap (λ l. l ++ own) none in
        let Q : List (Flow D U C) → Type 0 = λ l. PassedDown kind l more in
        let P : Flow D U C → Type 0 = λ v. PassedUp kind id before after (from ++ v ∷ []) (given ++ more) in
        (given ++ more, further there given more mid then e k, subst P (sym is) (raised kind id before between after from given h u own more m (subst Q all d)))

    -- nothing went up yet
    pub none_raised : (there : List (Flow D U C)) → PassedUpOnto kind id before before [] there there
    none_raised there = ([], sym (append-nil there), record { awaited = tt; mutated = refl; awaits = λ i a. a })
