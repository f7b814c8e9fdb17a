-- The calls of an exchange, one after another.
use Rattle.std.proofs.Common.{◌≡◌, ℕ, List, [], ◌∷◌, ◌++◌, refl, ap, subst, sym, ◌∙◌, inl, inr, append_assoc}
use Rattle.std.proofs.lemmas.List.{append-nil}
use Rattle.stream_core.specs.declared.flow.Flow.{Flow}
use Rattle.stream_core.specs.declared.operation.Kind.{Kind}
use Rattle.stream_core.specs.declared.operation.Kind.TheVariants.{Query, Mutation, Teardown, Other}
use Rattle.stream_core.specs.declared.exchange_calls.ExchangeCall.{ExchangeCall}
use Rattle.stream_core.specs.declared.exchange_calls.ExchangeCall.TheVariants as call
use Rattle.stream_core.specs.Exchanges.{ups, MayAwait, EachAwaited, Operated, Answered, OperatedOnto, AnsweredOnto}
use Rattle.stream_core.specs.Transcripts.{TornBy, NoneTorn, KeepsSilence}

-- the ids that are torn down behind the calls
abbrev pub TornAfter : {D U : Type 0} → (D → Kind) → (ℕ → Type 0) → List (ExchangeCall D U) → ℕ → Type 0
TornAfter kind torn [] i = torn i
TornAfter kind torn (call.Operation op ∷ calls) i = TornAfter kind (λ j. TornBy (kind op) (torn j) j) calls i
TornAfter kind torn (call.Result res ∷ calls) i = TornAfter kind torn calls i

never_torn_by : (k : Kind) (i : ℕ) (torn before after : Type 0) → (torn → before → ⊥) → (after → MayAwait k before i) → TornBy k torn i → after → ⊥
never_torn_by (Query j) i torn before after never may (t, ne) a = elim (may a) [ inl b ↦ never t b | inr e ↦ ne e ]
never_torn_by (Mutation j) i torn before after never may (t, ne) a = elim (may a) [ inl b ↦ never t b | inr e ↦ ne e ]
never_torn_by (Teardown j) i torn before after never may (inl t) a = never t (may a).0
never_torn_by (Teardown j) i torn before after never may (inr e) a = (may a).1 e
never_torn_by Other i torn before after never may t a = never t (may a)

torn_operation : {D U : Type 0} (kind : D → Kind) (torn : ℕ → Type 0) (calls : List (ExchangeCall D U)) (op : D) (i : ℕ) → TornAfter kind torn (calls ++ call.Operation op ∷ []) i → TornBy (kind op) (TornAfter kind torn calls i) i
torn_operation kind torn [] op i t = t
torn_operation kind torn (call.Operation first ∷ calls) op i t = torn_operation kind (λ j. TornBy (kind first) (torn j) j) calls op i t
torn_operation kind torn (call.Result res ∷ calls) op i t = torn_operation kind torn calls op i t

torn_result : {D U : Type 0} (kind : D → Kind) (torn : ℕ → Type 0) (calls : List (ExchangeCall D U)) (res : U) (i : ℕ) → TornAfter kind torn (calls ++ call.Result res ∷ []) i → TornAfter kind torn calls i
torn_result kind torn [] res i t = t
torn_result kind torn (call.Operation first ∷ calls) res i t = torn_result kind (λ j. TornBy (kind first) (torn j) j) calls res i t
torn_result kind torn (call.Result first ∷ calls) res i t = torn_result kind torn calls res i t

none_torn : {U : Type 0} (id : U → ℕ) (torn awaits : ℕ → Type 0) → ((i : ℕ) → torn i → awaits i → ⊥) → (us : List U) → EachAwaited id awaits us → NoneTorn id torn us
none_torn id torn awaits never [] a = tt
none_torn id torn awaits never (u ∷ us) a = (λ t. never (id u) t a.0, none_torn id torn awaits never us a.1)

module _ {D U C : Type 0} (kind : D → Kind) (id : U → ℕ) where
  -- the calls keep silence, and no id that is torn down may have a result
  abbrev pub Silent : (ℕ → Type 0) → List (ExchangeCall D U) → List (Flow D U C) → (ℕ → Type 0) → Type 0
  Silent torn calls given awaits = KeepsSilence kind id torn calls given × ((i : ℕ) → TornAfter kind torn calls i → awaits i → ⊥)

  then_operation : (torn : ℕ → Type 0) (calls : List (ExchangeCall D U)) (given : List (Flow D U C)) → KeepsSilence kind id torn calls given → (before after : ℕ → Type 0) (op : D) (more : List (Flow D U C)) → Operated kind before after op more → KeepsSilence kind id torn (calls ++ call.Operation op ∷ []) (given ++ more)
  then_operation torn [] given k before after op more m = (more, [], ap (λ l. l ++ more) k ∙ sym (append-nil more), m.silent, m.once, refl)
  then_operation torn (call.Operation first ∷ calls) given (now, rest, e, s, o, k) before after op more m =
      (now, rest ++ more, ap (λ l. l ++ more) e ∙ append_assoc now rest more, s, o, then_operation (λ j. TornBy (kind first) (torn j) j) calls rest k before after op more m)
  then_operation torn (call.Result first ∷ calls) given (now, rest, e, s, o, k) before after op more m =
      (now, rest ++ more, ap (λ l. l ++ more) e ∙ append_assoc now rest more, s, o, then_operation torn calls rest k before after op more m)

  then_result : (torn : ℕ → Type 0) (calls : List (ExchangeCall D U)) (given : List (Flow D U C)) → KeepsSilence kind id torn calls given → (before after : ℕ → Type 0) → ((i : ℕ) → TornAfter kind torn calls i → before i → ⊥) → (res : U) (more : List (Flow D U C)) → Answered kind id before after more → KeepsSilence kind id torn (calls ++ call.Result res ∷ []) (given ++ more)
  then_result torn [] given k before after never res more m = (more, [], ap (λ l. l ++ more) k ∙ sym (append-nil more), none_torn id torn before never (ups more) m.awaited, m.unsent, refl)
  then_result torn (call.Operation first ∷ calls) given (now, rest, e, s, o, k) before after never res more m =
      (now, rest ++ more, ap (λ l. l ++ more) e ∙ append_assoc now rest more, s, o, then_result (λ j. TornBy (kind first) (torn j) j) calls rest k before after never res more m)
  then_result torn (call.Result first ∷ calls) given (now, rest, e, s, o, k) before after never res more m =
      (now, rest ++ more, ap (λ l. l ++ more) e ∙ append_assoc now rest more, s, o, then_result torn calls rest k before after never res more m)

  abbrev pub SilentOnto : (ℕ → Type 0) → List (ExchangeCall D U) → (ℕ → Type 0) → List (Flow D U C) → List (Flow D U C) → Type 0
  SilentOnto torn calls awaits there then = (given : List (Flow D U C)) × (then ≡ there ++ given) × Silent torn calls given awaits

  pub no_calls : (awaits : ℕ → Type 0) (there : List (Flow D U C)) → SilentOnto (λ i. ⊥) [] awaits there there
  no_calls awaits there = ([], sym (append-nil there), (refl, λ i t a. t))

  pub sent_down : (torn : ℕ → Type 0) (calls : List (ExchangeCall D U)) (before after : ℕ → Type 0) (there mid then : List (Flow D U C)) → SilentOnto torn calls before there mid → (op : D) → OperatedOnto kind before after op mid then → (made : ExchangeCall D U) → made ≡ call.Operation op → SilentOnto torn (calls ++ made ∷ []) after there then
  sent_down torn calls before after there mid then (given, e, s) op (more, f, m) made is =
      let P : ExchangeCall D U → Type 0 = λ v. Silent torn (calls ++ v ∷ []) (given ++ more) after in (
        given ++ more,
        f ∙ ap (λ l. l ++ more) e ∙ append_assoc there given more,
        subst P (sym is)
            (then_operation torn calls given s.0 before after op more m, λ i t a. never_torn_by (kind op) i (TornAfter kind torn calls i) (before i) (after i) (s.1 i) (m.awaits i) (torn_operation kind torn calls op i t) a),
      )

  pub handed_up : (torn : ℕ → Type 0) (calls : List (ExchangeCall D U)) (before after : ℕ → Type 0) (there mid then : List (Flow D U C)) → SilentOnto torn calls before there mid → (res : U) → AnsweredOnto kind id before after mid then → (made : ExchangeCall D U) → made ≡ call.Result res → SilentOnto torn (calls ++ made ∷ []) after there then
  handed_up torn calls before after there mid then (given, e, s) res (more, f, m) made is =
      let P : ExchangeCall D U → Type 0 = λ v. Silent torn (calls ++ v ∷ []) (given ++ more) after in (
        given ++ more,
        f ∙ ap (λ l. l ++ more) e ∙ append_assoc there given more,
        subst P (sym is)
            (then_result torn calls given s.0 before after s.1 res more m, λ i t a. s.1 i (torn_result kind torn calls res i t) (m.awaits i a)),
      )
