-- The turns of a list of calls, one after the other, and what they come to.
use Rattle.std.proofs.Common.{◌≡◌, List, [], ◌∷◌, ◌++◌, map, Bool, true, false, cond, ◌||◌, refl, ap, subst, sym, ◌∙◌, inl, inr, append_assoc}
use Rattle.std.proofs.lemmas.List.{map-append, append-nil}
use Rattle.stream_core.specs.declared.phase.Phase.{Phase}
use Rattle.stream_core.specs.declared.phase.Phase.TheVariants.{Waiting, Flowing, Over}
use Rattle.stream_core.specs.declared.signal.Signal.{Signal}
use Rattle.stream_core.specs.declared.signal.Signal.TheVariants.{Start, Push, End}
use Rattle.stream_core.specs.declared.signal.Talk.{Talk}
use Rattle.stream_core.specs.declared.signal.Talk.TheVariants.{Pull, Close}
use Rattle.stream_core.specs.declared.calls.Call.{Call}
use Rattle.stream_core.specs.declared.calls.Call.TheVariants as call
use Rattle.stream_core.specs.Phases.{talked_to}
use Rattle.stream_core.specs.Turns.{Turn, TurnOnto, Within}
use Rattle.stream_core.specs.Walks.{Walk}
use Rattle.stream_core.specs.Played.{before_close, has_end, Flows, Played}

pub over : {A B : Type 0} (gives : A → List B → Bool → Type 0) (calls : List (Call A)) (given : List (Signal B)) (q : Phase) → Walk gives Over calls given q → given ≡ []
over gives [] given q w = w.0
over {A} {B} gives (call.Push s ∷ calls) given q (mid, more, rest, turn, e, w) =
    let P : Phase → Type 0 = λ p. Walk gives p calls rest q in
    let later : rest ≡ [] = over gives calls rest q (subst P turn.0 w) in
    let front : more ≡ [] = turn.1 in
    e ∙ cc
over gives (call.Talk Pull ∷ calls) given q w = over gives calls given q w
over gives (call.Talk Close ∷ calls) given q w = over gives calls given q w

-- and it stays over
pub stays_over : {A B : Type 0} (gives : A → List B → Bool → Type 0) (calls : List (Call A)) (given : List (Signal B)) (q : Phase) → Walk gives Over calls given q → q ≡ Over
stays_over gives [] given q w = sym w.1
stays_over {A} {B} gives (call.Push s ∷ calls) given q (mid, more, rest, turn, e, w) =
    let P : Phase → Type 0 = λ p. Walk gives p calls rest q in
    stays_over gives calls rest q (subst P turn.0 w)
stays_over gives (call.Talk Pull ∷ calls) given q w = stays_over gives calls given q w
stays_over gives (call.Talk Close ∷ calls) given q w = stays_over gives calls given q w

pub flows : {A B : Type 0} (gives : A → List B → Bool → Type 0) (calls : List (Call A)) (given : List (Signal B)) (q : Phase) → Walk gives Flowing calls given q → Flows gives (before_close calls) given
flows gives [] given q w = ([], false, (refl, refl), w.0)
flows gives (call.Push Start ∷ calls) given q (mid, more, rest, turn, e, w) =
    let P : Phase → Type 0 = λ p. Walk gives p calls rest q in
    let same : given ≡ rest = e ∙ ap (λ l. l ++ rest) turn.1 in
    subst (Flows gives (before_close calls)) (sym same) (flows gives calls rest q (subst P turn.0 w))
flows gives (call.Push (Push x) ∷ calls) given q (mid, more, rest, (ys, true, g, a, b), e, w) =
    let P : Phase → Type 0 = λ p. Walk gives p calls rest q in
    let later : rest ≡ [] = over gives calls rest q (subst P a w) in
    (ys, true, inl (g, refl), e ∙ ap (λ l. more ++ l) later ∙ append-nil more ∙ b)
flows {A} {B} gives (call.Push (Push x) ∷ calls) given q (mid, more, rest, (ys, false, g, a, b), e, w) =
    let P : Phase → Type 0 = λ p. Walk gives p calls rest q in
    go (flows gives calls rest q (subst P a w))
  where
    go : Flows gives (before_close calls) rest → Flows gives (Push x ∷ before_close calls) given
    go (zs, ends, joins, f) = (ys ++ zs, ends, inr (ys, zs, g, refl, joins), e ∙ ap (λ l. l ++ rest) (b ∙ append-nil (map Push ys)) ∙ ap (λ l. map Push ys ++ l) f ∙ sym (append_assoc (map Push ys) (map Push zs) (cond (ends || has_end (before_close calls)) (End ∷ []) [])) ∙ ap (λ l. l ++ cond (ends || has_end (before_close calls)) (End ∷ []) []) (sym (map-append Push ys zs)))
flows gives (call.Push End ∷ calls) given q (mid, more, rest, turn, e, w) =
    let P : Phase → Type 0 = λ p. Walk gives p calls rest q in
    let later : rest ≡ [] = over gives calls rest q (subst P turn.0 w) in
    ([], false, (refl, refl), e ∙ ap (λ l. more ++ l) later ∙ append-nil more ∙ turn.1)
flows gives (call.Talk Pull ∷ calls) given q w = flows gives calls given q w
flows gives (call.Talk Close ∷ calls) given q w = ([], false, (refl, refl), over gives calls given q w)

-- the turns of a stage that waits are what it comes to
pub walk_plays : {A B : Type 0} (gives : A → List B → Bool → Type 0) (calls : List (Call A)) (given : List (Signal B)) (q : Phase) → Walk gives Waiting calls given q → Played gives calls given
walk_plays gives [] given q w = w.0
walk_plays gives (call.Push Start ∷ calls) given q (mid, more, rest, turn, e, w) =
    let P : Phase → Type 0 = λ p. Walk gives p calls rest q in
    (rest, e ∙ ap (λ l. l ++ rest) turn.1, flows gives calls rest q (subst P turn.0 w))
walk_plays gives (call.Push (Push x) ∷ calls) given q (mid, more, rest, turn, e, w) =
    let P : Phase → Type 0 = λ p. Walk gives p calls rest q in
    let same : given ≡ rest = e ∙ ap (λ l. l ++ rest) turn.1 in
    subst (Played gives calls) (sym same) (walk_plays gives calls rest q (subst P turn.0 w))
walk_plays gives (call.Push End ∷ calls) given q (mid, more, rest, turn, e, w) =
    let P : Phase → Type 0 = λ p. Walk gives p calls rest q in
    let same : given ≡ rest = e ∙ ap (λ l. l ++ rest) turn.1 in
    subst (Played gives calls) (sym same) (walk_plays gives calls rest q (subst P turn.0 w))
walk_plays gives (call.Talk Pull ∷ calls) given q w = walk_plays gives calls given q w
walk_plays gives (call.Talk Close ∷ calls) given q w = over gives calls given q w

turn_within : {A B : Type 0} (gives later : A → List B → Bool → Type 0) → Within gives later → (p : Phase) (s : Signal A) (r : Phase) (more : List (Signal B)) → Turn later p s r more → Turn gives p s r more
turn_within gives later k Waiting Start r more t = t
turn_within gives later k Waiting (Push x) r more t = t
turn_within gives later k Waiting End r more t = t
turn_within gives later k Flowing Start r more t = t
turn_within gives later k Flowing (Push x) r more (ys, ends, g, a, b) = (ys, ends, k x ys ends g, a, b)
turn_within gives later k Flowing End r more t = t
turn_within gives later k Over s r more t = t

walk_push : {A B : Type 0} (gives : A → List B → Bool → Type 0) (p : Phase) (calls : List (Call A)) (given : List (Signal B)) (q : Phase) → Walk gives p calls given q → (s : Signal A) (r : Phase) (more : List (Signal B)) → Turn gives q s r more → Walk gives p (calls ++ call.Push s ∷ []) (given ++ more) r
walk_push gives p [] given q (e, f) s r more t =
    let P : Phase → Type 0 = λ v. Turn gives v s r more in
    (r, more, [], subst P (sym f) t, ap (λ l. l ++ more) e ∙ sym (append-nil more), (refl, refl))
walk_push gives p (call.Push s' ∷ calls) given q (mid, first, rest, turn, e, w) s r more t =
    (mid, first, rest ++ more, turn, ap (λ l. l ++ more) e ∙ append_assoc first rest more, walk_push gives mid calls rest q w s r more t)
walk_push gives p (call.Talk u ∷ calls) given q w s r more t = walk_push gives (talked_to p u) calls given q w s r more t

walk_talk : {A B : Type 0} (gives : A → List B → Bool → Type 0) (p : Phase) (calls : List (Call A)) (given : List (Signal B)) (q : Phase) → Walk gives p calls given q → (t : Talk) → Walk gives p (calls ++ call.Talk t ∷ []) given (talked_to q t)
walk_talk gives p [] given q (e, f) t = (e, ap (λ v. talked_to v t) f)
walk_talk gives p (call.Push s ∷ calls) given q (mid, first, rest, turn, e, w) t =
    (mid, first, rest, turn, e, walk_talk gives mid calls rest q w t)
walk_talk gives p (call.Talk u ∷ calls) given q w t = walk_talk gives (talked_to p u) calls given q w t

-- one more push, whose turn is one of a later rule that gives no more
pub pushed : {A B : Type 0} (gives later : A → List B → Bool → Type 0) → Within gives later → (p : Phase) (calls : List (Call A)) (given : List (Signal B)) (q : Phase) → Walk gives p calls given q → (there mid : List (Signal B)) → mid ≡ there ++ given → (s : Signal A) (r : Phase) (then : List (Signal B)) → TurnOnto later q s r mid then → (after : List (Signal B)) × (then ≡ there ++ after) × Walk gives p (calls ++ call.Push s ∷ []) after r
pushed gives later k p calls given q w there mid e s r then (more, f, t) =
    (given ++ more, f ∙ ap (λ l. l ++ more) e ∙ append_assoc there given more, walk_push gives p calls given q w s r more (turn_within gives later k q s r more t))

-- one more talk
pub talked : {A B : Type 0} (gives : A → List B → Bool → Type 0) (p : Phase) (calls : List (Call A)) (given : List (Signal B)) (q : Phase) → Walk gives p calls given q → (t : Talk) (r : Phase) → r ≡ talked_to q t → Walk gives p (calls ++ call.Talk t ∷ []) given r
talked gives p calls given q w t r e = subst (Walk gives p (calls ++ call.Talk t ∷ []) given) (sym e) (walk_talk gives p calls given q w t)
