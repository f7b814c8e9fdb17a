-- The turns of two stages in a chain.
use Rattle.std.proofs.Common.{◌≡◌, List, [], ◌∷◌, ◌++◌, map, Bool, true, false, cond, ◌||◌, refl, ap, subst, sym, ◌∙◌, inl, inr, append_assoc}
use Rattle.std.proofs.lemmas.List.{map-append, append-nil}
use Rattle.stream_core.specs.declared.phase.Phase.{Phase}
use Rattle.stream_core.specs.declared.phase.Phase.TheVariants.{Waiting, Flowing, Over}
use Rattle.stream_core.specs.declared.signal.Signal.{Signal}
use Rattle.stream_core.specs.declared.signal.Signal.TheVariants.{Start, Push, End}
use Rattle.stream_core.specs.Phases.{Aligned}
use Rattle.stream_core.specs.Turns.{signals, Turn, TurnOnto}
use Rattle.stream_core.specs.Played.{Joins}
use Rattle.stream_core.specs.Through.{GivesThrough}
use Rattle.stream_core.specs.Walks.{Walk, pushes, PushedOnto}
use Rattle.stream_core.proofs.Walks.{over, stays_over}

-- items, and an End behind them, pushed into a stage that flows
pub items_through : {A B : Type 0} (gives : A → List B → Bool → Type 0) (ys : List A) (last : Bool) (given : List (Signal B)) (q : Phase) → Walk gives Flowing (pushes (signals ys last)) given q → (zs : List B) × (ends : Bool) × Joins gives ys zs ends × (q ≡ cond (ends || last) Over Flowing) × (given ≡ signals zs (ends || last))
items_through gives [] false given q w = ([], false, (refl, refl), sym w.1, w.0)
items_through gives [] true given q (mid, more, rest, turn, e, w) =
    ([], false, (refl, refl), sym w.1 ∙ turn.0, e ∙ ap (λ l. more ++ l) w.0 ∙ append-nil more ∙ turn.1)
items_through {A} {B} gives (y ∷ ys) last given q (mid, more, rest, (zs, true, g, a, b), e, w) =
    let P : Phase → Type 0 = λ p. Walk gives p (pushes (signals ys last)) rest q in
    let w' = subst P a w in
    (zs, true, inl (g, refl), stays_over gives (pushes (signals ys last)) rest q w', e ∙ ap (λ l. more ++ l) (over gives (pushes (signals ys last)) rest q w') ∙ append-nil more ∙ b)
items_through {A} {B} gives (y ∷ ys) last given q (mid, more, rest, (zs, false, g, a, b), e, w) =
    let P : Phase → Type 0 = λ p. Walk gives p (pushes (signals ys last)) rest q in
    go (items_through gives ys last rest q (subst P a w))
  where
    go : (back : List B) × (ends : Bool) × Joins gives ys back ends × (q ≡ cond (ends || last) Over Flowing) × (rest ≡ signals back (ends || last)) → (back : List B) × (ends : Bool) × Joins gives (y ∷ ys) back ends × (q ≡ cond (ends || last) Over Flowing) × (given ≡ signals back (ends || last))
    go (back, ends, joins, at, f) = (zs ++ back, ends, inr (zs, back, g, refl, joins), at, e ∙ ap (λ l. l ++ rest) (b ∙ append-nil (map Push zs)) ∙ ap (λ l. map Push zs ++ l) f ∙ sym (append_assoc (map Push zs) (map Push back) (cond (ends || last) (End ∷ []) [])) ∙ ap (λ l. l ++ cond (ends || last) (End ∷ []) []) (sym (map-append Push zs back)))

aligned_over : (p q : Phase) → q ≡ Over → Aligned p q
aligned_over p q e = subst (Aligned p) (sym e) tt

aligned_flowing : (p q : Phase) → p ≡ Flowing → q ≡ Flowing → Aligned p q
aligned_flowing p q d e = subst (Aligned p) (sym e) d

aligned_waiting : (p q : Phase) → p ≡ Waiting → q ≡ Waiting → Aligned p q
aligned_waiting p q d e = subst (Aligned p) (sym e) d

aligned_ends : (p q : Phase) (ends last : Bool) → p ≡ cond last Over Flowing → q ≡ cond (ends || last) Over Flowing → Aligned p q
aligned_ends p q true last d e = aligned_over p q e
aligned_ends p q false true d e = aligned_over p q e
aligned_ends p q false false d e = aligned_flowing p q d e

module _ {A B C : Type 0} (first : A → List B → Bool → Type 0) (second : B → List C → Bool → Type 0) where
  chained_over : (p : Phase) (s : Signal A) (p' : Phase) (between : List (Signal B)) (given : List (Signal C)) (q' : Phase) → Walk second Over (pushes between) given q' → Turn (GivesThrough first second) Over s q' given × Aligned p' q'
  chained_over p s p' between given q' w =
      let at : q' ≡ Over = stays_over second (pushes between) given q' w in
      ((at, over second (pushes between) given q' w), aligned_over p' q' at)

  chained_waiting : (s : Signal A) (p' : Phase) (between : List (Signal B)) → Turn first Waiting s p' between → (given : List (Signal C)) (q' : Phase) → Walk second Waiting (pushes between) given q' → Turn (GivesThrough first second) Waiting s q' given × Aligned p' q'
  chained_waiting Start p' between (d, e) given q' w = go (subst (λ (l : List (Signal B)). Walk second Waiting (pushes l) given q') e w)
    where
      go : Walk second Waiting (pushes (Start ∷ [])) given q' → Turn (GivesThrough first second) Waiting Start q' given × Aligned p' q'
      go (mid, more, rest, turn, f, end) = ((sym end.1 ∙ turn.0, f ∙ ap (λ l. more ++ l) end.0 ∙ append-nil more ∙ turn.1), aligned_flowing p' q' d (sym end.1 ∙ turn.0))
  chained_waiting (Push x) p' between (d, e) given q' w =
      let end : Walk second Waiting (pushes []) given q' = subst (λ (l : List (Signal B)). Walk second Waiting (pushes l) given q') e w in
      ((sym end.1, end.0), aligned_waiting p' q' d (sym end.1))
  chained_waiting End p' between (d, e) given q' w =
      let end : Walk second Waiting (pushes []) given q' = subst (λ (l : List (Signal B)). Walk second Waiting (pushes l) given q') e w in
      ((sym end.1, end.0), aligned_waiting p' q' d (sym end.1))

  chained_flowing : (s : Signal A) (p' : Phase) (between : List (Signal B)) → Turn first Flowing s p' between → (given : List (Signal C)) (q' : Phase) → Walk second Flowing (pushes between) given q' → Turn (GivesThrough first second) Flowing s q' given × Aligned p' q'
  chained_flowing Start p' between (d, e) given q' w =
      let end : Walk second Flowing (pushes []) given q' = subst (λ (l : List (Signal B)). Walk second Flowing (pushes l) given q') e w in
      ((sym end.1, end.0), aligned_flowing p' q' d (sym end.1))
  chained_flowing (Push x) p' between (ys, last, g, d, e) given q' w = go (items_through second ys last given q' (subst (λ (l : List (Signal B)). Walk second Flowing (pushes l) given q') e w))
    where
      go : (zs : List C) × (ends : Bool) × Joins second ys zs ends × (q' ≡ cond (ends || last) Over Flowing) × (given ≡ signals zs (ends || last)) → Turn (GivesThrough first second) Flowing (Push x) q' given × Aligned p' q'
      go (zs, ends, joins, at, f) = ((zs, ends || last, (ys, last, ends, g, joins, refl), at, f), aligned_ends p' q' ends last d at)
  chained_flowing End p' between (d, e) given q' w = go (subst (λ (l : List (Signal B)). Walk second Flowing (pushes l) given q') e w)
    where
      go : Walk second Flowing (pushes (End ∷ [])) given q' → Turn (GivesThrough first second) Flowing End q' given × Aligned p' q'
      go (mid, more, rest, turn, f, end) = ((sym end.1 ∙ turn.0, f ∙ ap (λ l. more ++ l) end.0 ∙ append-nil more ∙ turn.1), aligned_over p' q' (sym end.1 ∙ turn.0))

  -- what the first gives, pushed into the second, is a turn of the two
  pub chained : (p q : Phase) → Aligned p q → (s : Signal A) (p' : Phase) (between : List (Signal B)) → Turn first p s p' between → (given : List (Signal C)) (q' : Phase) → Walk second q (pushes between) given q' → Turn (GivesThrough first second) q s q' given × Aligned p' q'
  chained p Over a s p' between t given q' w = chained_over p s p' between given q' w
  chained p Waiting a s p' between t given q' w = let P : Phase → Type 0 = λ v. Turn first v s p' between in chained_waiting s p' between (subst P a t) given q' w
  chained p Flowing a s p' between t given q' w = let P : Phase → Type 0 = λ v. Turn first v s p' between in chained_flowing s p' between (subst P a t) given q' w

  -- the same, where what was given stands behind what was there
  pub chained_onto : (p q : Phase) → Aligned p q → (s : Signal A) (p' : Phase) (start between : List (Signal B)) → start ≡ [] → TurnOnto first p s p' start between → (q' : Phase) (there then : List (Signal C)) → PushedOnto second q between q' there then → TurnOnto (GivesThrough first second) q s q' there then × Aligned p' q'
  chained_onto p q a s p' start between e (more, f, t) q' there then (given, h, w) =
      let all : between ≡ more = f ∙ ap (λ l. l ++ more) e in
      let P : List (Signal B) → Type 0 = λ l. Walk second q (pushes l) given q' in
      let both = chained p q a s p' more t given q' (subst P all w) in
      ((given, h, both.0), both.1)

-- whatever the later stages give through each other, the earlier ones give
joins_within : {A B : Type 0} (gives later : A → List B → Bool → Type 0) → ((x : A) (ys : List B) (ends : Bool) → later x ys ends → gives x ys ends) → (xs : List A) (ys : List B) (ends : Bool) → Joins later xs ys ends → Joins gives xs ys ends
joins_within gives later k [] ys ends j = j
joins_within gives later k (x ∷ xs) ys ends (inl (g, e)) = inl (k x ys true g, e)
joins_within gives later k (x ∷ xs) ys ends (inr (front, back, g, e, j)) = inr (front, back, k x front false g, e, joins_within gives later k xs back ends j)

pub through_within : {A B C : Type 0} (first later : A → List B → Bool → Type 0) → ((x : A) (ys : List B) (ends : Bool) → later x ys ends → first x ys ends) → (second last : B → List C → Bool → Type 0) → ((x : B) (ys : List C) (ends : Bool) → last x ys ends → second x ys ends) → (x : A) (zs : List C) (ends : Bool) → GivesThrough later last x zs ends → GivesThrough first second x zs ends
through_within first later k second last m x zs ends (ys, l, o, g, j, e) = (ys, l, o, k x ys l g, joins_within second last m ys zs o j, e)
