-- Turns of a stage, for the proofs of the stages.
use Rattle.std.proofs.Common.{◌≡◌, List, ◌++◌, Bool, cond, Option, Some, None, refl, ap, subst, sym}
use Rattle.stream_core.specs.declared.phase.Phase.{Phase}
use Rattle.stream_core.specs.declared.phase.Phase.TheVariants.{Waiting, Flowing, Over}
use Rattle.stream_core.specs.declared.signal.Signal.{Signal}
use Rattle.stream_core.specs.declared.signal.Signal.TheVariants.{Start, Push, End}
use Rattle.stream_core.specs.Phases.{passed, passes_to}
use Rattle.stream_core.specs.Turns.{signals, TurnOnto}

abbrev item_or : {A : Type 0} → A → Option (Signal A) → A
item_or x (Some (Push y)) = y
item_or x (Some Start) = x
item_or x (Some End) = x
item_or x None = x

-- an item that came through flows, and what is given for it is the turn
pub item_turn : {A B : Type 0} (gives : A → List B → Bool → Type 0) (p : Phase) (s : Signal A) (x : A) (p' : Phase) → passed p s ≡ Some (Push x) → (ys : List B) (ends : Bool) → gives x ys ends → p' ≡ cond ends Over (passes_to p s) → (there then : List (Signal B)) → then ≡ there ++ signals ys ends → TurnOnto gives p s p' there then
item_turn gives Waiting Start x p' was ys ends g a there then e = absurd (cc was)
item_turn gives Waiting (Push y) x p' was ys ends g a there then e = absurd (cc was)
item_turn gives Waiting End x p' was ys ends g a there then e = absurd (cc was)
item_turn gives Flowing Start x p' was ys ends g a there then e = absurd (cc was)
item_turn {A} {B} gives Flowing (Push y) x p' was ys ends g a there then e = let P : A → Type 0 = λ v. gives v ys ends in (signals ys ends, e, (ys, ends, subst P (sym (ap (item_or x) was)) g, a, refl))
item_turn gives Flowing End x p' was ys ends g a there then e = absurd (cc was)
item_turn gives Over s x p' was ys ends g a there then e = absurd (cc was)
