-- The calls of a run of a queue of commands.
use Rattle.std.proofs.Common.{◌≡◌, ℕ, ◌+◌, ◌<◌, List, [], ◌∷◌, refl, ap, subst, sym, ◌∙◌, Result, Ok, Err, sum_by, arith}
use Rattle.std.proofs.lemmas.List.Sums.{sum_by-cons}
use Rattle.std.specs.Borrow.{MutBor}
use Rattle.std.specs.Fn.{Mut, Called, always_mut}
use Rattle.stream_core.specs.Drained.{Drained, Runs}
use Rattle.stream_core.specs.Drained.Drained.{emptied, went_on, stopped}

module _ {F C Q E : Type 0} (call : Mut F (C × (MutBor Q × Unit {0})) (Result (Unit {0}) E × (MutBor Q × Unit {0}))) (items : Q → List C) where
  -- a call that was made is one of the run
  one_call : (f : F) (command : C) (shown : MutBor Q) (r : Result (Unit {0}) E) (returned : MutBor Q) (after : F) → Called call f (command, (shown, tt)) (r, (returned, tt)) after → (answer : Result (Unit {0}) E) → r ≡ answer → Runs call items f command (items shown.now) answer after (items returned.now)
  one_call f command shown r returned after made answer is =
      let P : Result (Unit {0}) E → Type 0 = λ v. call.steps f (command, (shown, tt)) (v, (returned, tt)) after in
      record { shown = shown; shows = refl; returned = returned; met = subst P is made.met; leaves = refl }

  -- the first command ran, and the run goes on behind it
  pub goes_on : (f : F) (command : C) (shown : MutBor Q) (r : Result (Unit {0}) E) (returned : MutBor Q) (after : F) → Called call f (command, (shown, tt)) (r, (returned, tt)) after → r ≡ Ok tt → (queue : List C) → queue ≡ command ∷ items shown.now → (answer : Result (Unit {0}) E) (last : F) (left : List C) → Drained (Runs call items) after (items returned.now) answer last left → Drained (Runs call items) f queue answer last left
  goes_on f command shown r returned after made is queue first answer last left rest =
      let P : List C → Type 0 = λ l. Drained (Runs call items) f l answer last left in
      subst P (sym first) (went_on (one_call f command shown r returned after made (Ok tt) is) rest)

  -- the first command answered an error, and that is the run
  pub stops : (f : F) (command : C) (shown : MutBor Q) (r : Result (Unit {0}) E) (returned : MutBor Q) (after : F) → Called call f (command, (shown, tt)) (r, (returned, tt)) after → (error : E) → r ≡ Err error → (queue : List C) → queue ≡ command ∷ items shown.now → (answer : Result (Unit {0}) E) → answer ≡ Err error → Drained (Runs call items) f queue answer after (items returned.now)
  stops f command shown r returned after made error is queue first answer same =
      let P : List C → Type 0 = λ l. Drained (Runs call items) f l answer after (items returned.now) in
      let Q' : Result (Unit {0}) E → Type 0 = λ v. Drained (Runs call items) f (command ∷ items shown.now) v after (items returned.now) in
      subst P (sym first) (subst Q' (sym same) (stopped (one_call f command shown r returned after made (Err error) is)))

  -- the queue is empty, and that is the run
  pub ends : (f : F) (queue left : List C) → queue ≡ [] → left ≡ [] → Drained (Runs call items) f queue (Ok tt) f left
  ends f queue left none same =
      let P : List C → Type 0 = λ l. Drained (Runs call items) f l (Ok tt) f left in
      let Q' : List C → Type 0 = λ l. Drained (Runs call items) f [] (Ok tt) f l in
      subst P (sym none) (subst Q' (sym same) emptied)

  -- the rest of the run weighs less
  pub falls : (weight : C → ℕ) → ((s t : F) (c : C) (before after : MutBor Q) → call.pre s (c, (before, tt)) → Called call s (c, (before, tt)) (Ok tt, (after, tt)) t → sum_by weight (items after.now) < weight c + sum_by weight (items before.now)) → (f : F) (command : C) (shown : MutBor Q) (r : Result (Unit {0}) E) (returned : MutBor Q) (after : F) → always_mut call f → Called call f (command, (shown, tt)) (r, (returned, tt)) after → r ≡ Ok tt → (queue : List C) → queue ≡ command ∷ items shown.now → sum_by weight (items returned.now) < sum_by weight queue
  falls weight lighter f command shown r returned after ready made is queue first =
      let P : Result (Unit {0}) E → Type 0 = λ v. call.steps f (command, (shown, tt)) (v, (returned, tt)) after in
      let less : sum_by weight (items returned.now) < weight command + sum_by weight (items shown.now) = lighter f after command shown returned (ready.at ((command, (shown, tt)) ∷ [])).0 (record { met = subst P is made.met }) in
      let whole : sum_by weight queue ≡ weight command + sum_by weight (items shown.now) = ap (sum_by weight) first ∙ sum_by-cons weight command (items shown.now) in
      omega arith
