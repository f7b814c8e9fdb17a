-- The run of a queue of attempts, where each call that answers handles its attempt.
use Rattle.std.proofs.Common.{◌≡◌, ℕ, zero, suc, ◌+◌, ◌-◌, ◌==◌, Bool, true, false, cond, List, [], ◌∷◌, ◌++◌, length, map, sum_by, Result, Ok, OnOk, refl, sym, ap, subst, ◌∙◌, arith, append-nil, append_assoc}
use Rattle.std.proofs.lemmas.Bool.{eqb-true}
use Rattle.std.proofs.lemmas.Bool.Decides.{nat_tests}
use Rattle.std.proofs.lemmas.List.Sums.{sum_by-cons, sum_by-append}
use Rattle.std.proofs.lemmas.Result.{on_ok_weaker}
use Rattle.stream_core.specs.Drained.{Drained}
use Rattle.stream_core.specs.Drained.Drained.{emptied, went_on, stopped}
use Rattle.drained_machine.specs.declared.attempts.Attempt.{Attempt}
use Rattle.drained_machine.specs.Attempts.{weight, retries, handled_first}

by_test : (number left : ℕ) (none : Bool) → (left == 0) ≡ none → sum_by weight (cond none [] (record { number = number; left = left - 1 } ∷ [])) ≡ left
by_test number left true is = sym (eqb-true left 0 is)
by_test number left false is = grind (arith, nat_tests)

-- an attempt weighs one more than what it leaves to the queue
lighter : (attempt : Attempt) (rest : List Attempt) → sum_by weight (rest ++ retries attempt) + 1 ≡ sum_by weight (attempt ∷ rest)
lighter attempt rest = omega (arith, by_test attempt.number attempt.left (attempt.left == 0) refl, sum_by-append weight rest (retries attempt), sum_by-cons weight attempt rest)

-- from f with this queue to last, all these attempts are handled, and what f borrowed stays borrowed
abbrev pub Handles : {F : Type 0} → (F → List ℕ) → (F → ℕ) → (F → ℕ × ℕ) → F → List Attempt → List Attempt → F → List Attempt → Type 0
Handles noted steps names f queue all last left = (noted last ≡ noted f ++ map (λ a. a.number) all) × (steps last ≡ steps f + length all) × (length all ≡ sum_by weight queue) × (left ≡ []) × (names last ≡ names f)

-- a call that answers handles its attempt
abbrev pub HandlesOne : {F E : Type 0} → (F → Attempt → List Attempt → Result (Unit {0}) E → F → List Attempt → Type 0) → (F → List ℕ) → (F → ℕ) → (F → ℕ × ℕ) → Type 0
HandlesOne {F} runs noted steps names = (f after : F) (attempt : Attempt) (rest left : List Attempt) → runs f attempt rest (Ok tt) after left → (noted after ≡ noted f ++ attempt.number ∷ []) × (steps after ≡ steps f + 1) × (left ≡ rest ++ retries attempt) × (names after ≡ names f)

-- the run that answers handles as many attempts as its queue weighs
pub ran : {F E : Type 0} {runs : F → Attempt → List Attempt → Result (Unit {0}) E → F → List Attempt → Type 0} (count : ℕ) {f last : F} {queue left : List Attempt} {answer : Result (Unit {0}) E} → sum_by weight queue ≡ count → Drained runs f queue answer last left → (noted : F → List ℕ) (steps : F → ℕ) (names : F → ℕ × ℕ) → HandlesOne runs noted steps names → OnOk answer (Handles noted steps names f queue (handled_first count queue) last left)
ran zero is (emptied {f = f}) noted steps names each = (sym (append-nil (noted f)), omega arith, refl, refl, refl)
ran (suc count) is (emptied {f = f}) noted steps names each = (sym (append-nil (noted f)), omega arith, refl, refl, refl)
ran count is (stopped made) noted steps names each = tt
ran zero is (went_on {command = attempt} {rest = rest} made run) noted steps names each = absurd (omega (arith, lighter attempt rest))
ran {runs = runs} (suc count) is (went_on {f = f} {after = after} {last = last} {command = attempt} {rest = rest} {queue = queue} {left = left} {answer = answer} made run) noted steps names each =
    let first = each f after attempt rest queue made in
    let onward = subst (λ l. Drained runs after l answer last left) first.2 run in
    on_ok_weaker answer
    (λ others. (others.0 ∙ ap (λ l. l ++ map (λ a. a.number) (handled_first count (rest ++ retries attempt))) first.0 ∙ append_assoc (noted f) (attempt.number ∷ []) (map (λ a. a.number) (handled_first count (rest ++ retries attempt))), omega (arith, others.1, first.1), omega (arith, others.2, lighter attempt rest), others.3, others.4 ∙ first.3))
    (ran count (omega (arith, lighter attempt rest)) onward noted steps names each)
