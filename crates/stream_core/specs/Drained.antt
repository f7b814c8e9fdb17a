-- The run of a queue of commands.
use Rattle.std.specs.Prelude.{◌≡◌, List, [], ◌∷◌, Result, Ok, Err}
use Rattle.std.specs.Borrow.{MutBor}
use Rattle.std.specs.Fn.{Mut}

-- a call of f with a command and the rest of the queue may answer so, and leave f and the queue so
pub record Runs {F C Q R : Type 0} (call : Mut F (C × (MutBor Q × Unit {0})) (R × (MutBor Q × Unit {0}))) (items : Q → List C) (f : F) (command : C) (rest : List C) (answer : R) (after : F) (left : List C) : Type 0 where
  pub shown : MutBor Q
  pub shows : items shown.now ≡ rest
  pub returned : MutBor Q
  pub met : call.steps f (command, (shown, tt)) (answer, (returned, tt)) after
  pub leaves : items returned.now ≡ left

-- the run: each call takes the first command, with the rest of the queue; it goes on with what the call left, and ends with the queue empty, or with the first error and what that call left
pub data Drained {F C E : Type 0} (runs : F → C → List C → Result (Unit {0}) E → F → List C → Type 0) : F → List C → Result (Unit {0}) E → F → List C → Type 0 where
  emptied : {f : F} → Drained runs f [] (Ok tt) f []
  went_on : {f after last : F} {command : C} {rest queue left : List C} {answer : Result (Unit {0}) E} → runs f command rest (Ok tt) after queue → Drained runs after queue answer last left → Drained runs f (command ∷ rest) answer last left
  stopped : {f after : F} {command : C} {rest left : List C} {error : E} → runs f command rest (Err error) after left → Drained runs f (command ∷ rest) (Err error) after left
