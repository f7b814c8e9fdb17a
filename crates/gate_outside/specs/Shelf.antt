-- What a shelf's answer says of the files that it holds.
use Rattle.std.specs.Prelude.{◌≡◌, ℕ, List, Option, Some, None, Result, Ok, Err, ⊤}
use Rattle.gate_outside.specs.declared.shelf.ShelfError.{ShelfError}
use Rattle.gate_outside.specs.declared.shelf.ShelfError.TheVariants.{Memory, Missing, Failed}

-- what the answer says of the bytes under the name: they are those, or there are none, or nothing where the shelf failed or memory did
abbrev pub SaysOf : Option (List ℕ) → Result (List ℕ) ShelfError → Type 0
SaysOf held (Ok bytes) = held ≡ Some bytes
SaysOf held (Err Missing) = held ≡ None
SaysOf held (Err Failed) = ⊤
SaysOf held (Err Memory) = ⊤

-- the answer is true of what the shelf tells
abbrev pub AnswersAsHeld : Option (List ℕ → Option (List ℕ)) → List ℕ → Result (List ℕ) ShelfError → Type 0
AnswersAsHeld None name result = ⊤
AnswersAsHeld (Some holds) name result = SaysOf (holds name) result
