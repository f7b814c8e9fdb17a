-- Two exchanges in a line.
use Rattle.std.specs.Prelude.{◌≡◌, List, [], ◌∷◌, ◌++◌}
use Rattle.stream_core.specs.declared.flow.Flow.{Flow}
use Rattle.stream_core.specs.declared.flow.Flow.TheVariants.{Down, Up, Again}

-- what is given where the operations among `from` go down into the exchange below, from its state `below` to `after`, and the rest goes on as it is
abbrev pub Lowers : {X D U C : Type 0} → (X → D → X → List (Flow D U C) → Type 0) → X → List (Flow D U C) → X → List (Flow D U C) → Type 0
Lowers operates below [] after given = (below ≡ after) × (given ≡ [])
Lowers {X} {D} {U} {C} operates below (Down op ∷ from) after given = (mid : X) × (now : List (Flow D U C)) × (rest : List (Flow D U C)) × operates below op mid now × (given ≡ now ++ rest) × Lowers operates mid from after rest
Lowers {X} {D} {U} {C} operates below (Up res ∷ from) after given = (rest : List (Flow D U C)) × (given ≡ Up res ∷ rest) × Lowers operates below from after rest
Lowers {X} {D} {U} {C} operates below (Again command ∷ from) after given = (rest : List (Flow D U C)) × (given ≡ Again command ∷ rest) × Lowers operates below from after rest

-- what is given where the results among `from` go up into the exchange above, and what that sends down goes down through the one below; the rest goes on as it is
abbrev pub Raises : {A B D U C : Type 0} → (A → U → A → List (Flow D U C) → Type 0) → (B → D → B → List (Flow D U C) → Type 0) → A → B → List (Flow D U C) → A → B → List (Flow D U C) → Type 0
Raises answers operates above below [] above' below' given = (above ≡ above') × (below ≡ below') × (given ≡ [])
Raises {A} {B} {D} {U} {C} answers operates above below (Up res ∷ from) above' below' given = (a : A) × (b : B) × (own : List (Flow D U C)) × (now : List (Flow D U C)) × (rest : List (Flow D U C)) × answers above res a own × Lowers operates below own b now × (given ≡ now ++ rest) × Raises answers operates a b from above' below' rest
Raises {A} {B} {D} {U} {C} answers operates above below (Down op ∷ from) above' below' given = (rest : List (Flow D U C)) × (given ≡ Down op ∷ rest) × Raises answers operates above below from above' below' rest
Raises {A} {B} {D} {U} {C} answers operates above below (Again command ∷ from) above' below' given = (rest : List (Flow D U C)) × (given ≡ Again command ∷ rest) × Raises answers operates above below from above' below' rest

-- a line's operation: what the first part gives goes down into the second
abbrev pub OperatesThrough : {A B D U C : Type 0} → (A → D → A → List (Flow D U C) → Type 0) → (B → D → B → List (Flow D U C) → Type 0) → A → B → D → A → B → List (Flow D U C) → Type 0
OperatesThrough {A} {B} {D} {U} {C} first second above below op above' below' given = (between : List (Flow D U C)) × first above op above' between × Lowers second below between below' given

-- a line's result: what the second part gives goes up into the first, and what that sends down goes down through the second
abbrev pub AnswersThrough : {A B D U C : Type 0} → (A → U → A → List (Flow D U C) → Type 0) → (B → U → B → List (Flow D U C) → Type 0) → (B → D → B → List (Flow D U C) → Type 0) → A → B → U → A → B → List (Flow D U C) → Type 0
AnswersThrough {A} {B} {D} {U} {C} first second operates above below res above' below' given = (mid : B) × (between : List (Flow D U C)) × second below res mid between × Raises first operates above mid between above' below' given
