-- The laws of an exchange.
use Rattle.std.specs.Prelude.{◌≡◌, ◌≢◌, ℕ, List, [], ◌∷◌, ◌++◌, ◌⊎◌}
use Rattle.stream_core.specs.declared.flow.Flow.{Flow}
use Rattle.stream_core.specs.declared.flow.Flow.TheVariants.{Down, Up, Again}
use Rattle.stream_core.specs.declared.operation.Kind.{Kind}
use Rattle.stream_core.specs.declared.operation.Kind.TheVariants.{Query, Mutation, Teardown, Other}

-- what went down, in order
abbrev pub downs : {D U C : Type 0} → List (Flow D U C) → List D
downs [] = []
downs (Down d ∷ given) = d ∷ downs given
downs (Up u ∷ given) = downs given
downs (Again c ∷ given) = downs given

-- what went up, in order
abbrev pub ups : {D U C : Type 0} → List (Flow D U C) → List U
ups [] = []
ups (Down d ∷ given) = ups given
ups (Up u ∷ given) = u ∷ ups given
ups (Again c ∷ given) = ups given

-- the id of a mutation, and none for any other operation
abbrev pub mutation_of : Kind → List ℕ
mutation_of (Query i) = []
mutation_of (Mutation i) = i ∷ []
mutation_of (Teardown i) = []
mutation_of Other = []

-- the ids of the mutations among the operations, in order
abbrev pub mutations : {D : Type 0} → (D → Kind) → List D → List ℕ
mutations kind [] = []
mutations kind (d ∷ ds) = mutation_of (kind d) ++ mutations kind ds

-- a result may go up for the id i behind an operation: for the id that it sends, and else where one could before, but
-- not for the id that it tears down
abbrev pub MayAwait : Kind → Type 0 → ℕ → Type 0
MayAwait (Query j) could i = could ⊎ (i ≡ j)
MayAwait (Mutation j) could i = could ⊎ (i ≡ j)
MayAwait (Teardown j) could i = could × (i ≢ j)
MayAwait Other could i = could

-- each of the results has an id for which one may go up
abbrev pub EachAwaited : {U : Type 0} → (U → ℕ) → (ℕ → Type 0) → List U → Type 0
EachAwaited id awaits [] = Unit {0}
EachAwaited id awaits (u ∷ us) = awaits (id u) × EachAwaited id awaits us

-- what an exchange makes of an operation: nothing goes up, and a mutation goes down once
pub record Operated {D U C : Type 0} (kind : D → Kind) (before after : ℕ → Type 0) (op : D) (given : List (Flow D U C)) : Type 0 where
  pub silent : ups given ≡ []
  pub once : mutations kind (downs given) ≡ mutation_of (kind op)
  pub awaits : (i : ℕ) → after i → MayAwait (kind op) (before i) i

-- what an exchange makes of a result: results go up only for ids that may have one, and no mutation goes down
pub record Answered {D U C : Type 0} (kind : D → Kind) (id : U → ℕ) (before after : ℕ → Type 0) (given : List (Flow D U C)) : Type 0 where
  pub awaited : EachAwaited id before (ups given)
  pub unsent : mutations kind (downs given) ≡ []
  pub awaits : (i : ℕ) → after i → before i

-- what was given stands behind what was there, and P holds of it
abbrev pub Onto : {A : Type 0} → (List A → Type 0) → List A → List A → Type 0
Onto {A} P there all = (given : List A) × (all ≡ there ++ given) × P given

-- what an exchange makes of an operation, where what was given stands behind what was there
abbrev pub OperatedOnto : {D U C : Type 0} → (D → Kind) → (ℕ → Type 0) → (ℕ → Type 0) → D → List (Flow D U C) → List (Flow D U C) → Type 0
OperatedOnto {D} {U} {C} kind before after op there then = (given : List (Flow D U C)) × (then ≡ there ++ given) × Operated kind before after op given

-- what an exchange makes of a result, where what was given stands behind what was there
abbrev pub AnsweredOnto : {D U C : Type 0} → (D → Kind) → (U → ℕ) → (ℕ → Type 0) → (ℕ → Type 0) → List (Flow D U C) → List (Flow D U C) → Type 0
AnsweredOnto {D} {U} {C} kind id before after there then = (given : List (Flow D U C)) × (then ≡ there ++ given) × Answered kind id before after given

-- what was given passed down through a part below: the same results go up, and the same mutations go down
pub record PassedDown {D U C : Type 0} (kind : D → Kind) (from given : List (Flow D U C)) : Type 0 where
  pub results : ups given ≡ ups from
  pub mutated : mutations kind (downs given) ≡ mutations kind (downs from)

-- what was given passed up through a part above: results go up only for ids that may have one, and the same mutations go down
pub record PassedUp {D U C : Type 0} (kind : D → Kind) (id : U → ℕ) (before after : ℕ → Type 0) (from given : List (Flow D U C)) : Type 0 where
  pub awaited : EachAwaited id before (ups given)
  pub mutated : mutations kind (downs given) ≡ mutations kind (downs from)
  pub awaits : (i : ℕ) → after i → before i

-- `from` passed down through a part below, where what was given stands behind what was there
abbrev pub PassedDownOnto : {D U C : Type 0} → (D → Kind) → List (Flow D U C) → List (Flow D U C) → List (Flow D U C) → Type 0
PassedDownOnto {D} {U} {C} kind from there then = (given : List (Flow D U C)) × (then ≡ there ++ given) × PassedDown kind from given

-- `from` passed up through a part above, where what was given stands behind what was there
abbrev pub PassedUpOnto : {D U C : Type 0} → (D → Kind) → (U → ℕ) → (ℕ → Type 0) → (ℕ → Type 0) → List (Flow D U C) → List (Flow D U C) → List (Flow D U C) → Type 0
PassedUpOnto {D} {U} {C} kind id before after from there then = (given : List (Flow D U C)) × (then ≡ there ++ given) × PassedUp kind id before after from given
