-- What an exchange comes to over a list of calls.
use Rattle.std.specs.Prelude.{◌≡◌, ◌≢◌, ℕ, List, [], ◌∷◌, ◌++◌, ◌⊎◌}
use Rattle.stream_core.specs.declared.flow.Flow.{Flow}
use Rattle.stream_core.specs.declared.operation.Kind.{Kind}
use Rattle.stream_core.specs.declared.operation.Kind.TheVariants.{Query, Mutation, Teardown, Other}
use Rattle.stream_core.specs.declared.exchange_calls.ExchangeCall.{ExchangeCall}
use Rattle.stream_core.specs.declared.exchange_calls.ExchangeCall.TheVariants as call
use Rattle.stream_core.specs.Exchanges.{downs, ups, mutation_of, mutations}

-- the id i is torn down behind an operation: the operation tears it down, or it was torn down before and the operation doesn't send it
abbrev pub TornBy : Kind → Type 0 → ℕ → Type 0
TornBy (Query j) was i = was × (i ≢ j)
TornBy (Mutation j) was i = was × (i ≢ j)
TornBy (Teardown j) was i = was ⊎ (i ≡ j)
TornBy Other was i = was

-- none of the results has an id that is torn down
abbrev pub NoneTorn : {U : Type 0} → (U → ℕ) → (ℕ → Type 0) → List U → Type 0
NoneTorn id torn [] = Unit {0}
NoneTorn id torn (u ∷ us) = (torn (id u) → ⊥) × NoneTorn id torn us

-- what was given, call by call, where `torn` says which ids are torn down before the calls: an operation gives nothing up and sends its mutation down once; a result sends no mutation down and gives nothing up for an id that is torn down
abbrev pub KeepsSilence : {D U C : Type 0} → (D → Kind) → (U → ℕ) → (ℕ → Type 0) → List (ExchangeCall D U) → List (Flow D U C) → Type 0
KeepsSilence kind id torn [] given = given ≡ []
KeepsSilence {D} {U} {C} kind id torn (call.Operation op ∷ calls) given = (now : List (Flow D U C)) × (rest : List (Flow D U C)) × (given ≡ now ++ rest) × (ups now ≡ []) × (mutations kind (downs now) ≡ mutation_of (kind op)) × KeepsSilence kind id (λ i. TornBy (kind op) (torn i) i) calls rest
KeepsSilence {D} {U} {C} kind id torn (call.Result res ∷ calls) given = (now : List (Flow D U C)) × (rest : List (Flow D U C)) × (given ≡ now ++ rest) × NoneTorn id torn (ups now) × (mutations kind (downs now) ≡ []) × KeepsSilence kind id torn calls rest

-- the same where no id is torn down before the calls, and what was given stands behind what was there
abbrev pub KeepsSilenceOnto : {D U C : Type 0} → (D → Kind) → (U → ℕ) → List (ExchangeCall D U) → List (Flow D U C) → List (Flow D U C) → Type 0
KeepsSilenceOnto {D} {U} {C} kind id calls there then = (given : List (Flow D U C)) × (then ≡ there ++ given) × KeepsSilence kind id (λ i. ⊥) calls given
