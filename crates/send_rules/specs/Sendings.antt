-- What deduplication makes of sendings and results, by the fetches that are down.
use Rattle.std.specs.Prelude.{◌≡◌, ℕ, List, [], ◌∷◌, map, Option, Some, None, IsSome, ◌⊎◌, if◌then◌else◌}
use Rattle.std.specs.FinMap as finite
use Rattle.std.specs.Ordering.{nat_cmp}
use Rattle.stream_core.specs.declared.operation.Kind.{Kind}
use Rattle.stream_core.specs.declared.operation.Kind.TheVariants as kind
use Rattle.stream_core.specs.declared.flow.Flow.{Flow}
use Rattle.stream_core.specs.declared.flow.Flow.TheVariants.{Down, Up}
use Rattle.send_rules.specs.declared.sending.Back.{Back}
use Rattle.send_rules.specs.declared.sending.Sending.{Sending}
use Rattle.send_rules.specs.declared.sending.Sending.TheVariants.{Query, Mutation, Teardown}

-- a sending as an operation of a line: its id is the number of its fetch
abbrev pub kind_of : Sending → Kind
kind_of (Query key fetch) = kind.Query fetch
kind_of (Mutation fetch) = kind.Mutation fetch
kind_of (Teardown fetch) = kind.Teardown fetch

-- the fetches that are down, each of a query with its key
abbrev pub Fetches : Type 0
Fetches = finite.FinMap nat_cmp (Option ℕ)

-- the fetch is down
abbrev pub IsDown : Fetches → ℕ → Type 0
IsDown down fetch = IsSome (finite.get down fetch)

-- a query with this key is in flight
abbrev pub IsInFlight : Fetches → ℕ → Type 0
IsInFlight down key = (fetch : ℕ) × (finite.get down fetch ≡ Some (Some key))

-- each key has one fetch at most
abbrev pub OneFetchEach : Fetches → Type 0
OneFetchEach down = (key fetch other : ℕ) → finite.get down fetch ≡ Some (Some key) → finite.get down other ≡ Some (Some key) → fetch ≡ other

-- the map from keys to fetches is that of the fetches that are down
abbrev pub Agree : finite.FinMap nat_cmp ℕ → Fetches → Type 0
Agree in_flight down = ((key fetch : ℕ) → finite.get in_flight key ≡ Some fetch → finite.get down fetch ≡ Some (Some key)) × ((key fetch : ℕ) → finite.get down fetch ≡ Some (Some key) → finite.get in_flight key ≡ Some fetch)

-- what goes down for a sending, and the fetches that are down then: a query goes down exactly where its key isn't in flight, a mutation goes down, and a teardown goes down where its fetch is
abbrev pub Sent : Fetches → Sending → Fetches → List Sending → Type 0
Sent before (Query key fetch) after given = (IsInFlight before key × (after ≡ before) × (given ≡ [])) ⊎ ((IsInFlight before key → ⊥) × (after ≡ finite.insert before fetch (Some key)) × (given ≡ Query key fetch ∷ []))
Sent before (Mutation fetch) after given = (after ≡ finite.insert before fetch None) × (given ≡ Mutation fetch ∷ [])
Sent before (Teardown fetch) after given = (after ≡ finite.remove before fetch) × (given ≡ (if finite.contains_key before fetch then Teardown fetch ∷ [] else []))

-- the same, as what an exchange gives
abbrev pub Operates : {C : Type 0} → Fetches → Sending → Fetches → List (Flow Sending Back C) → Type 0
Operates before op after given = (sent : List Sending) × (given ≡ map Down sent) × Sent before op after sent

-- what goes up for a result: itself where its fetch is down, which then isn't down any more
abbrev pub Answers : {C : Type 0} → Fetches → Back → Fetches → List (Flow Sending Back C) → Type 0
Answers before res after given = (after ≡ finite.remove before res.fetch) × (given ≡ map Up (if finite.contains_key before res.fetch then res ∷ [] else []))
