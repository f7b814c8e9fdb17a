-- Whatever answers the fetch of a query, its ticket is finished and closed.
use Rattle.std.proofs.Common.{◌≡◌, ℕ, ◌-◌, ◌<◌, true, false, List, [], length, Option, Some, Result, Ok, Err, refl, sym, subst}
use Rattle.std.specs.List.{list_any}
use Rattle.gql_value.specs.declared.value.Value.{Value}
use Rattle.gql_value.specs.declared.outcome.Outcome.{Outcome}
use Rattle.gql_value.specs.declared.outcome.Outcome.TheVariants as outcome
use Rattle.cache_model.specs.declared.write.Write.{Write}
use Rattle.cache_model.specs.declared.kind.Kind.TheVariants.{Empty, Final}
use Rattle.cache_model.specs.History.{History, Content}
use Rattle.machine_model.specs.Operations.{Meaning}
use Rattle.machine_model.specs.State.{GatewayState, OpenFetch, PendingMutation}
use Rattle.machine_model.specs.Steps.{Change}
use Rattle.machine_model.specs.Sequels.{concluded}
use Rattle.machine_model.specs.Teardowns.{closed}
use Rattle.machine_model.specs.Responses.{query_written, query_answered, fetch_answered, answered_where_open, response}
use Rattle.machine_model.specs.Laws.{Arrival, arrived, is_fetch_at, is_mutation_at, IsClosedIn, IsClosed, IsAlone}
use Rattle.machine_model.proofs.MapLaws.{final, arrived_here, length_arrived}
use Rattle.machine_model.proofs.ClosedTickets.{closed_concluded}

-- a final content at a place for which nothing is open
abbrev Ends : {O : Type 0} → ℕ → GatewayState O → Type 0
Ends place s = (c : Content) × (c.finished ≡ true) × IsClosed place c s

-- the ticket was drawn, and nothing is open for it
record IsFree {O : Type 0} (place : ℕ) (s : GatewayState O) : Type 0 where
  pub drawn : place < length s.history
  pub unsent : list_any (is_fetch_at place) s.fetches ≡ false
  pub answered : list_any (is_mutation_at place) s.mutations ≡ false

ended_in : {O : Type 0} (h : History) (f : List (OpenFetch O)) (m : List (PendingMutation O)) (a : Arrival) → a.ticket - 1 < length h
    → list_any (is_fetch_at (a.ticket - 1)) f ≡ false → list_any (is_mutation_at (a.ticket - 1)) m ≡ false → IsClosedIn (a.ticket - 1) (final a) (arrived h a) f m
ended_in h f m a l u n = record { drawn = rw (length_arrived h a) l; is = arrived_here h a l; unsent = u; answered = n }

ends_with : {O : Type 0} (s : GatewayState O) (a : Arrival) → IsFree (a.ticket - 1) s → Ends (a.ticket - 1) (record s { history = arrived s.history a })
ends_with s a free = (final a, refl, ended_in s.history s.fetches s.mutations a free.drawn free.unsent free.answered)

ends_concluded : {O : Type 0} (place : ℕ) (m : Meaning O) (change : Change O) → Ends place change.state → Ends place (concluded m change).state
ends_concluded place m change e = (e.0, e.1, closed_concluded place e.0 m change e.2)

ends_written : {O : Type 0} (m : Meaning O) (fetch : OpenFetch O) (key : ℕ) (errors : Value) (s : GatewayState O) (written : Result (List Write) (List ℕ)) → IsFree (fetch.ticket - 1) s → Ends (fetch.ticket - 1) (query_written m fetch key errors s written).state
ends_written m fetch key errors s (Ok writes) free = ends_with s (record { ticket = fetch.ticket; kind = Final; writes = writes }) free
ends_written m fetch key errors s (Err path) free = ends_with s (record { ticket = fetch.ticket; kind = Empty; writes = [] }) free

ends_answered : {O : Type 0} (m : Meaning O) (fetch : OpenFetch O) (key : ℕ) (s : GatewayState O) (o : Outcome) → IsFree (fetch.ticket - 1) s → Ends (fetch.ticket - 1) (query_answered m fetch key s o).state
ends_answered m fetch key s (outcome.Body answer errors) free = ends_written m fetch key errors s (m.written fetch.operation answer errors) free
ends_answered m fetch key s (outcome.Bad fault) free = ends_with s (record { ticket = fetch.ticket; kind = Empty; writes = [] }) free

pub answers_close : {O : Type 0} (m : Meaning O) (s : GatewayState O) (fetch : OpenFetch O) (key peer line : ℕ) (o : Outcome) → fetch.key ≡ Some key → IsAlone fetch s → Ends (fetch.ticket - 1) (concluded m (response m peer fetch.number line o s)).state
answers_close {O} m s fetch key peer line o k alone =
    let later = closed fetch.number s in
    let free : IsFree (fetch.ticket - 1) later = record { drawn = alone.drawn; unsent = alone.unsent; answered = alone.answered } in
    let of_key : Ends (fetch.ticket - 1) (concluded m (fetch_answered m fetch o later (Some key))).state
    = ends_concluded (fetch.ticket - 1) m (fetch_answered m fetch o later (Some key)) (ends_answered m fetch key later o free) in
    let of_fetch : Ends (fetch.ticket - 1) (concluded m (fetch_answered m fetch o later fetch.key)).state
    = subst (λ (given : Option ℕ). Ends (fetch.ticket - 1) (concluded m (fetch_answered m fetch o later given)).state) (sym k) of_key in
    subst (λ (found : Option (OpenFetch O)). Ends (fetch.ticket - 1) (concluded m (answered_where_open m peer line o s found)).state) (sym alone.found) of_fetch
