-- Tickets and fetches over commands: each ticket has one open fetch at most, and tickets are drawn in order of first sending.
use Rattle.std.specs.Prelude.{◌≡◌, ℕ, ◌<◌, ◌≤◌, ◌==◌, false, List, [], ◌∷◌, filter, length, is_some}
use Rattle.std.specs.List.{list_any, AllByRecursion}
use Rattle.cache_model.specs.History.{History}
use Rattle.queue_model.specs.Queue.{MutationQueue}
use Rattle.machine_model.specs.Operations.{Meaning}
use Rattle.machine_model.specs.State.{GatewayState, OpenFetch, PendingMutation, Job, first_state}
use Rattle.machine_model.specs.Rows.{Offered, all_offered}
use Rattle.machine_model.specs.Commands.{command_step}
use Rattle.machine_model.specs.Runs.{commands_taken}

-- the numbers of these things ascend, all above a number
abbrev pub Ascend : {X : Type 0} → (X → ℕ) → ℕ → List X → Type 0
Ascend number low [] = Unit {0}
Ascend number low (x ∷ xs) = (low < number x) × Ascend number (number x) xs

-- no two of them have one number
abbrev pub AreSingle : {X : Type 0} → (X → ℕ) → List X → Type 0
AreSingle number [] = Unit {0}
AreSingle number (x ∷ xs) = (list_any (λ other. number x == number other) xs ≡ false) × AreSingle number xs

-- the open fetches of queries; a query is sent once for its ticket
abbrev pub of_queries : {O : Type 0} → List (OpenFetch O) → List (OpenFetch O)
of_queries fetches = filter (λ fetch. is_some fetch.key) fetches

-- The numbers of open fetches ascend, and the next one is above them. Each ticket was drawn, and one open fetch at most is
-- for it. The tickets of queries ascend in order of sending, and those of mutations in order of first sending.
pub record AreInOrder {O : Type 0} (history : History) (fetches : List (OpenFetch O)) (mutations : List (PendingMutation O)) (next : ℕ) : Type 0 where
  pub begun : 0 < next
  pub numbers : Ascend (λ (fetch : OpenFetch O). fetch.number) 0 fetches
  pub below : AllByRecursion (λ (fetch : OpenFetch O). fetch.number < next) fetches
  pub drawn : AllByRecursion (λ (fetch : OpenFetch O). fetch.ticket ≤ length history) fetches
  pub single : AreSingle (λ (fetch : OpenFetch O). fetch.ticket) fetches
  pub queries : Ascend (λ (fetch : OpenFetch O). fetch.ticket) 0 (of_queries fetches)
  pub known : AllByRecursion (λ (pending : PendingMutation O). pending.ticket ≤ length history) mutations
  pub in_turn : Ascend (λ (pending : PendingMutation O). pending.ticket) 0 mutations

-- a state's history, open fetches, mutations and next number of a fetch are so
abbrev pub IsInOrder : {O : Type 0} → GatewayState O → Type 0
IsInOrder state = AreInOrder state.history state.fetches state.mutations state.next_fetch

-- it is so before the first command, whatever queue is found and whichever of its rows are offered
abbrev pub TicketsInOrderAtFirst : Type 0 → Type 0
TicketsInOrderAtFirst O = (meaning : Meaning O) (rows : MutationQueue) (offers : List (Offered O)) → IsInOrder (all_offered meaning offers (first_state rows)).state

-- every command leaves it so
abbrev pub TicketsInOrder : Type 0 → Type 0
TicketsInOrder O = (meaning : Meaning O) (job : Job) (state : GatewayState O) → IsInOrder state → IsInOrder (command_step meaning job state).state

-- and so does every run
abbrev pub TicketsInOrderInRuns : Type 0 → Type 0
TicketsInOrderInRuns O = (n : ℕ) (meaning : Meaning O) (state : GatewayState O) → IsInOrder state → IsInOrder (commands_taken n meaning state).state
