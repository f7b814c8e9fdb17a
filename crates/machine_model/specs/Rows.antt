-- The rows of the queue: offered at the opening, and again when the origin can be reached (after urql's offlineExchange).
use Rattle.std.specs.Prelude.{ℕ, ◌==◌, Bool, false, if◌then◌else◌, List, [], ◌∷◌, find, Some, None, Result}
use Rattle.std.specs.Option.{option_map_or}
use Rattle.std.specs.declared.result.Result.TheVariants.{Ok, Err}
use Rattle.queue_model.specs.declared.row.Row.{Row}
use Rattle.machine_model.specs.declared.output.Refusal.{Refusal}
use Rattle.machine_model.specs.declared.output.Refusal.TheVariants as refusal
use Rattle.machine_model.specs.declared.output.Stop.{Stop}
use Rattle.machine_model.specs.declared.output.Stop.TheVariants.{BadRow}
use Rattle.machine_model.specs.Operations.{Meaning}
use Rattle.machine_model.specs.State.{GatewayState, PendingMutation, is_sent}
use Rattle.machine_model.specs.Steps.{Step, unmoved, and_then}
use Rattle.machine_model.specs.Issue.{sent}
use Rattle.machine_model.specs.Mutations.{begun_and_sent}

-- the mutation is kept in this row
abbrev pub is_in_row : {O : Type 0} → ℕ → PendingMutation O → Bool
is_in_row seq pending = option_map_or (λ row. row == seq) pending.row false

-- a mutation whose fetch isn't open is sent again, with its own ticket and the next fetch number
abbrev pub sent_again : {O : Type 0} → Meaning O → GatewayState O → PendingMutation O → Step O
sent_again meaning state pending =
    if is_sent state pending.ticket then unmoved state else sent meaning pending.ticket None pending.operation state

-- the mutations of these rows in order, each of which is sent again unless its fetch is open
abbrev pub rows_sent_again : {O : Type 0} → Meaning O → List Row → GatewayState O → Step O
rows_sent_again meaning [] state = unmoved state
rows_sent_again meaning (row ∷ rows) state =
    and_then (option_map_or (sent_again meaning state) (find (is_in_row row.seq) state.mutations) (unmoved state)) (rows_sent_again meaning rows)

-- the origin can be reached again: each row without an open fetch is sent, in order
abbrev pub online : {O : Type 0} → Meaning O → GatewayState O → Step O
online meaning state = rows_sent_again meaning state.rows.rows state

-- the number of a refusal's code
abbrev pub code_of : Refusal → ℕ
code_of refusal.E1 = 1
code_of refusal.E2 = 2
code_of (refusal.E3 member) = 3
code_of refusal.E4 = 4
code_of refusal.E5 = 5
code_of (refusal.E6 row column) = 6
code_of refusal.E7 = 7
code_of (refusal.E8 rule) = 8
code_of (refusal.E9 variable) = 9
code_of refusal.E10 = 10
code_of (refusal.E11 path) = 11
code_of refusal.E12 = 12
code_of refusal.E14 = 14
code_of refusal.E15 = 15
code_of refusal.E16 = 16
code_of refusal.E17 = 17

-- the number of the broken rule, and 0 for another refusal
abbrev pub rule_of : Refusal → ℕ
rule_of (refusal.E8 rule) = rule
rule_of _ = 0

-- a row with the mutation that it is
abbrev pub Offered : Type 0 → Type 0
Offered O = ℕ × O

-- a row's mutation goes before those of the rows after it, unless one of these isn't taken
abbrev pub offered_before : {O : Type 0} → ℕ → O → Result (List (Offered O)) Stop → Result (List (Offered O)) Stop
offered_before seq operation (Ok more) = Ok ((seq, operation) ∷ more)
offered_before seq operation (Err stop) = Err stop

-- a row that isn't taken is the bad one, with the code and rule of its refusal, whatever comes after it; another goes before the rest
abbrev pub offered_or_bad : {O : Type 0} → ℕ → Result O Refusal → Result (List (Offered O)) Stop → Result (List (Offered O)) Stop
offered_or_bad seq (Err refusal) more = Err (BadRow seq (code_of refusal) (rule_of refusal))
offered_or_bad seq (Ok operation) more = offered_before seq operation more

-- the mutations of all rows, in order, or the first row that isn't taken under the present schema
abbrev pub offers : {O : Type 0} → Meaning O → List Row → Result (List (Offered O)) Stop
offers meaning [] = Ok []
offers meaning (row ∷ rows) = offered_or_bad row.seq (meaning.stored row) (offers meaning rows)

-- each of them draws the next ticket, shows its guess, and is sent; none has a listener
abbrev pub all_offered : {O : Type 0} → Meaning O → List (Offered O) → GatewayState O → Step O
all_offered meaning [] state = unmoved state
all_offered meaning (offer ∷ more) state = and_then (begun_and_sent meaning offer.1 (Some offer.0) state) (all_offered meaning more)

-- where all rows are taken, all are sent; where one isn't, the gateway stops and nothing is sent
abbrev pub opened_with : {O : Type 0} → Meaning O → GatewayState O → Result (List (Offered O)) Stop → Result (Step O) Stop
opened_with meaning state (Ok all) = Ok (all_offered meaning all state)
opened_with meaning state (Err stop) = Err stop

-- the opening, before the first command: all stored rows are tested, and then all are sent
abbrev pub opening : {O : Type 0} → Meaning O → GatewayState O → Result (Step O) Stop
opening meaning state = opened_with meaning state (offers meaning state.rows.rows)
