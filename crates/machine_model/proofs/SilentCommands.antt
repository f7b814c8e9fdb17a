-- No command but its dispatch tells anything to an operation that isn't live.
use Rattle.std.proofs.Common.{◌≡◌, ℕ, zero, suc, ◌+◌, ◌==◌, ◌&&◌, Bool, true, false, not, nat_le, if◌then◌else◌, List, [], ◌∷◌, ◌++◌, filter, find, length, is_some, Option, Some, None, Result, Ok, Err, refl, sym}
use Rattle.std.specs.List.{list_any}
use Rattle.std.specs.Option.{option_map_or}
use Rattle.gql_model.specs.declared.executable.OperationKind.{OperationKind}
use Rattle.gql_model.specs.declared.executable.OperationKind.TheVariants as kind
use Rattle.gql_value.specs.declared.value.Value.{Value}
use Rattle.gql_value.specs.declared.outcome.Fault.{Fault}
use Rattle.gql_value.specs.declared.outcome.Fault.TheVariants.{F1, F2, F3, F4, F5, F6, F7, F8}
use Rattle.gql_value.specs.declared.outcome.Outcome.{Outcome}
use Rattle.gql_value.specs.declared.outcome.Outcome.TheVariants as outcome
use Rattle.cache_model.specs.declared.write.Write.{Write}
use Rattle.cache_model.specs.History.{flattened}
use Rattle.send_rules.specs.declared.policy.Policy.{Policy}
use Rattle.send_rules.specs.Policies.{plan_of}
use Rattle.queue_model.specs.declared.row.Row.{Row}
use Rattle.queue_model.specs.Queue.{queued}
use Rattle.machine_model.specs.declared.command.Command.{Command, out-Command}
use Rattle.machine_model.specs.declared.command.Command.TheOpen.{Command-F, Dispatch-F}
use Rattle.machine_model.specs.declared.command.Dispatch.{Dispatch, out-Dispatch}
use Rattle.machine_model.specs.declared.output.Out.TheVariants as out
use Rattle.machine_model.specs.declared.output.Ending.{Ending}
use Rattle.machine_model.specs.declared.output.Ending.TheVariants.{Outside, QueueFull}
use Rattle.machine_model.specs.declared.output.Refusal.{Refusal}
use Rattle.machine_model.specs.declared.output.Refusal.TheVariants as refusal
use Rattle.machine_model.specs.Operations.{Meaning, Identity}
use Rattle.machine_model.specs.State.{GatewayState, LiveOperation, LiveQuery, Listening, query, mutation, OpenFetch, PendingMutation, Job, is_named, is_live, is_for_key, is_sent, next_ticket}
use Rattle.machine_model.specs.FollowUps.{dispatches, is_waiting_for}
use Rattle.machine_model.specs.Steps.{Change, unmoved, refused, made, followed_by, stops, settled_with, emptied}
use Rattle.machine_model.specs.Telling.{Turn, untold, told, reply, no_errors, faulted, listening_as, listens_to, turn_of_listener, listener_turned, without_listener}
use Rattle.machine_model.specs.Reevaluation.{reread, reading_now}
use Rattle.machine_model.specs.Issue.{is_network_only, with_ticket, sent}
use Rattle.machine_model.specs.Sequels.{concluded}
use Rattle.machine_model.specs.Queries.{Sender, live_as, with_live, awaiting, read_at_once, read_turn, turned_newest, query_read, query_added, key_of, with_identity, query_dispatched}
use Rattle.machine_model.specs.Mutations.{guessed, begun_and_sent, mutation_dispatched}
use Rattle.machine_model.specs.Teardowns.{without_named, has_listener, closed, forgotten, nothing_forgotten, key_left, left_behind, torn_down, torn_where_live, teardown, all_torn_down, commands_dropped, gone}
use Rattle.machine_model.specs.Responses.{fault_turn, query_failed, query_written, query_answered, without_mutation, row_done, over, mutation_failed, answer_turn, mutation_written, has_row_number, is_full, with_row, queued_turn, mutation_queued, mutation_put, mutation_unreached, mutation_ended, mutation_answered, pending_of, fetch_answered, answered_where_open, response}
use Rattle.machine_model.specs.Rows.{is_in_row, sent_again, rows_sent_again}
use Rattle.machine_model.specs.Commands.{most_live, refused_frame, taken, taken_or_refused, sender_of, dispatched, step_of, command_step}
use Rattle.machine_model.specs.Runs.{first_taken, command_taken, commands_taken}
use Rattle.machine_model.specs.Laws.{IsSilent, first_of, taken_commands}
use Rattle.machine_model.proofs.Lists.{or_split, or_join, any_append, any_front, any_rest, any_filter, any_filter_not, find_any}
use Rattle.machine_model.proofs.Silence.{silent_unmoved, silent_if, silent_then, IsQuiet, quiet_untold, quiet_told, quiet_if, silent_turned, silent_concluded}

made_if : {O : Type 0} (p i : ℕ) (b : Bool) (x y : Change O) → IsSilent p i (made x) → IsSilent p i (made y) → IsSilent p i (made (if b then x else y))
made_if p i true x y a b = a
made_if p i false x y a b = b

-- ---- dispatches

silent_newest : {O : Type 0} (p i : ℕ) (turn : Turn O) (s : GatewayState O) → IsQuiet p i turn → is_live s p i ≡ false → IsSilent p i (turned_newest turn s)
silent_newest p i turn s q h = record {
  outs = q.outs;
  live = any_append (is_named p i) s.live (turn.live ∷ []) h (or_join (is_named p i turn.live) false q.live refl);
}

-- the operation isn't the one that is dispatched
abbrev IsAnother : ℕ → ℕ → Sender → Type 0
IsAnother p i sender = (sender.peer == p && sender.id == i) ≡ false

away_with : {O : Type 0} (p i : ℕ) (sender : Sender) (listens : Listening O) (s : GatewayState O) → IsAnother p i sender → is_live s p i ≡ false → is_live (with_live (live_as sender listens) s) p i ≡ false
away_with p i sender listens s n h = any_append (is_named p i) s.live (live_as sender listens ∷ []) h (or_join (sender.peer == p && sender.id == i) false n refl)

quiet_read : {O : Type 0} (p i : ℕ) (m : Meaning O) (s : GatewayState O) (live : LiveOperation O) (l : LiveQuery O) → is_named p i live ≡ false → IsQuiet p i (read_turn m s live l)
quiet_read p i m s live l h =
    quiet_if p i (plan_of l.policy l.last.kind).tell (told m live (reply s no_errors live l)) (untold live)
    (quiet_told p i m live (reply s no_errors live l) h h)
    (quiet_untold p i live h)

silent_query_read : {O : Type 0} (p i : ℕ) (m : Meaning O) (sender : Sender) (operation : O) (key : ℕ) (policy : Policy) (s : GatewayState O) → IsAnother p i sender → is_live s p i ≡ false → IsSilent p i (query_read m sender operation key policy s)
silent_query_read p i m sender operation key policy s n h =
    let l = read_at_once operation key policy (m.read operation (flattened s.history)) in
    silent_newest p i (read_turn m s (live_as sender (query l)) l) s (quiet_read p i m s (live_as sender (query l)) l n) h

silent_query_added : {O : Type 0} (p i : ℕ) (m : Meaning O) (sender : Sender) (operation : O) (key : ℕ) (policy : Policy) (s : GatewayState O) → IsAnother p i sender → is_live s p i ≡ false → IsSilent p i (query_added m sender operation key policy s)
silent_query_added p i m sender operation key policy s n h =
    let live = with_live (live_as sender (query (awaiting operation key policy))) s in
    silent_if p i (is_network_only policy) (unmoved live) (query_read m sender operation key policy s)
    (silent_unmoved p i live (away_with p i sender (query (awaiting operation key policy)) s n h))
    (silent_query_read p i m sender operation key policy s n h)

away_guessed : {O : Type 0} (p i ticket : ℕ) (guess : Option (List Write)) (s : GatewayState O) → is_live s p i ≡ false → is_live (guessed ticket guess s) p i ≡ false
away_guessed p i ticket None s h = h
away_guessed p i ticket (Some writes) s h = h

silent_begun : {O : Type 0} (p i : ℕ) (m : Meaning O) (operation : O) (row : Option ℕ) (s : GatewayState O) → is_live s p i ≡ false → IsSilent p i (begun_and_sent m operation row s)
silent_begun p i m operation row s h = record { outs = refl; live = away_guessed p i (next_ticket s) (m.guess operation) (with_ticket s) h }

silent_query_dispatched : {O : Type 0} (p i : ℕ) (m : Meaning O) (sender : Sender) (operation : O) (policy : Policy) (s : GatewayState O) → IsAnother p i sender → is_live s p i ≡ false → IsSilent p i (made (query_dispatched m sender operation policy s))
silent_query_dispatched p i m sender operation policy s n h =
    let identity = m.identity operation in
    silent_query_added p i m sender operation (key_of s.identities identity) policy (record s { identities = with_identity s.identities identity }) n h

silent_mutation_dispatched : {O : Type 0} (p i : ℕ) (m : Meaning O) (sender : Sender) (operation : O) (s : GatewayState O) → IsAnother p i sender → is_live s p i ≡ false → IsSilent p i (made (mutation_dispatched m sender operation s))
silent_mutation_dispatched p i m sender operation s n h =
    silent_begun p i m operation None (with_live (live_as sender (mutation (next_ticket s))) s) (away_with p i sender (mutation (next_ticket s)) s n h)

silent_taken : {O : Type 0} (p i : ℕ) (m : Meaning O) (sender : Sender) (policy : Policy) (operation : O) (s : GatewayState O) (k : OperationKind) → IsAnother p i sender → is_live s p i ≡ false → IsSilent p i (made (taken m sender policy operation s k))
silent_taken p i m sender policy operation s kind.Query n h = silent_query_dispatched p i m sender operation policy s n h
silent_taken p i m sender policy operation s kind.Mutation n h = silent_mutation_dispatched p i m sender operation s n h
silent_taken p i m sender policy operation s kind.Subscription n h = silent_mutation_dispatched p i m sender operation s n h

silent_refused : {O : Type 0} (p i peer line : ℕ) (r : Refusal) (s : GatewayState O) → is_live s p i ≡ false → IsSilent p i (refused peer line r s)
silent_refused p i peer line r s h = record { outs = refl; live = h }

silent_judged : {O : Type 0} (p i : ℕ) (m : Meaning O) (sender : Sender) (line : ℕ) (policy : Policy) (s : GatewayState O) (judged : Result O Refusal) → IsAnother p i sender → is_live s p i ≡ false → IsSilent p i (made (taken_or_refused m sender line policy s judged))
silent_judged p i m sender line policy s (Err r) n h = silent_refused p i sender.peer line r s h
silent_judged p i m sender line policy s (Ok operation) n h = silent_taken p i m sender policy operation s (m.kind operation) n h

silent_dispatched : {O : Type 0} (p i : ℕ) (m : Meaning O) (dispatch : Dispatch) (parts : Dispatch-F Command Dispatch) (s : GatewayState O) → IsAnother p i (sender_of parts) → is_live s p i ≡ false → IsSilent p i (made (dispatched m dispatch parts s))
silent_dispatched p i m dispatch parts s n h =
    let late = taken_or_refused m (sender_of parts) parts.line parts.policy s (m.judged dispatch) in
    let many = refused_frame parts.peer parts.line refusal.E12 s in
    made_if p i (is_live s parts.peer parts.id) (refused_frame parts.peer parts.line refusal.E4 s) (if nat_le most_live (length s.live) then many else late)
    (silent_refused p i parts.peer parts.line refusal.E4 s h)
    (made_if p i (nat_le most_live (length s.live)) many late
    (silent_refused p i parts.peer parts.line refusal.E12 s h)
    (silent_judged p i m (sender_of parts) parts.line parts.policy s (m.judged dispatch) n h))

-- ---- teardowns

silent_forgotten : {O : Type 0} (p i : ℕ) (s : GatewayState O) (fetch : Option (OpenFetch O)) → is_live s p i ≡ false → IsSilent p i (made (option_map_or (forgotten s) fetch (nothing_forgotten s)))
silent_forgotten p i s (Some fetch) h = record { outs = refl; live = h }
silent_forgotten p i s None h = record { outs = refl; live = h }

silent_left : {O : Type 0} (p i : ℕ) (listens : Listening O) (s : GatewayState O) → is_live s p i ≡ false → IsSilent p i (made (left_behind listens s))
silent_left p i (query l) s h =
    made_if p i (has_listener s l.key) (nothing_forgotten s) (key_left l.key s)
    (silent_unmoved p i s h)
    (silent_forgotten p i s (find (is_for_key l.key) s.fetches) h)
silent_left p i (mutation ticket) s h = silent_unmoved p i s h

-- a teardown silences its own operation
silent_torn : {O : Type 0} (p i : ℕ) (listens : Listening O) (s : GatewayState O) → IsSilent p i (made (torn_down p i listens s))
silent_torn p i listens s = silent_left p i listens (without_named p i s) (any_filter_not (is_named p i) s.live)

-- and no other
silent_torn_beside : {O : Type 0} (p i peer id : ℕ) (listens : Listening O) (s : GatewayState O) → is_live s p i ≡ false → IsSilent p i (made (torn_down peer id listens s))
silent_torn_beside {O} p i peer id listens s h =
    silent_left p i listens (without_named peer id s) (any_filter (is_named p i) (λ (live : LiveOperation O). not (is_named peer id live)) s.live h)

silent_nothing : {O : Type 0} (p i peer line : ℕ) (took_out : Bool) (s : GatewayState O) → is_live s p i ≡ false → IsSilent p i (if took_out then unmoved s else refused peer line refusal.E5 s)
silent_nothing p i peer line took_out s h =
    silent_if p i took_out (unmoved s) (refused peer line refusal.E5 s) (silent_unmoved p i s h) (silent_refused p i peer line refusal.E5 s h)

silent_where_live : {O : Type 0} (p i line : ℕ) (took_out : Bool) (s : GatewayState O) (live : Option (LiveOperation O)) → is_some live ≡ is_live s p i → IsSilent p i (made (torn_where_live p i line took_out s live))
silent_where_live p i line took_out s (Some live) e = silent_torn p i live.listens s
silent_where_live p i line took_out s None e = silent_nothing p i p line took_out s (sym e)

pub silent_at_teardown : {O : Type 0} (m : Meaning O) (s : GatewayState O) (p i line : ℕ) (took_out : Bool) → IsSilent p i (concluded m (teardown p i line took_out s))
silent_at_teardown m s p i line took_out =
    silent_concluded p i m (teardown p i line took_out s) (silent_where_live p i line took_out s (find (is_named p i) s.live) (find_any (is_named p i) s.live))

silent_where_live_beside : {O : Type 0} (p i peer id line : ℕ) (took_out : Bool) (s : GatewayState O) (live : Option (LiveOperation O)) → is_live s p i ≡ false → IsSilent p i (made (torn_where_live peer id line took_out s live))
silent_where_live_beside p i peer id line took_out s (Some live) h = silent_torn_beside p i peer id live.listens s h
silent_where_live_beside p i peer id line took_out s None h = silent_nothing p i peer line took_out s h

silent_all_torn : {O : Type 0} (p i : ℕ) (m : Meaning O) (lives : List (LiveOperation O)) (s : GatewayState O) → is_live s p i ≡ false → IsSilent p i (all_torn_down m lives s)
silent_all_torn p i m [] s h = silent_unmoved p i s h
silent_all_torn p i m (live ∷ lives) s h =
    let change = torn_down live.peer live.id live.listens s in
    let first = silent_concluded p i m change (silent_torn_beside p i live.peer live.id live.listens s h) in
    silent_then p i (concluded m change) (all_torn_down m lives) first (silent_all_torn p i m lives (concluded m change).state first.live)

silent_gone : {O : Type 0} (p i : ℕ) (m : Meaning O) (peer : ℕ) (s : GatewayState O) → is_live s p i ≡ false → IsSilent p i (gone m peer s)
silent_gone {O} p i m peer s h =
    let lives = filter (λ (live : LiveOperation O). live.peer == peer) s.live in
    let first = silent_all_torn p i m lives s h in
    silent_then p i (all_torn_down m lives s) (commands_dropped peer) first (record { outs = refl; live = first.live })

-- ---- responses

quiet_fault : {O : Type 0} (p i : ℕ) (m : Meaning O) (s : GatewayState O) (key : ℕ) (fault : Fault) (live : LiveOperation O) (listens : Listening O) → is_named p i live ≡ false → IsQuiet p i (fault_turn m s key fault live listens)
quiet_fault p i m s key fault live (query l) h =
    let after = listening_as live (reread l (reading_now m s l) false) in
    quiet_if p i (l.key == key) (faulted m (Outside fault) after) (untold live)
    (quiet_told p i m after (out.Fault live.peer live.id (Outside fault)) h h)
    (quiet_untold p i live h)
quiet_fault p i m s key fault live (mutation ticket) h = quiet_untold p i live h

silent_query_failed : {O : Type 0} (p i : ℕ) (m : Meaning O) (fetch : OpenFetch O) (key : ℕ) (fault : Fault) (s : GatewayState O) → is_live s p i ≡ false → IsSilent p i (made (query_failed m fetch key fault s))
silent_query_failed {O} p i m fetch key fault s h =
    let after = emptied fetch.ticket s in
    silent_turned p i (λ (live : LiveOperation O). fault_turn m after key fault live live.listens) after (λ live n. quiet_fault p i m after key fault live live.listens n) h

silent_query_written : {O : Type 0} (p i : ℕ) (m : Meaning O) (fetch : OpenFetch O) (key : ℕ) (errors : Value) (s : GatewayState O) (written : Result (List Write) (List ℕ)) → is_live s p i ≡ false → IsSilent p i (made (query_written m fetch key errors s written))
silent_query_written p i m fetch key errors s (Ok writes) h = record { outs = refl; live = h }
silent_query_written p i m fetch key errors s (Err path) h = silent_query_failed p i m fetch key (F4 path) s h

silent_query_answered : {O : Type 0} (p i : ℕ) (m : Meaning O) (fetch : OpenFetch O) (key : ℕ) (s : GatewayState O) (o : Outcome) → is_live s p i ≡ false → IsSilent p i (made (query_answered m fetch key s o))
silent_query_answered p i m fetch key s (outcome.Body answer errors) h = silent_query_written p i m fetch key errors s (m.written fetch.operation answer errors) h
silent_query_answered p i m fetch key s (outcome.Bad fault) h = silent_query_failed p i m fetch key fault s h

quiet_listener : {O : Type 0} (p i ticket : ℕ) (turn : LiveOperation O → Turn O) (live : LiveOperation O) (listens : Listening O) → IsQuiet p i (turn live) → is_named p i live ≡ false → IsQuiet p i (turn_of_listener ticket turn live listens)
quiet_listener p i ticket turn live (query l) q h = quiet_untold p i live h
quiet_listener p i ticket turn live (mutation other) q h = quiet_if p i (other == ticket) (turn live) (untold live) q (quiet_untold p i live h)

silent_listener : {O : Type 0} (p i ticket : ℕ) (turn : LiveOperation O → Turn O) (s : GatewayState O) → ((live : LiveOperation O) → is_named p i live ≡ false → IsQuiet p i (turn live)) → is_live s p i ≡ false → IsSilent p i (listener_turned ticket turn s)
silent_listener {O} p i ticket turn s q h =
    silent_turned p i (λ (live : LiveOperation O). turn_of_listener ticket turn live live.listens) s
    (λ live n. quiet_listener p i ticket turn live live.listens (q live n) n) h

away_done : {O : Type 0} (p i : ℕ) (row : Option ℕ) (s : GatewayState O) → is_live s p i ≡ false → is_live (row_done row s) p i ≡ false
away_done p i None s h = h
away_done p i (Some row) s h = h

silent_over : {O : Type 0} (p i : ℕ) (pending : PendingMutation O) (turn : LiveOperation O → Turn O) (s : GatewayState O) → ((live : LiveOperation O) → is_named p i live ≡ false → IsQuiet p i (turn live)) → is_live s p i ≡ false → IsSilent p i (made (over pending turn s))
silent_over {O} p i pending turn s q h =
    let before = row_done pending.row (without_mutation pending.ticket s) in
    let first = silent_listener p i pending.ticket turn before q (away_done p i pending.row (without_mutation pending.ticket s) h) in
    let after = (listener_turned pending.ticket turn before).state in
    silent_then p i (listener_turned pending.ticket turn before) (λ (later : GatewayState O). unmoved (without_listener pending.ticket later)) first
    (silent_unmoved p i (without_listener pending.ticket after)
    (any_filter (is_named p i) (λ (live : LiveOperation O). not (listens_to pending.ticket live.listens)) after.live first.live))

silent_failed : {O : Type 0} (p i : ℕ) (m : Meaning O) (pending : PendingMutation O) (ending : Ending) (s : GatewayState O) → is_live s p i ≡ false → IsSilent p i (made (mutation_failed m pending ending s))
silent_failed p i m pending ending s h =
    silent_over p i pending (faulted m ending) (emptied pending.ticket s) (λ live n. quiet_told p i m live (out.Fault live.peer live.id ending) n n) h

silent_written : {O : Type 0} (p i : ℕ) (m : Meaning O) (pending : PendingMutation O) (answer errors : Value) (s : GatewayState O) (written : Result (List Write) (List ℕ)) → is_live s p i ≡ false → IsSilent p i (made (mutation_written m pending answer errors s written))
silent_written p i m pending answer errors s (Ok writes) h =
    silent_over p i pending (answer_turn m pending.operation answer errors) (settled_with pending.ticket (writes ++ m.updates pending.operation answer) s)
    (λ live n. quiet_told p i m live (out.Reply live.peer live.id (m.projected pending.operation answer) errors false false) n n) h
silent_written p i m pending answer errors s (Err path) h = silent_failed p i m pending (Outside (F4 path)) s h

quiet_queued : {O : Type 0} (p i row : ℕ) (live : LiveOperation O) → is_named p i live ≡ false → IsQuiet p i (queued_turn row live)
quiet_queued p i row live h = record { outs = or_join (is_named p i live) false h refl; live = h }

silent_queued : {O : Type 0} (p i : ℕ) (pending : PendingMutation O) (identity : Identity) (s : GatewayState O) → is_live s p i ≡ false → IsSilent p i (made (mutation_queued pending identity s))
silent_queued p i pending identity s h =
    let row = s.rows.greatest + 1 in
    silent_listener p i pending.ticket (queued_turn row)
    (with_row pending.ticket row (record s { rows = queued s.rows identity.document identity.operation identity.variables }))
    (λ live n. quiet_queued p i row live n) h

silent_put : {O : Type 0} (p i : ℕ) (m : Meaning O) (pending : PendingMutation O) (identity : Identity) (s : GatewayState O) → is_live s p i ≡ false → IsSilent p i (made (mutation_put m pending identity s))
silent_put p i m pending identity s h =
    made_if p i (has_row_number s.rows && is_full s.rows identity) (mutation_failed m pending QueueFull s) (mutation_queued pending identity s)
    (silent_failed p i m pending QueueFull s h)
    (silent_queued p i pending identity s h)

silent_unreached : {O : Type 0} (p i : ℕ) (m : Meaning O) (pending : PendingMutation O) (row : Option ℕ) (s : GatewayState O) → is_live s p i ≡ false → IsSilent p i (made (mutation_unreached m pending row s))
silent_unreached p i m pending (Some row) s h = silent_unmoved p i s h
silent_unreached p i m pending None s h =
    made_if p i (is_some (m.guess pending.operation)) (mutation_put m pending (m.identity pending.operation) s) (mutation_failed m pending (Outside F6) s)
    (silent_put p i m pending (m.identity pending.operation) s h)
    (silent_failed p i m pending (Outside F6) s h)

silent_ended : {O : Type 0} (p i : ℕ) (m : Meaning O) (pending : PendingMutation O) (s : GatewayState O) (fault : Fault) → is_live s p i ≡ false → IsSilent p i (made (mutation_ended m pending s fault))
silent_ended p i m pending s F6 h = silent_unreached p i m pending pending.row s h
silent_ended p i m pending s F1 h = silent_failed p i m pending (Outside F1) s h
silent_ended p i m pending s F2 h = silent_failed p i m pending (Outside F2) s h
silent_ended p i m pending s (F3 path) h = silent_failed p i m pending (Outside (F3 path)) s h
silent_ended p i m pending s (F4 path) h = silent_failed p i m pending (Outside (F4 path)) s h
silent_ended p i m pending s (F5 status) h = silent_failed p i m pending (Outside (F5 status)) s h
silent_ended p i m pending s F7 h = silent_failed p i m pending (Outside F7) s h
silent_ended p i m pending s F8 h = silent_failed p i m pending (Outside F8) s h

silent_mutation_answered : {O : Type 0} (p i : ℕ) (m : Meaning O) (pending : PendingMutation O) (s : GatewayState O) (o : Outcome) → is_live s p i ≡ false → IsSilent p i (made (mutation_answered m pending s o))
silent_mutation_answered p i m pending s (outcome.Body answer errors) h = silent_written p i m pending answer errors s (m.written pending.operation answer errors) h
silent_mutation_answered p i m pending s (outcome.Bad fault) h = silent_ended p i m pending s fault h

silent_pending : {O : Type 0} (p i : ℕ) (m : Meaning O) (o : Outcome) (s : GatewayState O) (pending : Option (PendingMutation O)) → is_live s p i ≡ false → IsSilent p i (made (option_map_or (λ found. mutation_answered m found s o) pending (followed_by (unmoved s) stops)))
silent_pending p i m o s (Some pending) h = silent_mutation_answered p i m pending s o h
silent_pending p i m o s None h = silent_unmoved p i s h

silent_fetch : {O : Type 0} (p i : ℕ) (m : Meaning O) (fetch : OpenFetch O) (o : Outcome) (s : GatewayState O) (key : Option ℕ) → is_live s p i ≡ false → IsSilent p i (made (fetch_answered m fetch o s key))
silent_fetch p i m fetch o s (Some key) h = silent_query_answered p i m fetch key s o h
silent_fetch p i m fetch o s None h = silent_pending p i m o s (pending_of fetch.ticket s) h

silent_open : {O : Type 0} (p i : ℕ) (m : Meaning O) (peer line : ℕ) (o : Outcome) (s : GatewayState O) (fetch : Option (OpenFetch O)) → is_live s p i ≡ false → IsSilent p i (made (answered_where_open m peer line o s fetch))
silent_open p i m peer line o s None h = silent_refused p i peer line refusal.E10 s h
silent_open p i m peer line o s (Some fetch) h = silent_fetch p i m fetch o (closed fetch.number s) fetch.key h

-- ---- rows

silent_sent_again : {O : Type 0} (p i : ℕ) (m : Meaning O) (s : GatewayState O) (pending : Option (PendingMutation O)) → is_live s p i ≡ false → IsSilent p i (option_map_or (sent_again m s) pending (unmoved s))
silent_sent_again p i m s (Some pending) h =
    silent_if p i (is_sent s pending.ticket) (unmoved s) (sent m pending.ticket None pending.operation s) (silent_unmoved p i s h) (record { outs = refl; live = h })
silent_sent_again p i m s None h = silent_unmoved p i s h

silent_rows : {O : Type 0} (p i : ℕ) (m : Meaning O) (rows : List Row) (s : GatewayState O) → is_live s p i ≡ false → IsSilent p i (rows_sent_again m rows s)
silent_rows p i m [] s h = silent_unmoved p i s h
silent_rows p i m (row ∷ rows) s h =
    let step = option_map_or (sent_again m s) (find (is_in_row row.seq) s.mutations) (unmoved s) in
    let first = silent_sent_again p i m s (find (is_in_row row.seq) s.mutations) h in
    silent_then p i step (rows_sent_again m rows) first (silent_rows p i m rows step.state first.live)

-- ---- commands

silent_step : {O : Type 0} (p i : ℕ) (m : Meaning O) (took_out : Bool) (s : GatewayState O) (c : Command-F Command Dispatch) → is_live s p i ≡ false → dispatches p i c ≡ false → IsSilent p i (step_of m took_out s c)
silent_step p i m took_out s (Command-F.Dispatch dispatch) h n =
    silent_concluded p i m (dispatched m dispatch (out-Dispatch dispatch) s) (silent_dispatched p i m dispatch (out-Dispatch dispatch) s n h)
silent_step p i m took_out s (Command-F.Teardown peer id line) h n =
    silent_concluded p i m (teardown peer id line took_out s) (silent_where_live_beside p i peer id line took_out s (find (is_named peer id) s.live) h)
silent_step {O} p i m took_out s (Command-F.Respond peer fetch line o) h n =
    silent_concluded p i m (response m peer fetch line o s)
    (silent_open p i m peer line o s (find (λ (open_fetch : OpenFetch O). open_fetch.number == fetch) s.fetches) h)
silent_step p i m took_out s Command-F.Online h n = silent_rows p i m s.rows.rows s h
silent_step p i m took_out s (Command-F.Layers peer) h n = record { outs = refl; live = h }
silent_step p i m took_out s (Command-F.Flat peer) h n = record { outs = refl; live = h }
silent_step p i m took_out s (Command-F.Gone peer) h n = silent_gone p i m peer s h

pub silent_until_dispatched : {O : Type 0} (m : Meaning O) (job : Job) (s : GatewayState O) (p i : ℕ) → is_live s p i ≡ false → is_waiting_for p i job ≡ false → IsSilent p i (command_step m job s)
silent_until_dispatched m job s p i h n = silent_step p i m job.took_out s (out-Command job.command) h n

silent_first : {O : Type 0} (p i : ℕ) (m : Meaning O) (s : GatewayState O) (jobs : List Job) → is_live s p i ≡ false → list_any (is_waiting_for p i) (first_of jobs) ≡ false → IsSilent p i (first_taken m s jobs)
silent_first p i m s [] h n = silent_unmoved p i s h
silent_first p i m s (job ∷ jobs) h n =
    silent_until_dispatched m job (record s { jobs = jobs }) p i h (or_split (is_waiting_for p i job) false n).0

pub silent_runs : {O : Type 0} (n : ℕ) (m : Meaning O) (s : GatewayState O) (p i : ℕ) → is_live s p i ≡ false → list_any (is_waiting_for p i) (taken_commands n m s) ≡ false → IsSilent p i (commands_taken n m s)
silent_runs zero m s p i h w = silent_unmoved p i s h
silent_runs (suc n) m s p i h w =
    let later = taken_commands n m (command_taken m s).state in
    let first = silent_first p i m s s.jobs h (any_front (is_waiting_for p i) (first_of s.jobs) later w) in
    silent_then p i (command_taken m s) (commands_taken n m) first
    (silent_runs n m (command_taken m s).state p i first.live (any_rest (is_waiting_for p i) (first_of s.jobs) later w))
