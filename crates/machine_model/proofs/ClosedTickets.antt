-- What a ticket holds for which nothing is open stays for good.
use Rattle.std.proofs.Common.{◌≡◌, ◌≢◌, ℕ, zero, suc, ◌+◌, ◌-◌, ◌<◌, ◌==◌, ◌&&◌, Bool, true, false, not, nat_le, if◌then◌else◌, List, [], ◌∷◌, ◌++◌, filter, find, length, get_or, set, is_some, Option, Some, None, Result, Ok, Err, refl, sym, ◌∙◌, arith, length-append, length-set, get_or-set_other, true-eqb, false-eqb}
use Rattle.std.specs.Option.{option_map_or}
use Rattle.gql_model.specs.declared.executable.OperationKind.{OperationKind}
use Rattle.gql_model.specs.declared.executable.OperationKind.TheVariants as kind
use Rattle.gql_value.specs.declared.value.Value.{Value}
use Rattle.gql_value.specs.declared.outcome.Fault.{Fault}
use Rattle.gql_value.specs.declared.outcome.Fault.TheVariants.{F1, F2, F3, F4, F5, F6, F7, F8}
use Rattle.gql_value.specs.declared.outcome.Outcome.{Outcome}
use Rattle.gql_value.specs.declared.outcome.Outcome.TheVariants as outcome
use Rattle.cache_model.specs.declared.write.Write.{Write}
use Rattle.cache_model.specs.declared.kind.Kind.{Kind}
use Rattle.cache_model.specs.declared.kind.Kind.TheVariants.{Empty, Optimistic, Final}
use Rattle.cache_model.specs.History.{History, Content, no_content, with_mark, content_of, filled, finished}
use Rattle.send_rules.specs.declared.policy.Policy.{Policy}
use Rattle.queue_model.specs.declared.row.Row.{Row}
use Rattle.machine_model.specs.declared.command.Command.{Command, out-Command}
use Rattle.machine_model.specs.declared.command.Command.TheOpen.{Command-F, Dispatch-F}
use Rattle.machine_model.specs.declared.command.Dispatch.{Dispatch, out-Dispatch}
use Rattle.machine_model.specs.declared.output.Ending.{Ending}
use Rattle.machine_model.specs.declared.output.Ending.TheVariants.{Outside, QueueFull}
use Rattle.machine_model.specs.declared.output.Refusal.{Refusal}
use Rattle.machine_model.specs.declared.output.Refusal.TheVariants as refusal
use Rattle.machine_model.specs.Operations.{Meaning, Identity}
use Rattle.machine_model.specs.State.{GatewayState, LiveOperation, LiveQuery, Listening, query, mutation, OpenFetch, PendingMutation, Job, is_named, is_live, is_for_key, is_sent, next_ticket}
use Rattle.machine_model.specs.Steps.{Step, Change, Sequel, stops, issues, reevaluates, unmoved, refused, followed_by}
use Rattle.machine_model.specs.Telling.{Turn}
use Rattle.machine_model.specs.Reevaluation.{reevaluated}
use Rattle.machine_model.specs.Issue.{is_network_only, with_ticket, may_be_sent, query_sent, issued_for, issued_over, sent}
use Rattle.machine_model.specs.Sequels.{followed, concluded}
use Rattle.machine_model.specs.Queries.{Sender, live_as, with_live, awaiting, query_read, query_added, key_of, with_identity}
use Rattle.machine_model.specs.Mutations.{guessed, with_mutation}
use Rattle.machine_model.specs.Teardowns.{has_listener, closed, forgotten, nothing_forgotten, key_left, left_behind, torn_down, torn_where_live, teardown, all_torn_down, without_named}
use Rattle.machine_model.specs.Responses.{query_written, query_answered, without_mutation, row_done, over, mutation_failed, mutation_written, has_row_number, is_full, in_row, mutation_queued, mutation_put, mutation_unreached, mutation_ended, mutation_answered, pending_of, fetch_answered, answered_where_open, response}
use Rattle.machine_model.specs.Rows.{is_in_row, sent_again, rows_sent_again}
use Rattle.machine_model.specs.Commands.{most_live, refused_frame, taken, taken_or_refused, sender_of, dispatched, step_of, command_step}
use Rattle.machine_model.specs.Runs.{commands_taken}
use Rattle.machine_model.specs.Laws.{is_fetch_at, is_mutation_at, IsClosedIn, IsClosed}
use Rattle.machine_model.proofs.RunLaws.{kept_by_runs}
use Rattle.machine_model.proofs.Lists.{or_join, any_append, any_filter, any_map, find_not}

-- ---- histories

differs : (a c : ℕ) → a ≢ c → (a == c) ≡ false
differs a c n = by_test (a == c) refl
  where
    by_test : (b : Bool) → (a == c) ≡ b → b ≡ false
    by_test true e = absurd (n (true-eqb a c (sym e)))
    by_test false e = refl

front_of : (h : History) (c : Content) (place : ℕ) → place < length h → get_or (h ++ c ∷ []) place no_content ≡ get_or h place no_content
front_of [] c place l =
    let bad : ⊥ = omega arith in
    absurd bad
front_of (x ∷ h) c zero l = refl
front_of (x ∷ h) c (suc place) l =
    let below : place < length h = omega arith in
    front_of h c place below

-- the ticket that is drawn next isn't at the place
new_elsewhere : (place n : ℕ) → place < n → (suc n - 1 == place) ≡ false
new_elsewhere place n l =
    let apart : suc n - 1 ≢ place = λ e. omega arith in
    differs (suc n - 1) place apart

-- a ticket that isn't at the place
elsewhere : (place ticket : ℕ) → (ticket - 1 == place) ≡ false → place ≢ ticket - 1
elsewhere place ticket n e = false-eqb (ticket - 1) place (sym n) (sym e)

drawn_more : {O : Type 0} (place : ℕ) (c : Content) (h : History) (f : List (OpenFetch O)) (m : List (PendingMutation O)) → IsClosedIn place c h f m → IsClosedIn place c (h ++ no_content ∷ []) f m
drawn_more place c h f m a =
    let l : place < length h = a.drawn in
    record {
      drawn = rw (length-append h (no_content ∷ [])) (omega arith);
      is = front_of h no_content place l ∙ a.is;
      unsent = a.unsent;
      answered = a.answered;
    }

set_elsewhere : {O : Type 0} (place : ℕ) (c : Content) (h : History) (f : List (OpenFetch O)) (m : List (PendingMutation O)) (i : ℕ) (x : Content) → place ≢ i → IsClosedIn place c h f m → IsClosedIn place c (set h i x) f m
set_elsewhere place c h f m i x n a = record {
  drawn = rw (length-set h i x) a.drawn;
  is = get_or-set_other h i place x no_content n ∙ a.is;
  unsent = a.unsent;
  answered = a.answered;
}

-- another ticket gets its last content
ended_elsewhere : {O : Type 0} (place : ℕ) (c : Content) (h : History) (f : List (OpenFetch O)) (m : List (PendingMutation O)) (ticket : ℕ) (writes : List Write) (k : Kind) → (ticket - 1 == place) ≡ false → IsClosedIn place c h f m → IsClosedIn place c (finished (filled h ticket writes k) ticket) f m
ended_elsewhere place c h f m ticket writes k n a =
    let first = set_elsewhere place c h f m (ticket - 1) (record { kind = k; finished = false; writes = writes }) (elsewhere place ticket n) a in
    set_elsewhere place c (filled h ticket writes k) f m (ticket - 1) (with_mark (content_of (filled h ticket writes k) ticket)) (elsewhere place ticket n) first

fetch_opened : {O : Type 0} (place : ℕ) (c : Content) (h : History) (f : List (OpenFetch O)) (m : List (PendingMutation O)) (fetch : OpenFetch O) → is_fetch_at place fetch ≡ false → IsClosedIn place c h f m → IsClosedIn place c h (f ++ fetch ∷ []) m
fetch_opened place c h f m fetch n a = record {
  drawn = a.drawn;
  is = a.is;
  unsent = any_append (is_fetch_at place) f (fetch ∷ []) a.unsent (or_join (is_fetch_at place fetch) false n refl);
  answered = a.answered;
}

mutation_opened : {O : Type 0} (place : ℕ) (c : Content) (h : History) (f : List (OpenFetch O)) (m : List (PendingMutation O)) (pending : PendingMutation O) → is_mutation_at place pending ≡ false → IsClosedIn place c h f m → IsClosedIn place c h f (m ++ pending ∷ [])
mutation_opened place c h f m pending n a = record {
  drawn = a.drawn;
  is = a.is;
  unsent = a.unsent;
  answered = any_append (is_mutation_at place) m (pending ∷ []) a.answered (or_join (is_mutation_at place pending) false n refl);
}

fetches_left : {O : Type 0} (place : ℕ) (c : Content) (h : History) (f : List (OpenFetch O)) (m : List (PendingMutation O)) (test : OpenFetch O → Bool) → IsClosedIn place c h f m → IsClosedIn place c h (filter test f) m
fetches_left place c h f m test a = record { drawn = a.drawn; is = a.is; unsent = any_filter (is_fetch_at place) test f a.unsent; answered = a.answered }

mutations_left : {O : Type 0} (place : ℕ) (c : Content) (h : History) (f : List (OpenFetch O)) (m : List (PendingMutation O)) (test : PendingMutation O → Bool) → IsClosedIn place c h f m → IsClosedIn place c h f (filter test m)
mutations_left place c h f m test a = record { drawn = a.drawn; is = a.is; unsent = a.unsent; answered = any_filter (is_mutation_at place) test m a.answered }

-- ---- issue

closed_query_sent : {O : Type 0} (place : ℕ) (c : Content) (m : Meaning O) (l : LiveQuery O) (s : GatewayState O) → IsClosed place c s → IsClosed place c (query_sent m l s).state
closed_query_sent place c m l s a =
    fetch_opened place c (s.history ++ no_content ∷ []) s.fetches s.mutations
    (record { number = s.next_fetch; ticket = next_ticket s; key = Some l.key; operation = l.operation })
    (new_elsewhere place (length s.history) a.drawn)
    (drawn_more place c s.history s.fetches s.mutations a)

closed_if : {O : Type 0} (place : ℕ) (c : Content) (b : Bool) (x y : Step O) → IsClosed place c x.state → IsClosed place c y.state → IsClosed place c (if b then x else y).state
closed_if place c true x y a b = a
closed_if place c false x y a b = b

closed_issued_for : {O : Type 0} (place : ℕ) (c : Content) (m : Meaning O) (listens : Listening O) (s : GatewayState O) → IsClosed place c s → IsClosed place c (issued_for m listens s).state
closed_issued_for place c m (query l) s a = closed_if place c (may_be_sent m s l) (query_sent m l s) (unmoved s) (closed_query_sent place c m l s a) a
closed_issued_for place c m (mutation ticket) s a = a

closed_issued_over : {O : Type 0} (place : ℕ) (c : Content) (m : Meaning O) (lives : List (LiveOperation O)) (s : GatewayState O) → IsClosed place c s → IsClosed place c (issued_over m lives s).state
closed_issued_over place c m [] s a = a
closed_issued_over place c m (live ∷ lives) s a = closed_issued_over place c m lives (issued_for m live.listens s).state (closed_issued_for place c m live.listens s a)

-- ---- what follows

closed_followed : {O : Type 0} (place : ℕ) (c : Content) (m : Meaning O) (sequel : Sequel) (s : GatewayState O) → IsClosed place c s → IsClosed place c (followed m sequel s).state
closed_followed place c m stops s a = a
closed_followed place c m issues s a = closed_issued_over place c m s.live s a
closed_followed place c m (reevaluates ticket answer) s a =
    let after = (reevaluated m answer s).state in
    closed_issued_over place c m after.live after a

pub closed_concluded : {O : Type 0} (place : ℕ) (c : Content) (m : Meaning O) (change : Change O) → IsClosed place c change.state → IsClosed place c (concluded m change).state
closed_concluded place c m change a = closed_followed place c m change.sequel change.state a

change_if : {O : Type 0} (place : ℕ) (c : Content) (b : Bool) (x y : Change O) → IsClosed place c x.state → IsClosed place c y.state → IsClosed place c (if b then x else y).state
change_if place c true x y a b = a
change_if place c false x y a b = b

-- ---- dispatches

closed_query_added : {O : Type 0} (place : ℕ) (c : Content) (m : Meaning O) (sender : Sender) (operation : O) (key : ℕ) (policy : Policy) (s : GatewayState O) → IsClosed place c s → IsClosed place c (query_added m sender operation key policy s).state
closed_query_added place c m sender operation key policy s a =
    closed_if place c (is_network_only policy) (unmoved (with_live (live_as sender (query (awaiting operation key policy))) s)) (query_read m sender operation key policy s) a a

closed_begun : {O : Type 0} (place : ℕ) (c : Content) (m : Meaning O) (operation : O) (row : Option ℕ) (s : GatewayState O) (guess : Option (List Write)) → IsClosed place c s
    → IsClosed place c (sent m (next_ticket s) None operation (with_mutation (record { ticket = next_ticket s; row = row; operation = operation }) (guessed (next_ticket s) guess (with_ticket s)))).state
closed_begun {O} place c m operation row s guess a =
    opened (guessed (next_ticket s) guess (with_ticket s)) (with_guess guess)
  where
    new : (suc (length s.history) - 1 == place) ≡ false
    new = new_elsewhere place (length s.history) a.drawn

    with_guess : (g : Option (List Write)) → IsClosed place c (guessed (next_ticket s) g (with_ticket s))
    with_guess None = drawn_more place c s.history s.fetches s.mutations a
    with_guess (Some writes) =
        set_elsewhere place c (s.history ++ no_content ∷ []) s.fetches s.mutations (next_ticket s - 1) (record { kind = Optimistic; finished = false; writes = writes })
        (elsewhere place (next_ticket s) (new_elsewhere place (length s.history) a.drawn))
        (drawn_more place c s.history s.fetches s.mutations a)

    opened : (t : GatewayState O) → IsClosed place c t → IsClosed place c (sent m (next_ticket s) None operation (with_mutation (record { ticket = next_ticket s; row = row; operation = operation }) t)).state
    opened t b =
        fetch_opened place c t.history t.fetches (t.mutations ++ record { ticket = next_ticket s; row = row; operation = operation } ∷ [])
        (record { number = t.next_fetch; ticket = next_ticket s; key = None; operation = operation })
        (new_elsewhere place (length s.history) a.drawn)
        (mutation_opened place c t.history t.fetches t.mutations (record { ticket = next_ticket s; row = row; operation = operation })
        (new_elsewhere place (length s.history) a.drawn) b)

closed_taken : {O : Type 0} (place : ℕ) (c : Content) (m : Meaning O) (sender : Sender) (policy : Policy) (operation : O) (s : GatewayState O) (k : OperationKind) → IsClosed place c s → IsClosed place c (taken m sender policy operation s k).state
closed_taken place c m sender policy operation s kind.Query a =
    let identity = m.identity operation in
    closed_query_added place c m sender operation (key_of s.identities identity) policy (record s { identities = with_identity s.identities identity }) a
closed_taken place c m sender policy operation s kind.Mutation a =
    closed_begun place c m operation None (with_live (live_as sender (mutation (next_ticket s))) s) (m.guess operation) a
closed_taken place c m sender policy operation s kind.Subscription a =
    closed_begun place c m operation None (with_live (live_as sender (mutation (next_ticket s))) s) (m.guess operation) a

closed_judged : {O : Type 0} (place : ℕ) (c : Content) (m : Meaning O) (sender : Sender) (line : ℕ) (policy : Policy) (s : GatewayState O) (judged : Result O Refusal) → IsClosed place c s → IsClosed place c (taken_or_refused m sender line policy s judged).state
closed_judged place c m sender line policy s (Err r) a = a
closed_judged place c m sender line policy s (Ok operation) a = closed_taken place c m sender policy operation s (m.kind operation) a

closed_dispatched : {O : Type 0} (place : ℕ) (c : Content) (m : Meaning O) (dispatch : Dispatch) (parts : Dispatch-F Command Dispatch) (s : GatewayState O) → IsClosed place c s → IsClosed place c (dispatched m dispatch parts s).state
closed_dispatched place c m dispatch parts s a =
    let late = taken_or_refused m (sender_of parts) parts.line parts.policy s (m.judged dispatch) in
    let many = refused_frame parts.peer parts.line refusal.E12 s in
    change_if place c (is_live s parts.peer parts.id) (refused_frame parts.peer parts.line refusal.E4 s) (if nat_le most_live (length s.live) then many else late) a
    (change_if place c (nat_le most_live (length s.live)) many late a (closed_judged place c m (sender_of parts) parts.line parts.policy s (m.judged dispatch) a))

-- ---- teardowns

closed_forgotten : {O : Type 0} (place : ℕ) (c : Content) (s : GatewayState O) (fetch : Option (OpenFetch O)) → option_map_or (is_fetch_at place) fetch false ≡ false → IsClosed place c s → IsClosed place c (option_map_or (forgotten s) fetch (nothing_forgotten s)).state
closed_forgotten {O} place c s (Some fetch) n a =
    ended_elsewhere place c s.history (filter (λ (other : OpenFetch O). not (other.number == fetch.number)) s.fetches) s.mutations fetch.ticket [] Empty n
    (fetches_left place c s.history s.fetches s.mutations (λ (other : OpenFetch O). not (other.number == fetch.number)) a)
closed_forgotten place c s None n a = a

closed_left : {O : Type 0} (place : ℕ) (c : Content) (listens : Listening O) (s : GatewayState O) → IsClosed place c s → IsClosed place c (left_behind listens s).state
closed_left place c (query l) s a =
    change_if place c (has_listener s l.key) (nothing_forgotten s) (key_left l.key s) a
    (closed_forgotten place c s (find (is_for_key l.key) s.fetches) (find_not (is_fetch_at place) (is_for_key l.key) s.fetches a.unsent) a)
closed_left place c (mutation ticket) s a = a

closed_where_live : {O : Type 0} (place : ℕ) (c : Content) (peer id line : ℕ) (took_out : Bool) (s : GatewayState O) (live : Option (LiveOperation O)) → IsClosed place c s → IsClosed place c (torn_where_live peer id line took_out s live).state
closed_where_live place c peer id line took_out s (Some live) a = closed_left place c live.listens (without_named peer id s) a
closed_where_live place c peer id line took_out s None a = closed_if place c took_out (unmoved s) (refused peer line refusal.E5 s) a a

closed_all_torn : {O : Type 0} (place : ℕ) (c : Content) (m : Meaning O) (lives : List (LiveOperation O)) (s : GatewayState O) → IsClosed place c s → IsClosed place c (all_torn_down m lives s).state
closed_all_torn place c m [] s a = a
closed_all_torn place c m (live ∷ lives) s a =
    let change = torn_down live.peer live.id live.listens s in
    closed_all_torn place c m lives (concluded m change).state
    (closed_concluded place c m change (closed_left place c live.listens (without_named live.peer live.id s) a))

-- ---- responses

closed_query_written : {O : Type 0} (place : ℕ) (c : Content) (m : Meaning O) (fetch : OpenFetch O) (key : ℕ) (errors : Value) (s : GatewayState O) (written : Result (List Write) (List ℕ)) → is_fetch_at place fetch ≡ false → IsClosed place c s → IsClosed place c (query_written m fetch key errors s written).state
closed_query_written place c m fetch key errors s (Ok writes) n a = ended_elsewhere place c s.history s.fetches s.mutations fetch.ticket writes Final n a
closed_query_written place c m fetch key errors s (Err path) n a = ended_elsewhere place c s.history s.fetches s.mutations fetch.ticket [] Empty n a

closed_query_answered : {O : Type 0} (place : ℕ) (c : Content) (m : Meaning O) (fetch : OpenFetch O) (key : ℕ) (s : GatewayState O) (o : Outcome) → is_fetch_at place fetch ≡ false → IsClosed place c s → IsClosed place c (query_answered m fetch key s o).state
closed_query_answered place c m fetch key s (outcome.Body answer errors) n a = closed_query_written place c m fetch key errors s (m.written fetch.operation answer errors) n a
closed_query_answered place c m fetch key s (outcome.Bad fault) n a = ended_elsewhere place c s.history s.fetches s.mutations fetch.ticket [] Empty n a

closed_done : {O : Type 0} (place : ℕ) (c : Content) (row : Option ℕ) (s : GatewayState O) → IsClosed place c s → IsClosed place c (row_done row s)
closed_done place c None s a = a
closed_done place c (Some row) s a = a

closed_over : {O : Type 0} (place : ℕ) (c : Content) (pending : PendingMutation O) (turn : LiveOperation O → Turn O) (s : GatewayState O) → IsClosed place c s → IsClosed place c (over pending turn s).state
closed_over {O} place c pending turn s a =
    closed_done place c pending.row (without_mutation pending.ticket s)
    (mutations_left place c s.history s.fetches s.mutations (λ (other : PendingMutation O). not (other.ticket == pending.ticket)) a)

closed_failed : {O : Type 0} (place : ℕ) (c : Content) (m : Meaning O) (pending : PendingMutation O) (ending : Ending) (s : GatewayState O) → is_mutation_at place pending ≡ false → IsClosed place c s → IsClosed place c (mutation_failed m pending ending s).state
closed_failed {O} place c m pending ending s n a =
    let test = λ (other : PendingMutation O). not (other.ticket == pending.ticket) in
    let before = ended_elsewhere place c s.history s.fetches s.mutations pending.ticket [] Empty n a in
    closed_done place c pending.row (without_mutation pending.ticket (record s { history = finished (filled s.history pending.ticket [] Empty) pending.ticket }))
    (mutations_left place c (finished (filled s.history pending.ticket [] Empty) pending.ticket) s.fetches s.mutations test before)

closed_written : {O : Type 0} (place : ℕ) (c : Content) (m : Meaning O) (pending : PendingMutation O) (answer errors : Value) (s : GatewayState O) (written : Result (List Write) (List ℕ)) → is_mutation_at place pending ≡ false → IsClosed place c s → IsClosed place c (mutation_written m pending answer errors s written).state
closed_written {O} place c m pending answer errors s (Ok writes) n a =
    let all = writes ++ m.updates pending.operation answer in
    let after = finished (filled s.history pending.ticket all Final) pending.ticket in
    let test = λ (other : PendingMutation O). not (other.ticket == pending.ticket) in
    closed_done place c pending.row (without_mutation pending.ticket (record s { history = after }))
    (mutations_left place c after s.fetches s.mutations test (ended_elsewhere place c s.history s.fetches s.mutations pending.ticket all Final n a))
closed_written place c m pending answer errors s (Err path) n a = closed_failed place c m pending (Outside (F4 path)) s n a

in_row_if : {O : Type 0} (place row : ℕ) (b : Bool) (pending : PendingMutation O) → is_mutation_at place pending ≡ false → is_mutation_at place (if b then record pending { row = Some row } else pending) ≡ false
in_row_if place row true pending n = n
in_row_if place row false pending n = n

closed_queued : {O : Type 0} (place : ℕ) (c : Content) (pending : PendingMutation O) (identity : Identity) (s : GatewayState O) → IsClosed place c s → IsClosed place c (mutation_queued pending identity s).state
closed_queued place c pending identity s a =
    record {
      drawn = a.drawn;
      is = a.is;
      unsent = a.unsent;
      answered = any_map (is_mutation_at place) (in_row pending.ticket (s.rows.greatest + 1)) (is_mutation_at place)
          (λ other n. in_row_if place (s.rows.greatest + 1) (other.ticket == pending.ticket) other n) s.mutations a.answered;
    }

closed_put : {O : Type 0} (place : ℕ) (c : Content) (m : Meaning O) (pending : PendingMutation O) (identity : Identity) (s : GatewayState O) → is_mutation_at place pending ≡ false → IsClosed place c s → IsClosed place c (mutation_put m pending identity s).state
closed_put place c m pending identity s n a =
    change_if place c (has_row_number s.rows && is_full s.rows identity) (mutation_failed m pending QueueFull s) (mutation_queued pending identity s)
    (closed_failed place c m pending QueueFull s n a) (closed_queued place c pending identity s a)

closed_unreached : {O : Type 0} (place : ℕ) (c : Content) (m : Meaning O) (pending : PendingMutation O) (row : Option ℕ) (s : GatewayState O) → is_mutation_at place pending ≡ false → IsClosed place c s → IsClosed place c (mutation_unreached m pending row s).state
closed_unreached place c m pending (Some row) s n a = a
closed_unreached place c m pending None s n a =
    change_if place c (is_some (m.guess pending.operation)) (mutation_put m pending (m.identity pending.operation) s) (mutation_failed m pending (Outside F6) s)
    (closed_put place c m pending (m.identity pending.operation) s n a) (closed_failed place c m pending (Outside F6) s n a)

closed_ended : {O : Type 0} (place : ℕ) (c : Content) (m : Meaning O) (pending : PendingMutation O) (s : GatewayState O) (fault : Fault) → is_mutation_at place pending ≡ false → IsClosed place c s → IsClosed place c (mutation_ended m pending s fault).state
closed_ended place c m pending s F6 n a = closed_unreached place c m pending pending.row s n a
closed_ended place c m pending s F1 n a = closed_failed place c m pending (Outside F1) s n a
closed_ended place c m pending s F2 n a = closed_failed place c m pending (Outside F2) s n a
closed_ended place c m pending s (F3 path) n a = closed_failed place c m pending (Outside (F3 path)) s n a
closed_ended place c m pending s (F4 path) n a = closed_failed place c m pending (Outside (F4 path)) s n a
closed_ended place c m pending s (F5 status) n a = closed_failed place c m pending (Outside (F5 status)) s n a
closed_ended place c m pending s F7 n a = closed_failed place c m pending (Outside F7) s n a
closed_ended place c m pending s F8 n a = closed_failed place c m pending (Outside F8) s n a

closed_mutation_answered : {O : Type 0} (place : ℕ) (c : Content) (m : Meaning O) (pending : PendingMutation O) (s : GatewayState O) (o : Outcome) → is_mutation_at place pending ≡ false → IsClosed place c s → IsClosed place c (mutation_answered m pending s o).state
closed_mutation_answered place c m pending s (outcome.Body answer errors) n a = closed_written place c m pending answer errors s (m.written pending.operation answer errors) n a
closed_mutation_answered place c m pending s (outcome.Bad fault) n a = closed_ended place c m pending s fault n a

closed_pending : {O : Type 0} (place : ℕ) (c : Content) (m : Meaning O) (o : Outcome) (s : GatewayState O) (pending : Option (PendingMutation O)) → option_map_or (is_mutation_at place) pending false ≡ false → IsClosed place c s → IsClosed place c (option_map_or (λ found. mutation_answered m found s o) pending (followed_by (unmoved s) stops)).state
closed_pending place c m o s (Some pending) n a = closed_mutation_answered place c m pending s o n a
closed_pending place c m o s None n a = a

closed_fetch : {O : Type 0} (place : ℕ) (c : Content) (m : Meaning O) (fetch : OpenFetch O) (o : Outcome) (s : GatewayState O) (key : Option ℕ) → is_fetch_at place fetch ≡ false → IsClosed place c s → IsClosed place c (fetch_answered m fetch o s key).state
closed_fetch place c m fetch o s (Some key) n a = closed_query_answered place c m fetch key s o n a
closed_fetch {O} place c m fetch o s None n a =
    closed_pending place c m o s (pending_of fetch.ticket s) (find_not (is_mutation_at place) (λ (other : PendingMutation O). other.ticket == fetch.ticket) s.mutations a.answered) a

closed_open : {O : Type 0} (place : ℕ) (c : Content) (m : Meaning O) (peer line : ℕ) (o : Outcome) (s : GatewayState O) (fetch : Option (OpenFetch O)) → option_map_or (is_fetch_at place) fetch false ≡ false → IsClosed place c s → IsClosed place c (answered_where_open m peer line o s fetch).state
closed_open place c m peer line o s None n a = a
closed_open {O} place c m peer line o s (Some fetch) n a =
    closed_fetch place c m fetch o (closed fetch.number s) fetch.key n
    (fetches_left place c s.history s.fetches s.mutations (λ (other : OpenFetch O). not (other.number == fetch.number)) a)

-- ---- rows

closed_sent_again : {O : Type 0} (place : ℕ) (c : Content) (m : Meaning O) (s : GatewayState O) (pending : Option (PendingMutation O)) → option_map_or (is_mutation_at place) pending false ≡ false → IsClosed place c s → IsClosed place c (option_map_or (sent_again m s) pending (unmoved s)).state
closed_sent_again place c m s (Some pending) n a =
    closed_if place c (is_sent s pending.ticket) (unmoved s) (sent m pending.ticket None pending.operation s) a
    (fetch_opened place c s.history s.fetches s.mutations (record { number = s.next_fetch; ticket = pending.ticket; key = None; operation = pending.operation }) n a)
closed_sent_again place c m s None n a = a

closed_rows : {O : Type 0} (place : ℕ) (c : Content) (m : Meaning O) (rows : List Row) (s : GatewayState O) → IsClosed place c s → IsClosed place c (rows_sent_again m rows s).state
closed_rows place c m [] s a = a
closed_rows place c m (row ∷ rows) s a =
    let step = option_map_or (sent_again m s) (find (is_in_row row.seq) s.mutations) (unmoved s) in
    closed_rows place c m rows step.state
    (closed_sent_again place c m s (find (is_in_row row.seq) s.mutations) (find_not (is_mutation_at place) (is_in_row row.seq) s.mutations a.answered) a)

-- ---- commands

closed_step : {O : Type 0} (place : ℕ) (c : Content) (m : Meaning O) (took_out : Bool) (s : GatewayState O) (command : Command-F Command Dispatch) → IsClosed place c s → IsClosed place c (step_of m took_out s command).state
closed_step place c m took_out s (Command-F.Dispatch dispatch) a =
    closed_concluded place c m (dispatched m dispatch (out-Dispatch dispatch) s) (closed_dispatched place c m dispatch (out-Dispatch dispatch) s a)
closed_step place c m took_out s (Command-F.Teardown peer id line) a =
    closed_concluded place c m (teardown peer id line took_out s) (closed_where_live place c peer id line took_out s (find (is_named peer id) s.live) a)
closed_step {O} place c m took_out s (Command-F.Respond peer fetch line o) a =
    closed_concluded place c m (response m peer fetch line o s)
    (closed_open place c m peer line o s (find (λ (other : OpenFetch O). other.number == fetch) s.fetches)
    (find_not (is_fetch_at place) (λ (other : OpenFetch O). other.number == fetch) s.fetches a.unsent) a)
closed_step place c m took_out s Command-F.Online a = closed_rows place c m s.rows.rows s a
closed_step place c m took_out s (Command-F.Layers peer) a = a
closed_step place c m took_out s (Command-F.Flat peer) a = a
closed_step {O} place c m took_out s (Command-F.Gone peer) a = closed_all_torn place c m (filter (λ (live : LiveOperation O). live.peer == peer) s.live) s a

pub closed_tickets_stay : {O : Type 0} (m : Meaning O) (job : Job) (s : GatewayState O) (place : ℕ) (c : Content) → IsClosed place c s → IsClosed place c (command_step m job s).state
closed_tickets_stay m job s place c a = closed_step place c m job.took_out s (out-Command job.command) a

pub closed_tickets_stay_in_runs : {O : Type 0} (n : ℕ) (m : Meaning O) (s : GatewayState O) (place : ℕ) (c : Content) → IsClosed place c s → IsClosed place c (commands_taken n m s).state
closed_tickets_stay_in_runs {O} n m s place c a =
    kept_by_runs (λ (state : GatewayState O). IsClosed place c state) m (λ job state jobs b. closed_tickets_stay m job (record state { jobs = jobs }) place c b) n s a
