-- After each command the last reading of each live query is the one over the flattened map.
use Rattle.std.proofs.Common.{◌≡◌, ℕ, ◌==◌, ◌&&◌, Bool, true, false, not, nat_le, if◌then◌else◌, List, [], ◌∷◌, ◌++◌, map, filter, find, length, is_some, Option, Some, None, Result, Ok, Err, refl, sym, ◌∙◌, subst, true≢false}
use Rattle.std.specs.List.{AllByRecursion}
use Rattle.std.specs.Option.{option_map_or}
use Rattle.gql_model.specs.declared.executable.OperationKind.{OperationKind}
use Rattle.gql_model.specs.declared.executable.OperationKind.TheVariants as kind
use Rattle.gql_value.specs.declared.value.Value.{Value}
use Rattle.gql_value.specs.declared.outcome.Fault.{Fault}
use Rattle.gql_value.specs.declared.outcome.Fault.TheVariants.{F1, F2, F3, F4, F5, F6, F7, F8}
use Rattle.gql_value.specs.declared.outcome.Outcome.{Outcome}
use Rattle.gql_value.specs.declared.outcome.Outcome.TheVariants as outcome
use Rattle.cache_model.specs.declared.write.Write.{Write}
use Rattle.cache_model.specs.Maps.{CellMap, no_cells, all_applied}
use Rattle.cache_model.specs.History.{History, no_content, flattened, flattened_over}
use Rattle.send_rules.specs.declared.policy.Policy.{Policy}
use Rattle.send_rules.specs.Policies.{plan_of}
use Rattle.queue_model.specs.declared.row.Row.{Row}
use Rattle.machine_model.specs.declared.command.Command.{Command, out-Command}
use Rattle.machine_model.specs.declared.command.Command.TheOpen.{Command-F, Dispatch-F}
use Rattle.machine_model.specs.declared.command.Dispatch.{Dispatch, out-Dispatch}
use Rattle.machine_model.specs.declared.output.Ending.TheVariants.{Outside, QueueFull}
use Rattle.machine_model.specs.declared.output.Refusal.{Refusal}
use Rattle.machine_model.specs.declared.output.Refusal.TheVariants as refusal
use Rattle.machine_model.specs.Operations.{Meaning, Identity}
use Rattle.machine_model.specs.State.{GatewayState, LiveOperation, LiveQuery, Listening, query, mutation, OpenFetch, PendingMutation, Job, is_named, is_live, is_for_key, is_sent}
use Rattle.machine_model.specs.Steps.{Step, Change, Sequel, stops, issues, reevaluates, Answer, unmoved, refused, followed_by}
use Rattle.machine_model.specs.Telling.{untold, told, reply, no_errors, listening_as}
use Rattle.machine_model.specs.Reevaluation.{reread, reading_now, is_changed, is_due_beside, answered_turn, other_turn, unanswered_turn, turn_of, reevaluated}
use Rattle.machine_model.specs.Readings.{is_miss}
use Rattle.machine_model.specs.Issue.{is_network_only, not_due, may_be_sent, query_sent, issued_for, issued_over, sent}
use Rattle.machine_model.specs.Sequels.{followed, concluded}
use Rattle.machine_model.specs.Queries.{Sender, live_as, with_live, awaiting, read_at_once, read_turn, query_read, query_added, key_of, with_identity}
use Rattle.machine_model.specs.Teardowns.{has_listener, closed, forgotten, nothing_forgotten, key_left, left_behind, torn_down, torn_where_live, teardown, all_torn_down, without_named}
use Rattle.machine_model.specs.Responses.{query_written, query_answered, mutation_failed, mutation_written, has_row_number, is_full, mutation_queued, mutation_put, mutation_unreached, mutation_ended, mutation_answered, pending_of, fetch_answered, answered_where_open, response}
use Rattle.machine_model.specs.Rows.{is_in_row, sent_again, rows_sent_again}
use Rattle.machine_model.specs.Commands.{most_live, refused_frame, taken, taken_or_refused, sender_of, dispatched, step_of, command_step}
use Rattle.machine_model.specs.Runs.{commands_taken}
use Rattle.machine_model.specs.Laws.{IsCurrent, AreCurrent}
use Rattle.machine_model.proofs.RunLaws.{kept_by_runs}

-- ---- lists

all_map : {X Y : Type 0} (P : X → Type 0) (Q : Y → Type 0) (g : X → Y) → ((x : X) → P x → Q (g x)) → (xs : List X) → AllByRecursion P xs → AllByRecursion Q (map g xs)
all_map P Q g k [] a = tt
all_map P Q g k (x ∷ xs) a = (k x a.0, all_map P Q g k xs a.1)

all_of_map : {X Y : Type 0} (Q : Y → Type 0) (g : X → Y) → ((x : X) → Q (g x)) → (xs : List X) → AllByRecursion Q (map g xs)
all_of_map Q g k [] = tt
all_of_map Q g k (x ∷ xs) = (k x, all_of_map Q g k xs)

all_append : {X : Type 0} (P : X → Type 0) (xs ys : List X) → AllByRecursion P xs → AllByRecursion P ys → AllByRecursion P (xs ++ ys)
all_append P [] ys a b = b
all_append P (x ∷ xs) ys a b = (a.0, all_append P xs ys a.1 b)

-- ---- re-evaluation

current_other : {O : Type 0} (m : Meaning O) (s : GatewayState O) (live : LiveOperation O) (l : LiveQuery O) (told_now : Bool)
    → let after = reread l (reading_now m s l) (is_due_beside l (reading_now m s l)) in
    IsCurrent m (flattened s.history) (if told_now then told m (listening_as live after) (reply s no_errors live after) else untold (listening_as live after)).live.listens
current_other m s live l true = λ n. refl
current_other m s live l false = λ n. refl

current_unanswered : {O : Type 0} (m : Meaning O) (s : GatewayState O) (live : LiveOperation O) (l : LiveQuery O) (awaits : Bool) → live.listens ≡ query l → l.awaits ≡ awaits
    → IsCurrent m (flattened s.history) (if awaits then untold live else other_turn m s live l (reading_now m s l)).live.listens
current_unanswered {O} m s live l true e a =
    let none : IsCurrent m (flattened s.history) (query l) = λ n. absurd (true≢false (sym a ∙ n)) in
    subst (λ (listens : Listening O). IsCurrent m (flattened s.history) listens) (sym e) none
current_unanswered m s live l false e a = current_other m s live l (is_changed l (reading_now m s l) && not (is_miss (reading_now m s l)))

current_answered : {O : Type 0} (m : Meaning O) (s : GatewayState O) (answer : Answer) (live : LiveOperation O) (l : LiveQuery O) (is_answered : Bool) → live.listens ≡ query l
    → IsCurrent m (flattened s.history) (if is_answered then answered_turn m s live l (reading_now m s l) answer else unanswered_turn m s live l).live.listens
current_answered m s answer live l true e = λ n. refl
current_answered m s answer live l false e = current_unanswered m s live l l.awaits e refl

current_turn : {O : Type 0} (m : Meaning O) (s : GatewayState O) (answer : Option Answer) (live : LiveOperation O) (listens : Listening O) → live.listens ≡ listens
    → IsCurrent m (flattened s.history) (turn_of m s answer live listens).live.listens
current_turn m s None live (query l) e = current_unanswered m s live l l.awaits e refl
current_turn m s (Some answer) live (query l) e = current_answered m s answer live l (answer.key == l.key) e
current_turn {O} m s answer live (mutation ticket) e = subst (λ (listens : Listening O). IsCurrent m (flattened s.history) listens) (sym e) tt

-- whatever was read before
current_reevaluated : {O : Type 0} (m : Meaning O) (answer : Option Answer) (s : GatewayState O) → AreCurrent m (reevaluated m answer s).state
current_reevaluated {O} m answer s =
    all_of_map (λ (live : LiveOperation O). IsCurrent m (flattened s.history) live.listens) (λ (live : LiveOperation O). (turn_of m s answer live live.listens).live)
    (λ live. current_turn m s answer live live.listens refl) s.live

-- ---- issue

-- a ticket that was just drawn changes no cell
flattened_reserved : (cells : CellMap) (h : History) → flattened_over cells (h ++ no_content ∷ []) ≡ flattened_over cells h
flattened_reserved cells [] = refl
flattened_reserved cells (c ∷ h) = flattened_reserved (all_applied cells c.writes) h

current_undue : {O : Type 0} (m : Meaning O) (cells : CellMap) (live : LiveOperation O) (l : LiveQuery O) (same : Bool) → live.listens ≡ query l → IsCurrent m cells (query l)
    → IsCurrent m cells (if same then listening_as live (record l { due = false }) else live).listens
current_undue m cells live l true e c = c
current_undue {O} m cells live l false e c = subst (λ (listens : Listening O). IsCurrent m cells listens) (sym e) c

current_not_due : {O : Type 0} (m : Meaning O) (cells : CellMap) (key : ℕ) (live : LiveOperation O) (listens : Listening O) → live.listens ≡ listens → IsCurrent m cells listens
    → IsCurrent m cells (not_due key live listens).listens
current_not_due m cells key live (query l) e c = current_undue m cells live l (l.key == key) e c
current_not_due {O} m cells key live (mutation ticket) e c = subst (λ (listens : Listening O). IsCurrent m cells listens) (sym e) tt

current_query_sent : {O : Type 0} (m : Meaning O) (l : LiveQuery O) (s : GatewayState O) → AreCurrent m s → AreCurrent m (query_sent m l s).state
current_query_sent {O} m l s c =
    let lives = map (λ (live : LiveOperation O). not_due l.key live live.listens) s.live in
    let before : AllByRecursion (λ (live : LiveOperation O). IsCurrent m (flattened s.history) live.listens) lives
    = all_map (λ (live : LiveOperation O). IsCurrent m (flattened s.history) live.listens) (λ (live : LiveOperation O). IsCurrent m (flattened s.history) live.listens)
    (λ (live : LiveOperation O). not_due l.key live live.listens)
    (λ live a. current_not_due m (flattened s.history) l.key live live.listens refl a) s.live c in
    subst (λ (cells : CellMap). AllByRecursion (λ (live : LiveOperation O). IsCurrent m cells live.listens) lives) (sym (flattened_reserved no_cells s.history)) before

current_step_if : {O : Type 0} (m : Meaning O) (b : Bool) (x y : Step O) → AreCurrent m x.state → AreCurrent m y.state → AreCurrent m (if b then x else y).state
current_step_if m true x y a b = a
current_step_if m false x y a b = b

current_issued_for : {O : Type 0} (m : Meaning O) (listens : Listening O) (s : GatewayState O) → AreCurrent m s → AreCurrent m (issued_for m listens s).state
current_issued_for m (query l) s c = current_step_if m (may_be_sent m s l) (query_sent m l s) (unmoved s) (current_query_sent m l s c) c
current_issued_for m (mutation ticket) s c = c

current_issued_over : {O : Type 0} (m : Meaning O) (lives : List (LiveOperation O)) (s : GatewayState O) → AreCurrent m s → AreCurrent m (issued_over m lives s).state
current_issued_over m [] s c = c
current_issued_over m (live ∷ lives) s c = current_issued_over m lives (issued_for m live.listens s).state (current_issued_for m live.listens s c)

-- ---- what follows

-- what a change has to leave: nothing, where a re-evaluation follows
abbrev Enough : {O : Type 0} → Meaning O → GatewayState O → Sequel → Type 0
Enough m s stops = AreCurrent m s
Enough m s issues = AreCurrent m s
Enough m s (reevaluates ticket answer) = Unit {0}

-- so a change leaves enough
abbrev Leaves : {O : Type 0} → Meaning O → Change O → Type 0
Leaves m change = Enough m change.state change.sequel

current_followed : {O : Type 0} (m : Meaning O) (sequel : Sequel) (s : GatewayState O) → Enough m s sequel → AreCurrent m (followed m sequel s).state
current_followed m stops s c = c
current_followed m issues s c = current_issued_over m s.live s c
current_followed m (reevaluates ticket answer) s c =
    let after = (reevaluated m answer s).state in
    current_issued_over m after.live after (current_reevaluated m answer s)

current_concluded : {O : Type 0} (m : Meaning O) (change : Change O) → Leaves m change → AreCurrent m (concluded m change).state
current_concluded m change a = current_followed m change.sequel change.state a

leaves_if : {O : Type 0} (m : Meaning O) (b : Bool) (x y : Change O) → Leaves m x → Leaves m y → Leaves m (if b then x else y)
leaves_if m true x y a b = a
leaves_if m false x y a b = b

-- ---- dispatches

current_read_turn : {O : Type 0} (m : Meaning O) (s : GatewayState O) (sender : Sender) (l : LiveQuery O) (tells_now : Bool) → IsCurrent m (flattened s.history) (query l)
    → IsCurrent m (flattened s.history) (if tells_now then told m (live_as sender (query l)) (reply s no_errors (live_as sender (query l)) l) else untold (live_as sender (query l))).live.listens
current_read_turn m s sender l true c = c
current_read_turn m s sender l false c = c

current_query_read : {O : Type 0} (m : Meaning O) (sender : Sender) (operation : O) (key : ℕ) (policy : Policy) (s : GatewayState O) → AreCurrent m s → AreCurrent m (query_read m sender operation key policy s).state
current_query_read {O} m sender operation key policy s c =
    let l = read_at_once operation key policy (m.read operation (flattened s.history)) in
    let turn = read_turn m s (live_as sender (query l)) l in
    all_append (λ (live : LiveOperation O). IsCurrent m (flattened s.history) live.listens) s.live (turn.live ∷ []) c
    (current_read_turn m s sender l (plan_of policy l.last.kind).tell (λ n. refl), tt)

current_query_added : {O : Type 0} (m : Meaning O) (sender : Sender) (operation : O) (key : ℕ) (policy : Policy) (s : GatewayState O) → AreCurrent m s → AreCurrent m (query_added m sender operation key policy s).state
current_query_added {O} m sender operation key policy s c =
    let live : LiveOperation O = live_as sender (query (awaiting operation key policy)) in
    current_step_if m (is_network_only policy) (unmoved (with_live live s)) (query_read m sender operation key policy s)
    (all_append (λ (other : LiveOperation O). IsCurrent m (flattened s.history) other.listens) s.live (live ∷ []) c ((λ n. absurd (true≢false n)), tt))
    (current_query_read m sender operation key policy s c)

leaves_taken : {O : Type 0} (m : Meaning O) (sender : Sender) (policy : Policy) (operation : O) (s : GatewayState O) (k : OperationKind) → AreCurrent m s → Leaves m (taken m sender policy operation s k)
leaves_taken m sender policy operation s kind.Query c =
    let identity = m.identity operation in
    current_query_added m sender operation (key_of s.identities identity) policy (record s { identities = with_identity s.identities identity }) c
leaves_taken m sender policy operation s kind.Mutation c = tt
leaves_taken m sender policy operation s kind.Subscription c = tt

leaves_judged : {O : Type 0} (m : Meaning O) (sender : Sender) (line : ℕ) (policy : Policy) (s : GatewayState O) (judged : Result O Refusal) → AreCurrent m s → Leaves m (taken_or_refused m sender line policy s judged)
leaves_judged m sender line policy s (Err r) c = c
leaves_judged m sender line policy s (Ok operation) c = leaves_taken m sender policy operation s (m.kind operation) c

leaves_dispatched : {O : Type 0} (m : Meaning O) (dispatch : Dispatch) (parts : Dispatch-F Command Dispatch) (s : GatewayState O) → AreCurrent m s → Leaves m (dispatched m dispatch parts s)
leaves_dispatched m dispatch parts s c =
    let late = taken_or_refused m (sender_of parts) parts.line parts.policy s (m.judged dispatch) in
    let many = refused_frame parts.peer parts.line refusal.E12 s in
    leaves_if m (is_live s parts.peer parts.id) (refused_frame parts.peer parts.line refusal.E4 s) (if nat_le most_live (length s.live) then many else late) c
    (leaves_if m (nat_le most_live (length s.live)) many late c (leaves_judged m (sender_of parts) parts.line parts.policy s (m.judged dispatch) c))

-- ---- teardowns

leaves_forgotten : {O : Type 0} (m : Meaning O) (s : GatewayState O) (fetch : Option (OpenFetch O)) → Leaves m (option_map_or (forgotten s) fetch (nothing_forgotten s))
leaves_forgotten m s (Some fetch) = tt
leaves_forgotten m s None = tt

leaves_left : {O : Type 0} (m : Meaning O) (listens : Listening O) (s : GatewayState O) → Leaves m (left_behind listens s)
leaves_left m (query l) s = leaves_if m (has_listener s l.key) (nothing_forgotten s) (key_left l.key s) tt (leaves_forgotten m s (find (is_for_key l.key) s.fetches))
leaves_left m (mutation ticket) s = tt

leaves_nothing : {O : Type 0} (m : Meaning O) (peer line : ℕ) (took_out : Bool) (s : GatewayState O) → AreCurrent m s → AreCurrent m (if took_out then unmoved s else refused peer line refusal.E5 s).state
leaves_nothing m peer line took_out s c = current_step_if m took_out (unmoved s) (refused peer line refusal.E5 s) c c

leaves_where_live : {O : Type 0} (m : Meaning O) (peer id line : ℕ) (took_out : Bool) (s : GatewayState O) (live : Option (LiveOperation O)) → AreCurrent m s → Leaves m (torn_where_live peer id line took_out s live)
leaves_where_live m peer id line took_out s (Some live) c = leaves_left m live.listens (without_named peer id s)
leaves_where_live m peer id line took_out s None c = leaves_nothing m peer line took_out s c

current_all_torn : {O : Type 0} (m : Meaning O) (lives : List (LiveOperation O)) (s : GatewayState O) → AreCurrent m s → AreCurrent m (all_torn_down m lives s).state
current_all_torn m [] s c = c
current_all_torn m (live ∷ lives) s c =
    let change = torn_down live.peer live.id live.listens s in
    current_all_torn m lives (concluded m change).state (current_concluded m change (leaves_left m live.listens (without_named live.peer live.id s)))

-- ---- responses

leaves_query_written : {O : Type 0} (m : Meaning O) (fetch : OpenFetch O) (key : ℕ) (errors : Value) (s : GatewayState O) (written : Result (List Write) (List ℕ)) → Leaves m (query_written m fetch key errors s written)
leaves_query_written m fetch key errors s (Ok writes) = tt
leaves_query_written m fetch key errors s (Err path) = tt

leaves_query_answered : {O : Type 0} (m : Meaning O) (fetch : OpenFetch O) (key : ℕ) (s : GatewayState O) (o : Outcome) → Leaves m (query_answered m fetch key s o)
leaves_query_answered m fetch key s (outcome.Body answer errors) = leaves_query_written m fetch key errors s (m.written fetch.operation answer errors)
leaves_query_answered m fetch key s (outcome.Bad fault) = tt

leaves_written : {O : Type 0} (m : Meaning O) (pending : PendingMutation O) (answer errors : Value) (s : GatewayState O) (written : Result (List Write) (List ℕ)) → Leaves m (mutation_written m pending answer errors s written)
leaves_written m pending answer errors s (Ok writes) = tt
leaves_written m pending answer errors s (Err path) = tt

leaves_put : {O : Type 0} (m : Meaning O) (pending : PendingMutation O) (identity : Identity) (s : GatewayState O) → Leaves m (mutation_put m pending identity s)
leaves_put m pending identity s =
    leaves_if m (has_row_number s.rows && is_full s.rows identity) (mutation_failed m pending QueueFull s) (mutation_queued pending identity s) tt tt

leaves_unreached : {O : Type 0} (m : Meaning O) (pending : PendingMutation O) (row : Option ℕ) (s : GatewayState O) → Leaves m (mutation_unreached m pending row s)
leaves_unreached m pending (Some row) s = tt
leaves_unreached m pending None s =
    leaves_if m (is_some (m.guess pending.operation)) (mutation_put m pending (m.identity pending.operation) s) (mutation_failed m pending (Outside F6) s)
    (leaves_put m pending (m.identity pending.operation) s) tt

leaves_ended : {O : Type 0} (m : Meaning O) (pending : PendingMutation O) (s : GatewayState O) (fault : Fault) → Leaves m (mutation_ended m pending s fault)
leaves_ended m pending s F6 = leaves_unreached m pending pending.row s
leaves_ended m pending s F1 = tt
leaves_ended m pending s F2 = tt
leaves_ended m pending s (F3 path) = tt
leaves_ended m pending s (F4 path) = tt
leaves_ended m pending s (F5 status) = tt
leaves_ended m pending s F7 = tt
leaves_ended m pending s F8 = tt

leaves_mutation_answered : {O : Type 0} (m : Meaning O) (pending : PendingMutation O) (s : GatewayState O) (o : Outcome) → Leaves m (mutation_answered m pending s o)
leaves_mutation_answered m pending s (outcome.Body answer errors) = leaves_written m pending answer errors s (m.written pending.operation answer errors)
leaves_mutation_answered m pending s (outcome.Bad fault) = leaves_ended m pending s fault

leaves_open : {O : Type 0} (m : Meaning O) (peer line : ℕ) (o : Outcome) (s : GatewayState O) (fetch : Option (OpenFetch O)) → AreCurrent m s → Leaves m (answered_where_open m peer line o s fetch)
leaves_open m peer line o s None c = c
leaves_open {O} m peer line o s (Some fetch) c = for_fetch fetch.key
  where
    later : GatewayState O
    later = closed fetch.number s

    for_pending : (pending : Option (PendingMutation O)) → Leaves m (option_map_or (λ found. mutation_answered m found (closed fetch.number s) o) pending (followed_by (unmoved (closed fetch.number s)) stops))
    for_pending (Some pending) = leaves_mutation_answered m pending (closed fetch.number s) o
    for_pending None = c

    for_fetch : (key : Option ℕ) → Leaves m (fetch_answered m fetch o (closed fetch.number s) key)
    for_fetch (Some key) = leaves_query_answered m fetch key (closed fetch.number s) o
    for_fetch None = for_pending (pending_of fetch.ticket (closed fetch.number s))

-- ---- rows

current_sent_again : {O : Type 0} (m : Meaning O) (s : GatewayState O) (pending : Option (PendingMutation O)) → AreCurrent m s → AreCurrent m (option_map_or (sent_again m s) pending (unmoved s)).state
current_sent_again m s (Some pending) c = current_step_if m (is_sent s pending.ticket) (unmoved s) (sent m pending.ticket None pending.operation s) c c
current_sent_again m s None c = c

current_rows : {O : Type 0} (m : Meaning O) (rows : List Row) (s : GatewayState O) → AreCurrent m s → AreCurrent m (rows_sent_again m rows s).state
current_rows m [] s c = c
current_rows m (row ∷ rows) s c =
    let step = option_map_or (sent_again m s) (find (is_in_row row.seq) s.mutations) (unmoved s) in
    current_rows m rows step.state (current_sent_again m s (find (is_in_row row.seq) s.mutations) c)

-- ---- commands

current_step : {O : Type 0} (m : Meaning O) (took_out : Bool) (s : GatewayState O) (c : Command-F Command Dispatch) → AreCurrent m s → AreCurrent m (step_of m took_out s c).state
current_step m took_out s (Command-F.Dispatch dispatch) c = current_concluded m (dispatched m dispatch (out-Dispatch dispatch) s) (leaves_dispatched m dispatch (out-Dispatch dispatch) s c)
current_step m took_out s (Command-F.Teardown peer id line) c =
    current_concluded m (teardown peer id line took_out s) (leaves_where_live m peer id line took_out s (find (is_named peer id) s.live) c)
current_step {O} m took_out s (Command-F.Respond peer fetch line o) c =
    current_concluded m (response m peer fetch line o s) (leaves_open m peer line o s (find (λ (other : OpenFetch O). other.number == fetch) s.fetches) c)
current_step m took_out s Command-F.Online c = current_rows m s.rows.rows s c
current_step m took_out s (Command-F.Layers peer) c = c
current_step m took_out s (Command-F.Flat peer) c = c
current_step {O} m took_out s (Command-F.Gone peer) c = current_all_torn m (filter (λ (live : LiveOperation O). live.peer == peer) s.live) s c

pub readings_stay_current : {O : Type 0} (m : Meaning O) (job : Job) (s : GatewayState O) → AreCurrent m s → AreCurrent m (command_step m job s).state
readings_stay_current m job s c = current_step m job.took_out s (out-Command job.command) c

pub readings_stay_current_in_runs : {O : Type 0} (n : ℕ) (m : Meaning O) (s : GatewayState O) → AreCurrent m s → AreCurrent m (commands_taken n m s).state
readings_stay_current_in_runs {O} n m s c =
    kept_by_runs (λ (state : GatewayState O). AreCurrent m state) m (λ job state jobs b. readings_stay_current m job (record state { jobs = jobs }) b) n s c
