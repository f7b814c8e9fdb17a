-- Each command that is taken lowers the weight of what waits and of what is still to follow, and so every run ends.
use Rattle.std.proofs.Common.{◌≡◌, ℕ, zero, suc, ◌+◌, ◌<◌, ◌≤◌, ◌==◌, ◌&&◌, Bool, true, false, cond, not, nat_le, if◌then◌else◌, List, [], ◌∷◌, ◌++◌, map, filter, find, flat_map, length, is_some, Option, Some, None, Result, Ok, Err, refl, sym, ap, subst, arith}
use Rattle.std.specs.Option.{option_map_or}
use Rattle.std.specs.List.{list_any}
use Rattle.gql_model.specs.declared.executable.OperationKind.{OperationKind}
use Rattle.gql_model.specs.declared.executable.OperationKind.TheVariants as kind
use Rattle.gql_value.specs.declared.value.Value.{Value}
use Rattle.gql_value.specs.declared.outcome.Fault.{Fault}
use Rattle.gql_value.specs.declared.outcome.Fault.TheVariants.{F1, F2, F3, F4, F5, F6, F7, F8}
use Rattle.gql_value.specs.declared.outcome.Outcome.{Outcome}
use Rattle.gql_value.specs.declared.outcome.Outcome.TheVariants as outcome
use Rattle.cache_model.specs.declared.write.Write.{Write}
use Rattle.send_rules.specs.declared.policy.Policy.{Policy}
use Rattle.send_rules.specs.Policies.{plan_of}
use Rattle.queue_model.specs.declared.row.Row.{Row}
use Rattle.queue_model.specs.Queue.{queued}
use Rattle.machine_model.specs.declared.command.Command.{Command, out-Command}
use Rattle.machine_model.specs.declared.command.Command.TheOpen.{Command-F, Dispatch-F}
use Rattle.machine_model.specs.declared.command.Dispatch.{Dispatch, out-Dispatch}
use Rattle.machine_model.specs.declared.output.Out.{Out}
use Rattle.machine_model.specs.declared.output.Ending.{Ending}
use Rattle.machine_model.specs.declared.output.Ending.TheVariants.{Outside, QueueFull}
use Rattle.machine_model.specs.declared.output.Refusal.{Refusal}
use Rattle.machine_model.specs.declared.output.Refusal.TheVariants as refusal
use Rattle.machine_model.specs.Operations.{Meaning, Identity}
use Rattle.machine_model.specs.State.{GatewayState, LiveOperation, LiveQuery, Listening, query, mutation, OpenFetch, PendingMutation, Job, is_named, is_live, is_for_key, is_sent, next_ticket}
use Rattle.machine_model.specs.FollowUps.{plain_job, joined_as, joined, all_joined, is_waiting_for, is_of_peer}
use Rattle.machine_model.specs.Steps.{Step, Change, Sequel, Answer, stops, issues, reevaluates, unmoved, refused, followed_by, emptied, settled_with}
use Rattle.machine_model.specs.Telling.{Turn, untold, told, all_turned, no_errors, reply, listening_as, faulted, listens_to, turn_of_listener, listener_turned, without_listener}
use Rattle.machine_model.specs.Reevaluation.{reading_now, is_changed, reread, is_due_after_answer, is_due_beside, answered_turn, other_turn, unanswered_turn, query_turn, turn_of, reevaluated}
use Rattle.machine_model.specs.Readings.{is_miss}
use Rattle.machine_model.specs.Issue.{is_network_only, with_ticket, not_due, may_be_sent, query_sent, issued_for, issued_over, sent}
use Rattle.machine_model.specs.Sequels.{followed, concluded}
use Rattle.machine_model.specs.Queries.{Sender, live_as, with_live, awaiting, read_at_once, read_turn, turned_newest, query_read, key_of, with_identity}
use Rattle.machine_model.specs.Mutations.{guessed, with_mutation}
use Rattle.machine_model.specs.Teardowns.{has_listener, closed, forgotten, nothing_forgotten, key_left, left_behind, torn_down, torn_where_live, teardown, all_torn_down, commands_dropped, without_named, gone}
use Rattle.machine_model.specs.Responses.{fault_turn, query_failed, query_written, query_answered, without_mutation, row_done, over, mutation_failed, answer_turn, mutation_written, has_row_number, is_full, queued_turn, with_row, mutation_queued, mutation_put, mutation_unreached, mutation_ended, mutation_answered, pending_of, fetch_answered, answered_where_open, response}
use Rattle.machine_model.specs.Rows.{is_in_row, sent_again, rows_sent_again}
use Rattle.machine_model.specs.Commands.{most_live, refused_frame, taken, taken_or_refused, sender_of, dispatched, step_of, command_step}
use Rattle.machine_model.specs.Runs.{first_taken, commands_taken, with_command, IsRun}
use Rattle.machine_laws.specs.Endings.{weigh_all, WeighsMore, IsWeight, AsksNoMore}

module _ {O : Type 0} (w : Command → ℕ) (m : Meaning O) (asks : AsksNoMore w m) where
  -- ---- weights

  waiting : List Job → ℕ
  waiting [] = 0
  waiting (job ∷ jobs) = w job.command + waiting jobs

  held : Option (List Command) → ℕ
  held None = 0
  held (Some commands) = weigh_all w commands

  lives : List (LiveOperation O) → ℕ
  lives [] = 0
  lives (live ∷ more) = held live.follow_ups + lives more

  load : GatewayState O → ℕ
  load s = waiting s.jobs + lives s.live

  all_append : (a b : List Command) → weigh_all w (a ++ b) ≡ weigh_all w a + weigh_all w b
  all_append [] b = omega arith
  all_append (c ∷ a) b = omega (arith, all_append a b)

  waiting_push : (jobs : List Job) (job : Job) → waiting (jobs ++ job ∷ []) ≡ waiting jobs + w job.command
  unfolding waiting
  waiting_push [] job = omega arith
  waiting_push (first ∷ jobs) job = omega (arith, waiting_push jobs job)

  lives_push : (ls : List (LiveOperation O)) (l : LiveOperation O) → lives (ls ++ l ∷ []) ≡ lives ls + held l.follow_ups
  unfolding lives
  lives_push [] l = omega arith
  lives_push (first ∷ ls) l = omega (arith, lives_push ls l)

  waiting_cond : (b : Bool) (job : Job) (jobs : List Job) → waiting (cond b (job ∷ jobs) jobs) ≤ w job.command + waiting jobs
  unfolding waiting
  waiting_cond true job jobs = omega arith
  waiting_cond false job jobs = omega arith

  waiting_filter : (test : Job → Bool) (jobs : List Job) → waiting (filter test jobs) ≤ waiting jobs
  unfolding waiting
  waiting_filter test [] = omega arith
  waiting_filter test (job ∷ jobs) = omega (arith, waiting_cond (test job) job (filter test jobs), waiting_filter test jobs)

  lives_cond : (b : Bool) (l : LiveOperation O) (ls : List (LiveOperation O)) → lives (cond b (l ∷ ls) ls) ≤ held l.follow_ups + lives ls
  unfolding lives
  lives_cond true l ls = omega arith
  lives_cond false l ls = omega arith

  lives_filter : (test : LiveOperation O → Bool) (ls : List (LiveOperation O)) → lives (filter test ls) ≤ lives ls
  unfolding lives
  lives_filter test [] = omega arith
  lives_filter test (l ∷ ls) = omega (arith, lives_cond (test l) l (filter test ls), lives_filter test ls)

  lives_map : (g : LiveOperation O → LiveOperation O) → ((l : LiveOperation O) → (g l).follow_ups ≡ l.follow_ups) → (ls : List (LiveOperation O)) → lives (map g ls) ≡ lives ls
  unfolding lives
  lives_map g k [] = refl
  lives_map g k (l ∷ ls) =
      let one = ap held (k l) in
      omega (arith, one, lives_map g k ls)

  joins_as : (jobs : List Job) (c : Command) (open_c : Command-F Command Dispatch) → waiting (joined_as jobs c open_c) ≤ waiting jobs + w c
  joins_as jobs c (Command-F.Teardown peer id line) =
      let kept = filter (λ job. not (is_waiting_for peer id job)) jobs in
      omega (arith, waiting_push kept (record { command = c; took_out = list_any (is_waiting_for peer id) jobs }), waiting_filter (λ job. not (is_waiting_for peer id job)) jobs)
  joins_as jobs c (Command-F.Dispatch dispatch) = omega (arith, waiting_push jobs (plain_job c))
  joins_as jobs c (Command-F.Respond peer fetch line o) = omega (arith, waiting_push jobs (plain_job c))
  joins_as jobs c Command-F.Online = omega (arith, waiting_push jobs (plain_job c))
  joins_as jobs c (Command-F.Layers peer) = omega (arith, waiting_push jobs (plain_job c))
  joins_as jobs c (Command-F.Flat peer) = omega (arith, waiting_push jobs (plain_job c))
  joins_as jobs c (Command-F.Gone peer) = omega (arith, waiting_push jobs (plain_job c))

  all_join : (jobs : List Job) (cs : List Command) → waiting (all_joined jobs cs) ≤ waiting jobs + weigh_all w cs
  all_join jobs [] = omega arith
  all_join jobs (c ∷ cs) = omega (arith, joins_as jobs c (out-Command c), all_join (joined jobs c) cs)

  -- ---- turns

  -- a turn gives no more than the operation had
  Light : LiveOperation O → Turn O → Type 0
  Light l turn = held turn.live.follow_ups + weigh_all w turn.follow_ups ≤ held l.follow_ups

  spent : (peer id : ℕ) (given : Option (List Command)) → weigh_all w (option_map_or (m.listener peer id) given []) ≤ held given
  unfolding held
  spent peer id None = omega arith
  spent peer id (Some commands) = asks peer id commands

  light_told : (l : LiveOperation O) (output : Out) → Light l (told m l output)
  unfolding Light held
  light_told l output = omega (arith, spent l.peer l.id l.follow_ups)

  light_told_as : (l : LiveOperation O) (after : LiveQuery O) (output : Out) → Light l (told m (listening_as l after) output)
  unfolding Light held
  light_told_as l after output = omega (arith, spent l.peer l.id l.follow_ups)

  light_untold : (l : LiveOperation O) → Light l (untold l)
  unfolding Light
  light_untold l = omega arith

  light_untold_as : (l : LiveOperation O) (after : LiveQuery O) → Light l (untold (listening_as l after))
  unfolding Light
  light_untold_as l after = omega arith

  light_if : (l : LiveOperation O) (b : Bool) (x y : Turn O) → Light l x → Light l y → Light l (if b then x else y)
  light_if l true x y a b = a
  light_if l false x y a b = b

  light_unanswered : (s : GatewayState O) (l : LiveOperation O) (q : LiveQuery O) → Light l (unanswered_turn m s l q)
  light_unanswered s l q =
      let now = reading_now m s q in
      let after = reread q now (is_due_beside q now) in
      light_if l q.awaits (untold l) (other_turn m s l q now) (light_untold l)
      (light_if l (is_changed q now && not (is_miss now)) (told m (listening_as l after) (reply s no_errors l after)) (untold (listening_as l after))
      (light_told_as l after (reply s no_errors l after)) (light_untold_as l after))

  light_query : (s : GatewayState O) (answer : Option Answer) (l : LiveOperation O) (q : LiveQuery O) → Light l (query_turn m s answer l q)
  light_query s None l q = light_unanswered s l q
  light_query s (Some answer) l q =
      let now = reading_now m s q in
      let after = reread q now (is_due_after_answer s q now answer) in
      light_if l (answer.key == q.key) (answered_turn m s l q now answer) (unanswered_turn m s l q)
      (light_told_as l after (reply s answer.errors l after)) (light_unanswered s l q)

  light_turn_of : (s : GatewayState O) (answer : Option Answer) (l : LiveOperation O) (listens : Listening O) → Light l (turn_of m s answer l listens)
  light_turn_of s answer l (query q) = light_query s answer l q
  light_turn_of s answer l (mutation ticket) = light_untold l

  light_fault : (s : GatewayState O) (key : ℕ) (fault : Fault) (l : LiveOperation O) (listens : Listening O) → Light l (fault_turn m s key fault l listens)
  light_fault s key fault l (query q) =
      let after = reread q (reading_now m s q) false in
      light_if l (q.key == key) (faulted m (Outside fault) (listening_as l after)) (untold l) (light_told_as l after _) (light_untold l)
  light_fault s key fault l (mutation ticket) = light_untold l

  light_listener : (ticket : ℕ) (turn : LiveOperation O → Turn O) → ((l : LiveOperation O) → Light l (turn l)) → (l : LiveOperation O) (listens : Listening O) → Light l (turn_of_listener ticket turn l listens)
  light_listener ticket turn k l (query q) = light_untold l
  light_listener ticket turn k l (mutation other) = light_if l (other == ticket) (turn l) (untold l) (k l) (light_untold l)

  light_queued : (row : ℕ) (l : LiveOperation O) → Light l (queued_turn row l)
  unfolding Light
  light_queued row l = omega arith

  turned : (turn : LiveOperation O → Turn O) → ((l : LiveOperation O) → Light l (turn l)) → (ls : List (LiveOperation O))
      → lives (map (λ l. (turn l).live) ls) + weigh_all w (flat_map (λ l. (turn l).follow_ups) ls) ≤ lives ls
  unfolding lives Light
  turned turn k [] = omega arith
  turned turn k (l ∷ ls) =
      let one = k l in
      omega (arith, one, turned turn k ls, all_append (turn l).follow_ups (flat_map (λ (x : LiveOperation O). (turn x).follow_ups) ls))

  load_turned : (turn : LiveOperation O → Turn O) → ((l : LiveOperation O) → Light l (turn l)) → (s : GatewayState O) → load (all_turned turn s).state ≤ load s
  unfolding load
  load_turned turn k s = omega (arith, turned turn k s.live, all_join s.jobs (flat_map (λ (l : LiveOperation O). (turn l).follow_ups) s.live))

  -- ---- what follows

  step_if : (n : ℕ) (b : Bool) (x y : Step O) → load x.state ≤ n → load y.state ≤ n → load (if b then x else y).state ≤ n
  step_if n true x y a b = a
  step_if n false x y a b = b

  change_if : (n : ℕ) (b : Bool) (x y : Change O) → load x.state ≤ n → load y.state ≤ n → load (if b then x else y).state ≤ n
  change_if n true x y a b = a
  change_if n false x y a b = b

  same_follow_ups : (b : Bool) (l : LiveOperation O) (q : LiveQuery O) → (if b then listening_as l q else l).follow_ups ≡ l.follow_ups
  same_follow_ups true l q = refl
  same_follow_ups false l q = refl

  not_due_keeps : (key : ℕ) (l : LiveOperation O) (listens : Listening O) → (not_due key l listens).follow_ups ≡ l.follow_ups
  not_due_keeps key l (query q) = same_follow_ups (q.key == key) l (record q { due = false })
  not_due_keeps key l (mutation ticket) = refl

  load_sent : (q : LiveQuery O) (s : GatewayState O) → load (query_sent m q s).state ≤ load s
  unfolding load
  load_sent q s = omega (arith, lives_map (λ l. not_due q.key l l.listens) (λ l. not_due_keeps q.key l l.listens) s.live)

  load_issued_for : (listens : Listening O) (s : GatewayState O) → load (issued_for m listens s).state ≤ load s
  load_issued_for (query q) s = step_if (load s) (may_be_sent m s q) (query_sent m q s) (unmoved s) (load_sent q s) (omega arith)
  load_issued_for (mutation ticket) s = omega arith

  load_issued : (ls : List (LiveOperation O)) (s : GatewayState O) → load (issued_over m ls s).state ≤ load s
  load_issued [] s = omega arith
  load_issued (l ∷ ls) s = omega (arith, load_issued_for l.listens s, load_issued ls (issued_for m l.listens s).state)

  load_followed : (sequel : Sequel) (s : GatewayState O) → load (followed m sequel s).state ≤ load s
  load_followed stops s = omega arith
  load_followed issues s = load_issued s.live s
  load_followed (reevaluates ticket answer) s =
      let after = (reevaluated m answer s).state in
      let first : load after ≤ load s = load_turned (λ l. turn_of m s answer l l.listens) (λ l. light_turn_of s answer l l.listens) s in
      omega (arith, first, load_issued after.live after)

  load_concluded : (n : ℕ) (change : Change O) → load change.state ≤ n → load (concluded m change).state ≤ n
  load_concluded n change a = omega (arith, a, load_followed change.sequel change.state)

  -- ---- dispatches

  load_live : (sender : Sender) (listens : Listening O) (s : GatewayState O) → load (with_live (live_as sender listens) s) ≤ load s + weigh_all w sender.follow_ups
  unfolding load held
  load_live sender listens s = omega (arith, lives_push s.live (live_as sender listens))

  load_newest : (l : LiveOperation O) (turn : Turn O) (s : GatewayState O) → Light l turn → load (turned_newest turn s).state ≤ load s + held l.follow_ups
  unfolding load Light
  load_newest l turn s a = omega (arith, a, lives_push s.live turn.live, all_join s.jobs turn.follow_ups)

  load_read : (sender : Sender) (operation : O) (key : ℕ) (policy : Policy) (s : GatewayState O) → load (query_read m sender operation key policy s).state ≤ load s + weigh_all w sender.follow_ups
  unfolding held
  load_read sender operation key policy s =
      let q = read_at_once operation key policy (reading_now m s (awaiting operation key policy)) in
      let l = live_as sender (query q) in
      load_newest l (read_turn m s l q) s
      (light_if l (plan_of q.policy q.last.kind).tell (told m l (reply s no_errors l q)) (untold l) (light_told l (reply s no_errors l q)) (light_untold l))

  load_begun : (operation : O) (row : Option ℕ) (s : GatewayState O) (guess : Option (List Write))
      → load (sent m (next_ticket s) None operation (with_mutation (record { ticket = next_ticket s; row = row; operation = operation }) (guessed (next_ticket s) guess (with_ticket s)))).state ≤ load s
  unfolding load
  load_begun operation row s None = omega arith
  load_begun operation row s (Some writes) = omega arith

  load_mutation : (sender : Sender) (operation : O) (s : GatewayState O)
      → load (sent m (next_ticket s) None operation (with_mutation (record { ticket = next_ticket s; row = None; operation = operation }) (guessed (next_ticket s) (m.guess operation) (with_ticket (with_live (live_as sender (mutation (next_ticket s))) s))))).state ≤ load s + weigh_all w sender.follow_ups
  load_mutation sender operation s =
      omega (arith, load_begun operation None (with_live (live_as sender (mutation (next_ticket s))) s) (m.guess operation), load_live sender (mutation (next_ticket s)) s)

  load_taken : (sender : Sender) (policy : Policy) (operation : O) (s : GatewayState O) (given : OperationKind) → load (taken m sender policy operation s given).state ≤ load s + weigh_all w sender.follow_ups
  unfolding load
  load_taken sender policy operation s kind.Query =
      let identity = m.identity operation in
      let key = key_of s.identities identity in
      let met = record s { identities = with_identity s.identities identity } in
      step_if (load s + weigh_all w sender.follow_ups) (is_network_only policy) (unmoved (with_live (live_as sender (query (awaiting operation key policy))) met)) (query_read m sender operation key policy met)
      (load_live sender (query (awaiting operation key policy)) met) (load_read sender operation key policy met)
  load_taken sender policy operation s kind.Mutation = load_mutation sender operation s
  load_taken sender policy operation s kind.Subscription = load_mutation sender operation s

  load_judged : (sender : Sender) (line : ℕ) (policy : Policy) (s : GatewayState O) (judged : Result O Refusal) → load (taken_or_refused m sender line policy s judged).state ≤ load s + weigh_all w sender.follow_ups
  load_judged sender line policy s (Err r) = omega arith
  load_judged sender line policy s (Ok operation) = load_taken sender policy operation s (m.kind operation)

  load_dispatched : (dispatch : Dispatch) (parts : Dispatch-F Command Dispatch) (s : GatewayState O) → load (dispatched m dispatch parts s).state ≤ load s + weigh_all w parts.then
  load_dispatched dispatch parts s =
      let n = load s + weigh_all w parts.then in
      let late = taken_or_refused m (sender_of parts) parts.line parts.policy s (m.judged dispatch) in
      let many = refused_frame parts.peer parts.line refusal.E12 s in
      change_if n (is_live s parts.peer parts.id) (refused_frame parts.peer parts.line refusal.E4 s) (if nat_le most_live (length s.live) then many else late) (omega arith)
      (change_if n (nat_le most_live (length s.live)) many late (omega arith) (load_judged (sender_of parts) parts.line parts.policy s (m.judged dispatch)))

  -- ---- teardowns

  load_forgotten : (s : GatewayState O) (fetch : Option (OpenFetch O)) → load (option_map_or (forgotten s) fetch (nothing_forgotten s)).state ≤ load s
  unfolding load
  load_forgotten s (Some fetch) = omega arith
  load_forgotten s None = omega arith

  load_left : (listens : Listening O) (s : GatewayState O) → load (left_behind listens s).state ≤ load s
  load_left (query q) s = change_if (load s) (has_listener s q.key) (nothing_forgotten s) (key_left q.key s) (omega arith) (load_forgotten s (find (is_for_key q.key) s.fetches))
  load_left (mutation ticket) s = omega arith

  load_without : (peer id : ℕ) (s : GatewayState O) → load (without_named peer id s) ≤ load s
  unfolding load
  load_without peer id s = omega (arith, lives_filter (λ live. not (is_named peer id live)) s.live)

  load_torn : (peer id : ℕ) (listens : Listening O) (s : GatewayState O) → load (torn_down peer id listens s).state ≤ load s
  load_torn peer id listens s = omega (arith, load_left listens (without_named peer id s), load_without peer id s)

  load_where_live : (peer id line : ℕ) (took_out : Bool) (s : GatewayState O) (live : Option (LiveOperation O)) → load (torn_where_live peer id line took_out s live).state ≤ load s
  load_where_live peer id line took_out s (Some live) = load_torn peer id live.listens s
  load_where_live peer id line took_out s None = step_if (load s) took_out (unmoved s) (refused peer line refusal.E5 s) (omega arith) (omega arith)

  load_all_torn : (ls : List (LiveOperation O)) (s : GatewayState O) → load (all_torn_down m ls s).state ≤ load s
  load_all_torn [] s = omega arith
  load_all_torn (l ∷ ls) s =
      let change = torn_down l.peer l.id l.listens s in
      let first : load (concluded m change).state ≤ load s = load_concluded (load s) change (load_torn l.peer l.id l.listens s) in
      omega (arith, first, load_all_torn ls (concluded m change).state)

  load_dropped : (peer : ℕ) (s : GatewayState O) → load (commands_dropped peer s).state ≤ load s
  unfolding load
  load_dropped peer s = omega (arith, waiting_filter (λ job. not (is_of_peer peer (out-Command job.command))) s.jobs)

  load_gone : (peer : ℕ) (s : GatewayState O) → load (gone m peer s).state ≤ load s
  load_gone peer s =
      let mine = filter (λ (live : LiveOperation O). live.peer == peer) s.live in
      omega (arith, load_all_torn mine s, load_dropped peer (all_torn_down m mine s).state)

  -- ---- responses

  load_failed : (fetch : OpenFetch O) (key : ℕ) (fault : Fault) (s : GatewayState O) → load (query_failed m fetch key fault s).state ≤ load s
  unfolding load
  load_failed fetch key fault s =
      let t = emptied fetch.ticket s in
      load_turned (λ l. fault_turn m t key fault l l.listens) (λ l. light_fault t key fault l l.listens) t

  load_query_written : (fetch : OpenFetch O) (key : ℕ) (errors : Value) (s : GatewayState O) (written : Result (List Write) (List ℕ)) → load (query_written m fetch key errors s written).state ≤ load s
  unfolding load
  load_query_written fetch key errors s (Ok writes) = omega arith
  load_query_written fetch key errors s (Err path) = load_failed fetch key (F4 path) s

  load_query_answered : (fetch : OpenFetch O) (key : ℕ) (s : GatewayState O) (o : Outcome) → load (query_answered m fetch key s o).state ≤ load s
  load_query_answered fetch key s (outcome.Body answer errors) = load_query_written fetch key errors s (m.written fetch.operation answer errors)
  load_query_answered fetch key s (outcome.Bad fault) = load_failed fetch key fault s

  load_done : (row : Option ℕ) (s : GatewayState O) → load (row_done row s) ≤ load s
  unfolding load
  load_done None s = omega arith
  load_done (Some row) s = omega arith

  load_listener : (ticket : ℕ) (turn : LiveOperation O → Turn O) → ((l : LiveOperation O) → Light l (turn l)) → (s : GatewayState O) → load (listener_turned ticket turn s).state ≤ load s
  load_listener ticket turn k s = load_turned (λ l. turn_of_listener ticket turn l l.listens) (λ l. light_listener ticket turn k l l.listens) s

  load_unlistened : (ticket : ℕ) (s : GatewayState O) → load (without_listener ticket s) ≤ load s
  unfolding load
  load_unlistened ticket s = omega (arith, lives_filter (λ live. not (listens_to ticket live.listens)) s.live)

  load_over : (pending : PendingMutation O) (turn : LiveOperation O → Turn O) → ((l : LiveOperation O) → Light l (turn l)) → (s : GatewayState O) → load (over pending turn s).state ≤ load (without_mutation pending.ticket s)
  load_over pending turn k s =
      let done = row_done pending.row (without_mutation pending.ticket s) in
      let after = (listener_turned pending.ticket turn done).state in
      let first : load done ≤ load (without_mutation pending.ticket s) = load_done pending.row (without_mutation pending.ticket s) in
      let second : load after ≤ load done = load_listener pending.ticket turn k done in
      let third : load (without_listener pending.ticket after) ≤ load after = load_unlistened pending.ticket after in
      omega (arith, first, second, third)

  load_same : (pending : PendingMutation O) (turn : LiveOperation O → Turn O) → ((l : LiveOperation O) → Light l (turn l)) → (s t : GatewayState O) → load (without_mutation pending.ticket t) ≡ load s → load (over pending turn t).state ≤ load s
  load_same pending turn k s t e = omega (arith, load_over pending turn k t, e)

  load_mutation_failed : (pending : PendingMutation O) (ending : Ending) (s : GatewayState O) → load (mutation_failed m pending ending s).state ≤ load s
  unfolding load
  load_mutation_failed pending ending s = load_same pending (faulted m ending) (λ l. light_told l _) s (emptied pending.ticket s) refl

  load_written : (pending : PendingMutation O) (answer errors : Value) (s : GatewayState O) (written : Result (List Write) (List ℕ)) → load (mutation_written m pending answer errors s written).state ≤ load s
  unfolding load
  load_written pending answer errors s (Ok writes) =
      load_same pending (answer_turn m pending.operation answer errors) (λ l. light_told l _) s
      (settled_with pending.ticket (writes ++ m.updates pending.operation answer) s) refl
  load_written pending answer errors s (Err path) = load_mutation_failed pending (Outside (F4 path)) s

  load_queued : (pending : PendingMutation O) (identity : Identity) (s : GatewayState O) → load (mutation_queued pending identity s).state ≤ load s
  unfolding load
  load_queued pending identity s =
      let row = s.rows.greatest + 1 in
      load_listener pending.ticket (queued_turn row) (λ l. light_queued row l)
      (with_row pending.ticket row (record s { rows = queued s.rows identity.document identity.operation identity.variables }))

  load_put : (pending : PendingMutation O) (identity : Identity) (s : GatewayState O) → load (mutation_put m pending identity s).state ≤ load s
  load_put pending identity s =
      change_if (load s) (has_row_number s.rows && is_full s.rows identity) (mutation_failed m pending QueueFull s) (mutation_queued pending identity s)
      (load_mutation_failed pending QueueFull s) (load_queued pending identity s)

  load_unreached : (pending : PendingMutation O) (row : Option ℕ) (s : GatewayState O) → load (mutation_unreached m pending row s).state ≤ load s
  load_unreached pending (Some row) s = omega arith
  load_unreached pending None s =
      change_if (load s) (is_some (m.guess pending.operation)) (mutation_put m pending (m.identity pending.operation) s) (mutation_failed m pending (Outside F6) s)
      (load_put pending (m.identity pending.operation) s) (load_mutation_failed pending (Outside F6) s)

  load_ended : (pending : PendingMutation O) (s : GatewayState O) (fault : Fault) → load (mutation_ended m pending s fault).state ≤ load s
  load_ended pending s F6 = load_unreached pending pending.row s
  load_ended pending s F1 = load_mutation_failed pending (Outside F1) s
  load_ended pending s F2 = load_mutation_failed pending (Outside F2) s
  load_ended pending s (F3 path) = load_mutation_failed pending (Outside (F3 path)) s
  load_ended pending s (F4 path) = load_mutation_failed pending (Outside (F4 path)) s
  load_ended pending s (F5 status) = load_mutation_failed pending (Outside (F5 status)) s
  load_ended pending s F7 = load_mutation_failed pending (Outside F7) s
  load_ended pending s F8 = load_mutation_failed pending (Outside F8) s

  load_answered : (pending : PendingMutation O) (s : GatewayState O) (o : Outcome) → load (mutation_answered m pending s o).state ≤ load s
  load_answered pending s (outcome.Body answer errors) = load_written pending answer errors s (m.written pending.operation answer errors)
  load_answered pending s (outcome.Bad fault) = load_ended pending s fault

  load_pending : (o : Outcome) (s : GatewayState O) (pending : Option (PendingMutation O)) → load (option_map_or (λ found. mutation_answered m found s o) pending (followed_by (unmoved s) stops)).state ≤ load s
  load_pending o s (Some pending) = load_answered pending s o
  load_pending o s None = omega arith

  load_fetch : (fetch : OpenFetch O) (o : Outcome) (s : GatewayState O) (key : Option ℕ) → load (fetch_answered m fetch o s key).state ≤ load s
  load_fetch fetch o s (Some key) = load_query_answered fetch key s o
  load_fetch fetch o s None = load_pending o s (pending_of fetch.ticket s)

  load_open : (peer line : ℕ) (o : Outcome) (s : GatewayState O) (fetch : Option (OpenFetch O)) → load (answered_where_open m peer line o s fetch).state ≤ load s
  unfolding load
  load_open peer line o s None = omega arith
  load_open peer line o s (Some fetch) = load_fetch fetch o (closed fetch.number s) fetch.key

  -- ---- rows

  load_sent_again : (s : GatewayState O) (pending : Option (PendingMutation O)) → load (option_map_or (sent_again m s) pending (unmoved s)).state ≤ load s
  unfolding load
  load_sent_again s (Some pending) = step_if (load s) (is_sent s pending.ticket) (unmoved s) (sent m pending.ticket None pending.operation s) (omega arith) (omega arith)
  load_sent_again s None = omega arith

  load_rows : (rows : List Row) (s : GatewayState O) → load (rows_sent_again m rows s).state ≤ load s
  load_rows [] s = omega arith
  load_rows (row ∷ rows) s =
      let found = find (is_in_row row.seq) s.mutations in
      omega (arith, load_sent_again s found, load_rows rows (option_map_or (sent_again m s) found (unmoved s)).state)

  -- ---- commands

  -- a command leaves less than it weighed itself
  load_step : (took_out : Bool) (s : GatewayState O) (own : ℕ) (command : Command-F Command Dispatch) → WeighsMore w own command → load (step_of m took_out s command).state < load s + own
  load_step took_out s own (Command-F.Dispatch dispatch) h =
      let parts = out-Dispatch dispatch in
      let change = dispatched m dispatch parts s in
      let all = weigh_all w parts.then in
      let after : load (concluded m change).state ≤ load s + all = load_concluded (load s + all) change (load_dispatched dispatch parts s) in
      omega (arith, after, h)
  load_step took_out s own (Command-F.Teardown peer id line) h =
      let change = teardown peer id line took_out s in
      let after : load (concluded m change).state ≤ load s = load_concluded (load s) change (load_where_live peer id line took_out s (find (is_named peer id) s.live)) in
      omega (arith, after, h)
  load_step took_out s own (Command-F.Respond peer fetch line o) h =
      let change = response m peer fetch line o s in
      let after : load (concluded m change).state ≤ load s = load_concluded (load s) change (load_open peer line o s (find (λ (other : OpenFetch O). other.number == fetch) s.fetches)) in
      omega (arith, after, h)
  load_step took_out s own Command-F.Online h = omega (arith, load_rows s.rows.rows s, h)
  load_step took_out s own (Command-F.Layers peer) h = omega (arith, h)
  load_step took_out s own (Command-F.Flat peer) h = omega (arith, h)
  load_step took_out s own (Command-F.Gone peer) h = omega (arith, load_gone peer s, h)

  -- the queue is empty after some commands
  record Ends (s : GatewayState O) : Type 0 where
    pub commands : ℕ
    pub drained : (commands_taken commands m s).state.jobs ≡ []

  ends_after : (s : GatewayState O) (jobs : List Job) → s.jobs ≡ jobs → Ends (first_taken m s jobs).state → Ends s
  ends_after s jobs e rest =
      record {
        commands = suc rest.commands;
        drained = subst (λ (js : List Job). (commands_taken rest.commands m (first_taken m s js).state).state.jobs ≡ []) (sym e) rest.drained;
      }

  load_first : (isw : IsWeight w) (s : GatewayState O) (job : Job) (jobs : List Job) → s.jobs ≡ job ∷ jobs → load (first_taken m s (job ∷ jobs)).state < load s
  unfolding load waiting
  load_first isw s job jobs e =
      let before = record s { jobs = jobs } in
      let after : load (command_step m job before).state < load before + w job.command = load_step job.took_out before (w job.command) (out-Command job.command) (isw job.command) in
      let weighs : waiting s.jobs ≡ w job.command + waiting jobs = ap waiting e in
      omega (arith, after, weighs)

  ends_within : (isw : IsWeight w) (n : ℕ) (s : GatewayState O) (jobs : List Job) → s.jobs ≡ jobs → load s ≤ n → Ends s
  ends_within isw n s [] e h = record { commands = 0; drained = e }
  ends_within isw zero s (job ∷ jobs) e h =
      let less : load (first_taken m s (job ∷ jobs)).state < load s = load_first isw s job jobs e in
      let bad : ⊥ = omega (arith, less, h) in
      absurd bad
  ends_within isw (suc n) s (job ∷ jobs) e h =
      let next = (first_taken m s (job ∷ jobs)).state in
      let less : load next < load s = load_first isw s job jobs e in
      let within : load next ≤ n = omega (arith, less, h) in
      ends_after s (job ∷ jobs) e (ends_within isw n next next.jobs refl within)

  pub every_run_ends : (isw : IsWeight w) (command : Command) (s : GatewayState O) → (step : Step O) × IsRun m command s step
  every_run_ends isw command s =
      let start = with_command command s in
      let end = ends_within isw (load start) start start.jobs refl (omega arith) in
      (commands_taken end.commands m start, record { commands = end.commands; done = refl; drained = end.drained })
