-- What every change of tickets, fetches and mutations keeps, every command keeps. `KeepsResults` tells of each change all
-- that the machine says of it; `Keeps` is for what is kept whatever a ticket gets.
use Rattle.std.proofs.Common.{◌≡◌, ℕ, suc, ◌+◌, ◌-◌, ◌==◌, ◌&&◌, Bool, true, false, not, nat_le, if◌then◌else◌, List, [], ◌∷◌, ◌++◌, map, filter, find, length, set, is_some, Option, Some, None, Result, Ok, Err, refl, sym, ap, subst, true-eqb}
use Rattle.std.proofs.lemmas.Bool.{eq-eqb}
use Rattle.std.specs.Option.{option_map_or}
use Rattle.std.specs.List.{list_any}
use Rattle.gql_model.specs.declared.executable.OperationKind.{OperationKind}
use Rattle.gql_model.specs.declared.executable.OperationKind.TheVariants as kind
use Rattle.gql_value.specs.declared.value.Value.{Value}
use Rattle.gql_value.specs.declared.outcome.Fault.{Fault}
use Rattle.gql_value.specs.declared.outcome.Fault.TheVariants.{F1, F2, F3, F4, F5, F6, F7, F8}
use Rattle.gql_value.specs.declared.outcome.Outcome.{Outcome}
use Rattle.gql_value.specs.declared.outcome.Outcome.TheVariants as outcome
use Rattle.cache_model.specs.declared.write.Write.{Write}
use Rattle.cache_model.specs.declared.kind.Kind.{Kind}
use Rattle.cache_model.specs.declared.kind.Kind.TheVariants.{Empty, Optimistic, Final}
use Rattle.cache_model.specs.History.{History, Content, no_content, filled, finished}
use Rattle.send_rules.specs.declared.policy.Policy.{Policy}
use Rattle.queue_model.specs.declared.row.Row.{Row}
use Rattle.machine_model.specs.declared.command.Command.{Command, out-Command}
use Rattle.machine_model.specs.declared.command.Command.TheOpen.{Command-F, Dispatch-F}
use Rattle.machine_model.specs.declared.command.Dispatch.{Dispatch, out-Dispatch}
use Rattle.machine_model.specs.declared.output.Ending.{Ending}
use Rattle.machine_model.specs.declared.output.Ending.TheVariants.{Outside, QueueFull}
use Rattle.machine_model.specs.declared.output.Refusal.{Refusal}
use Rattle.machine_model.specs.declared.output.Refusal.TheVariants as refusal
use Rattle.machine_model.specs.Operations.{Meaning, Identity}
use Rattle.machine_model.specs.State.{GatewayState, LiveOperation, Listening, query, mutation, OpenFetch, PendingMutation, Job, is_named, is_live, is_for_key, is_sent, next_ticket}
use Rattle.machine_model.specs.Steps.{Step, Change, Sequel, stops, issues, reevaluates, unmoved, refused, followed_by}
use Rattle.machine_model.specs.Telling.{Turn, faulted}
use Rattle.machine_model.specs.Reevaluation.{reevaluated}
use Rattle.machine_model.specs.Issue.{is_network_only, with_ticket, may_be_sent, query_sent, issued_for, issued_over, sent}
use Rattle.machine_model.specs.Sequels.{followed, concluded}
use Rattle.machine_model.specs.Queries.{Sender, live_as, with_live, awaiting, query_read, query_added, key_of, with_identity}
use Rattle.machine_model.specs.Mutations.{guessed, with_mutation, begun_and_sent}
use Rattle.machine_model.specs.Teardowns.{has_listener, closed, forgotten, nothing_forgotten, key_left, left_behind, torn_down, torn_where_live, teardown, all_torn_down, without_named}
use Rattle.machine_model.specs.Responses.{answer_turn, query_written, query_answered, without_mutation, row_done, over, mutation_failed, mutation_written, has_row_number, is_full, in_row, mutation_queued, mutation_put, mutation_unreached, mutation_ended, mutation_answered, pending_of, fetch_answered, answered_where_open, response}
use Rattle.machine_model.specs.Rows.{is_in_row, sent_again, rows_sent_again, Offered, all_offered}
use Rattle.machine_model.specs.Laws.{is_mutation_at}
use Rattle.machine_model.specs.Commands.{most_live, refused_frame, taken, taken_or_refused, sender_of, dispatched, step_of, command_step}
use Rattle.machine_laws.specs.Closings.{IsOpen}
use Rattle.machine_laws.specs.Results.{Came, answered, no_answer, held_after, held_by, IsAnswer, Brings}
use Rattle.machine_laws.proofs.Numbers.{found_passes, any_last}

-- what is said of the tickets, the open fetches, the mutations and the next number of a fetch
abbrev pub Saying : Type 0 → Type 1
Saying O = History → List (OpenFetch O) → List (PendingMutation O) → ℕ → Type 0

-- the history after a ticket got its last content
abbrev pub ended_with : History → ℕ → List Write → Kind → History
ended_with h ticket writes kind = finished (filled h ticket writes kind) ticket

-- the fetches without the one of a number, and the mutations without that of a ticket
abbrev pub without_number : {O : Type 0} → ℕ → List (OpenFetch O) → List (OpenFetch O)
without_number number f = filter (λ other. not (other.number == number)) f

abbrev pub without_ticket : {O : Type 0} → ℕ → List (PendingMutation O) → List (PendingMutation O)
without_ticket ticket m = filter (λ other. not (other.ticket == ticket)) m

-- it is kept where the ticket of a mutation gets another content; where a query or a mutation is sent under the next ticket,
-- or a mutation again under its own; where the fetch of a query is over, with its ticket, or that of a mutation, with the
-- mutation or without; and where a mutation gets a row
pub record Keeps {O : Type 0} (P : Saying O) : Type 0 where
  pub guessed : (h : History) (f : List (OpenFetch O)) (m : List (PendingMutation O)) (n i : ℕ) (c : Content) → list_any (is_mutation_at i) m ≡ true → P h f m n → P (set h i c) f m n
  pub query : (h : History) (f : List (OpenFetch O)) (m : List (PendingMutation O)) (n key : ℕ) (operation : O) → P h f m n
      → P (h ++ no_content ∷ []) (f ++ record { number = n; ticket = suc (length h); key = Some key; operation = operation } ∷ []) m (n + 1)
  pub mutation : (h : History) (f : List (OpenFetch O)) (m : List (PendingMutation O)) (n : ℕ) (row : Option ℕ) (operation : O) → P h f m n
      → P (h ++ no_content ∷ []) (f ++ record { number = n; ticket = suc (length h); key = None; operation = operation } ∷ []) (m ++ record { ticket = suc (length h); row = row; operation = operation } ∷ []) (n + 1)
  pub again : (h : History) (f : List (OpenFetch O)) (m : List (PendingMutation O)) (n : ℕ) (test : PendingMutation O → Bool) (pending : PendingMutation O) → find test m ≡ Some pending
      → list_any (λ fetch. fetch.ticket == pending.ticket) f ≡ false → P h f m n
      → P h (f ++ record { number = n; ticket = pending.ticket; key = None; operation = pending.operation } ∷ []) m (n + 1)
  pub ended : (h : History) (f : List (OpenFetch O)) (m : List (PendingMutation O)) (n : ℕ) (test : OpenFetch O → Bool) (fetch : OpenFetch O) (writes : List Write) (kind : Kind) → find test f ≡ Some fetch
      → P h f m n → P (ended_with h fetch.ticket writes kind) (without_number fetch.number f) m n
  pub over : (h : History) (f : List (OpenFetch O)) (m : List (PendingMutation O)) (n : ℕ) (test : OpenFetch O → Bool) (fetch : OpenFetch O) (pending : PendingMutation O) (writes : List Write) (kind : Kind) → find test f ≡ Some fetch
      → find (λ other. other.ticket == fetch.ticket) m ≡ Some pending → P h f m n
      → P (ended_with h pending.ticket writes kind) (without_number fetch.number f) (without_ticket pending.ticket m) n
  pub unanswered : (h : History) (f : List (OpenFetch O)) (m : List (PendingMutation O)) (n : ℕ) (test : OpenFetch O → Bool) (fetch : OpenFetch O) → find test f ≡ Some fetch → fetch.key ≡ None
      → P h f m n → P h (without_number fetch.number f) m n
  pub rowed : (h : History) (f : List (OpenFetch O)) (m : List (PendingMutation O)) (n ticket row : ℕ) → P h f m n → P h f (map (in_row ticket row) m) n

-- the history after a mutation drew the next ticket, with its guess
abbrev pub begun_with : History → Option (List Write) → History
begun_with h None = h ++ no_content ∷ []
begun_with h (Some writes) = filled (h ++ no_content ∷ []) (suc (length h)) writes Optimistic

abbrev pub KeptIn : {O : Type 0} → Saying O → GatewayState O → Type 0
KeptIn P s = P s.history s.fetches s.mutations s.next_fetch

-- it is kept where a query is sent
abbrev pub KeepsQuery : {O : Type 0} → Saying O → Type 0
KeepsQuery {O} P = (h : History) (f : List (OpenFetch O)) (m : List (PendingMutation O)) (n key : ℕ) (operation : O) → P h f m n
    → P (h ++ no_content ∷ []) (f ++ record { number = n; ticket = suc (length h); key = Some key; operation = operation } ∷ []) m (n + 1)

-- it is kept where a mutation is sent for the first time
abbrev pub KeepsMutation : {O : Type 0} → Meaning O → Saying O → Type 0
KeepsMutation {O} meaning P = (h : History) (f : List (OpenFetch O)) (m : List (PendingMutation O)) (n : ℕ) (row : Option ℕ) (operation : O) (guess : Option (List Write)) → meaning.guess operation ≡ guess → P h f m n
    → P (begun_with h guess) (f ++ record { number = n; ticket = suc (length h); key = None; operation = operation } ∷ []) (m ++ record { ticket = suc (length h); row = row; operation = operation } ∷ []) (n + 1)

-- It is kept by a command that meets a state. What a ticket gets last is what its operation has by what the command brings, and
-- the fetch that is over with its ticket alone is that of a query.
pub record KeepsResults {O : Type 0} (meaning : Meaning O) (state : GatewayState O) (command : Command) (P : Saying O) : Type 0 where
  pub query : KeepsQuery P
  pub mutation : KeepsMutation meaning P
  pub again : (h : History) (f : List (OpenFetch O)) (m : List (PendingMutation O)) (n : ℕ) (test : PendingMutation O → Bool) (pending : PendingMutation O) → find test m ≡ Some pending
      → list_any (λ fetch. fetch.ticket == pending.ticket) f ≡ false → P h f m n
      → P h (f ++ record { number = n; ticket = pending.ticket; key = None; operation = pending.operation } ∷ []) m (n + 1)
  pub ended : (h : History) (f : List (OpenFetch O)) (m : List (PendingMutation O)) (n : ℕ) (test : OpenFetch O → Bool) (fetch : OpenFetch O) (writes : List Write) (kind : Kind) (came : Came) → find test f ≡ Some fetch
      → is_some fetch.key ≡ true → Brings state command fetch came → held_by meaning fetch.operation false came ≡ record { kind = kind; finished = true; writes = writes }
      → P h f m n → P (ended_with h fetch.ticket writes kind) (without_number fetch.number f) m n
  pub over : (h : History) (f : List (OpenFetch O)) (m : List (PendingMutation O)) (n : ℕ) (test : OpenFetch O → Bool) (fetch : OpenFetch O) (pending : PendingMutation O) (writes : List Write) (kind : Kind) (came : Came) → find test f ≡ Some fetch
      → find (λ other. other.ticket == fetch.ticket) m ≡ Some pending → Brings state command fetch came → held_by meaning pending.operation true came ≡ record { kind = kind; finished = true; writes = writes }
      → P h f m n → P (ended_with h pending.ticket writes kind) (without_number fetch.number f) (without_ticket pending.ticket m) n
  pub unanswered : (h : History) (f : List (OpenFetch O)) (m : List (PendingMutation O)) (n : ℕ) (test : OpenFetch O → Bool) (fetch : OpenFetch O) → find test f ≡ Some fetch → fetch.key ≡ None
      → P h f m n → P h (without_number fetch.number f) m n
  pub rowed : (h : History) (f : List (OpenFetch O)) (m : List (PendingMutation O)) (n ticket row : ℕ) → P h f m n → P h f (map (in_row ticket row) m) n

-- ---- what is kept whatever a ticket gets

module _ {O : Type 0} (P : Saying O) (k : Keeps P) (meaning : Meaning O) where
  keeps_mutation : KeepsMutation meaning P
  keeps_mutation h f m n row operation None e a = k.mutation h f m n row operation a
  keeps_mutation h f m n row operation (Some writes) e a =
      let pending : PendingMutation O = record { ticket = suc (length h); row = row; operation = operation } in
      let place = suc (length h) - 1 in
      k.guessed (h ++ no_content ∷ [])
      (f ++ record { number = n; ticket = suc (length h); key = None; operation = operation } ∷ [])
      (m ++ pending ∷ [])
      (n + 1) place (record { kind = Optimistic; finished = false; writes = writes })
      (any_last (is_mutation_at place) m pending (eq-eqb place place refl))
      (k.mutation h f m n row operation a)

  pub keeps_results : (state : GatewayState O) (command : Command) → KeepsResults meaning state command P
  keeps_results state command = record {
    query = k.query;
    mutation = keeps_mutation;
    again = k.again;
    ended = λ h f m n test fetch writes kind came found is brings held a. k.ended h f m n test fetch writes kind found a;
    over = λ h f m n test fetch pending writes kind came found waits brings held a. k.over h f m n test fetch pending writes kind found waits a;
    unanswered = k.unanswered;
    rowed = k.rowed;
  }

-- ---- what follows a change sends queries alone

module _ {O : Type 0} (P : Saying O) (k : KeepsQuery P) (m : Meaning O) where
  kept_sent : (b : Bool) (x y : Step O) → KeptIn P x.state → KeptIn P y.state → KeptIn P (if b then x else y).state
  kept_sent true x y a b = a
  kept_sent false x y a b = b

  kept_issued_for : (listens : Listening O) (s : GatewayState O) → KeptIn P s → KeptIn P (issued_for m listens s).state
  kept_issued_for (query l) s a = kept_sent (may_be_sent m s l) (query_sent m l s) (unmoved s) (k s.history s.fetches s.mutations s.next_fetch l.key l.operation a) a
  kept_issued_for (mutation ticket) s a = a

  kept_issued_over : (lives : List (LiveOperation O)) (s : GatewayState O) → KeptIn P s → KeptIn P (issued_over m lives s).state
  kept_issued_over [] s a = a
  kept_issued_over (live ∷ lives) s a = kept_issued_over lives (issued_for m live.listens s).state (kept_issued_for live.listens s a)

  kept_followed : (sequel : Sequel) (s : GatewayState O) → KeptIn P s → KeptIn P (followed m sequel s).state
  kept_followed stops s a = a
  kept_followed issues s a = kept_issued_over s.live s a
  kept_followed (reevaluates ticket answer) s a =
      let after = (reevaluated m answer s).state in
      kept_issued_over after.live after a

  pub kept_by_what_follows : (change : Change O) → KeptIn P change.state → KeptIn P (concluded m change).state
  kept_by_what_follows change a = kept_followed change.sequel change.state a

-- ---- mutations that are sent for the first time

module _ {O : Type 0} (P : Saying O) (m : Meaning O) (k : KeepsMutation m P) where
  kept_begun : (operation : O) (row : Option ℕ) (s : GatewayState O) (guess : Option (List Write)) → m.guess operation ≡ guess → KeptIn P s
      → KeptIn P (sent m (next_ticket s) None operation (with_mutation (record { ticket = next_ticket s; row = row; operation = operation }) (guessed (next_ticket s) guess (with_ticket s)))).state
  kept_begun operation row s None e a = k s.history s.fetches s.mutations s.next_fetch row operation None e a
  kept_begun operation row s (Some writes) e a = k s.history s.fetches s.mutations s.next_fetch row operation (Some writes) e a

  kept_by_rows : (offers : List (Offered O)) (s : GatewayState O) → KeptIn P s → KeptIn P (all_offered m offers s).state
  kept_by_rows [] s a = a
  kept_by_rows (offer ∷ offers) s a =
      kept_by_rows offers (begun_and_sent m offer.1 (Some offer.0) s).state (kept_begun offer.1 (Some offer.0) s (m.guess offer.1) refl a)

-- ---- commands

module _ {O : Type 0} (P : Saying O) (m : Meaning O) (now : GatewayState O) (job : Job) (k : KeepsResults m now job.command P) where
  abbrev Kept : GatewayState O → Type 0
  Kept s = P s.history s.fetches s.mutations s.next_fetch

  kept_if : (b : Bool) (x y : Step O) → Kept x.state → Kept y.state → Kept (if b then x else y).state
  kept_if true x y a b = a
  kept_if false x y a b = b

  change_if : (b : Bool) (x y : Change O) → Kept x.state → Kept y.state → Kept (if b then x else y).state
  change_if true x y a b = a
  change_if false x y a b = b

  kept_concluded : (change : Change O) → Kept change.state → Kept (concluded m change).state
  kept_concluded change a = kept_by_what_follows P k.query m change a

  -- ---- dispatches

  kept_query_added : (sender : Sender) (operation : O) (key : ℕ) (policy : Policy) (s : GatewayState O) → Kept s → Kept (query_added m sender operation key policy s).state
  kept_query_added sender operation key policy s a =
      kept_if (is_network_only policy) (unmoved (with_live (live_as sender (query (awaiting operation key policy))) s)) (query_read m sender operation key policy s) a a

  kept_taken : (sender : Sender) (policy : Policy) (operation : O) (s : GatewayState O) (given : OperationKind) → Kept s → Kept (taken m sender policy operation s given).state
  kept_taken sender policy operation s kind.Query a =
      let identity = m.identity operation in
      kept_query_added sender operation (key_of s.identities identity) policy (record s { identities = with_identity s.identities identity }) a
  kept_taken sender policy operation s kind.Mutation a = kept_begun P m k.mutation operation None (with_live (live_as sender (mutation (next_ticket s))) s) (m.guess operation) refl a
  kept_taken sender policy operation s kind.Subscription a = kept_begun P m k.mutation operation None (with_live (live_as sender (mutation (next_ticket s))) s) (m.guess operation) refl a

  kept_judged : (sender : Sender) (line : ℕ) (policy : Policy) (s : GatewayState O) (judged : Result O Refusal) → Kept s → Kept (taken_or_refused m sender line policy s judged).state
  kept_judged sender line policy s (Err r) a = a
  kept_judged sender line policy s (Ok operation) a = kept_taken sender policy operation s (m.kind operation) a

  kept_dispatched : (dispatch : Dispatch) (parts : Dispatch-F Command Dispatch) (s : GatewayState O) → Kept s → Kept (dispatched m dispatch parts s).state
  kept_dispatched dispatch parts s a =
      let late = taken_or_refused m (sender_of parts) parts.line parts.policy s (m.judged dispatch) in
      let many = refused_frame parts.peer parts.line refusal.E12 s in
      change_if (is_live s parts.peer parts.id) (refused_frame parts.peer parts.line refusal.E4 s) (if nat_le most_live (length s.live) then many else late) a
      (change_if (nat_le most_live (length s.live)) many late a (kept_judged (sender_of parts) parts.line parts.policy s (m.judged dispatch) a))

  -- ---- teardowns

  keyed : (key : ℕ) (own : Option ℕ) → option_map_or (λ other. other == key) own false ≡ true → is_some own ≡ true
  keyed key (Some own) e = refl
  keyed key None e = e

  kept_forgotten : (s : GatewayState O) (key : ℕ) (fetch : Option (OpenFetch O)) → find (is_for_key key) s.fetches ≡ fetch → Kept s → Kept (option_map_or (forgotten s) fetch (nothing_forgotten s)).state
  kept_forgotten s key (Some fetch) found a =
      k.ended s.history s.fetches s.mutations s.next_fetch (is_for_key key) fetch [] Empty no_answer found (keyed key fetch.key (found_passes (is_for_key key) s.fetches fetch found)) tt refl a
  kept_forgotten s key None found a = a

  kept_left : (listens : Listening O) (s : GatewayState O) → Kept s → Kept (left_behind listens s).state
  kept_left (query l) s a =
      change_if (has_listener s l.key) (nothing_forgotten s) (key_left l.key s) a (kept_forgotten s l.key (find (is_for_key l.key) s.fetches) refl a)
  kept_left (mutation ticket) s a = a

  kept_where_live : (peer id line : ℕ) (took_out : Bool) (s : GatewayState O) (live : Option (LiveOperation O)) → Kept s → Kept (torn_where_live peer id line took_out s live).state
  kept_where_live peer id line took_out s (Some live) a = kept_left live.listens (without_named peer id s) a
  kept_where_live peer id line took_out s None a = kept_if took_out (unmoved s) (refused peer line refusal.E5 s) a a

  kept_all_torn : (lives : List (LiveOperation O)) (s : GatewayState O) → Kept s → Kept (all_torn_down m lives s).state
  kept_all_torn [] s a = a
  kept_all_torn (live ∷ lives) s a =
      let change = torn_down live.peer live.id live.listens s in
      kept_all_torn lives (concluded m change).state
      (kept_concluded change (kept_left live.listens (without_named live.peer live.id s) a))

  -- ---- responses

  -- it holds when a ticket has got the last content that its operation has by what the command brings for a fetch
  abbrev KeptAtEnd : OpenFetch O → O → Bool → ℕ → GatewayState O → Type 0
  KeptAtEnd fetch operation mutates ticket s = (writes : List Write) (kind : Kind) (came : Came) → Brings now job.command fetch came
      → held_by m operation mutates came ≡ record { kind = kind; finished = true; writes = writes }
      → P (ended_with s.history ticket writes kind) s.fetches s.mutations s.next_fetch

  -- the command brings this answer for the fetch, if an answer is what came
  abbrev Answers : OpenFetch O → Outcome → Type 0
  Answers fetch o = (body errors : Value) → o ≡ outcome.Body body errors → Brings now job.command fetch (answered body errors)

  kept_query_written : (fetch : OpenFetch O) (key : ℕ) (body errors : Value) (s : GatewayState O) (written : Result (List Write) (List ℕ)) → m.written fetch.operation body errors ≡ written
      → Brings now job.command fetch (answered body errors) → KeptAtEnd fetch fetch.operation false fetch.ticket s → Kept (query_written m fetch key errors s written).state
  kept_query_written fetch key body errors s (Ok writes) is brings e = e writes Final (answered body errors) brings (ap (held_after m fetch.operation false body) is)
  kept_query_written fetch key body errors s (Err path) is brings e = e [] Empty (answered body errors) brings (ap (held_after m fetch.operation false body) is)

  kept_query_answered : (fetch : OpenFetch O) (key : ℕ) (s : GatewayState O) (o : Outcome) → Answers fetch o → KeptAtEnd fetch fetch.operation false fetch.ticket s → Kept (query_answered m fetch key s o).state
  kept_query_answered fetch key s (outcome.Body body errors) brings e =
      kept_query_written fetch key body errors s (m.written fetch.operation body errors) refl (brings body errors refl) e
  kept_query_answered fetch key s (outcome.Bad fault) brings e = e [] Empty no_answer tt refl

  kept_done : (row : Option ℕ) (s : GatewayState O) → Kept s → Kept (row_done row s)
  kept_done None s a = a
  kept_done (Some row) s a = a

  -- it holds when the mutation is over, by what the command brings for its fetch
  abbrev KeptWhenOver : OpenFetch O → PendingMutation O → GatewayState O → Type 0
  KeptWhenOver fetch pending s = KeptAtEnd fetch pending.operation true pending.ticket (without_mutation pending.ticket s)

  kept_over : (pending : PendingMutation O) (turn : LiveOperation O → Turn O) (writes : List Write) (kind : Kind) (s : GatewayState O)
      → P (ended_with s.history pending.ticket writes kind) s.fetches (without_ticket pending.ticket s.mutations) s.next_fetch
      → Kept (over pending turn (record s { history = ended_with s.history pending.ticket writes kind })).state
  kept_over pending turn writes kind s e = kept_done pending.row (without_mutation pending.ticket (record s { history = ended_with s.history pending.ticket writes kind })) e

  kept_failed : (fetch : OpenFetch O) (pending : PendingMutation O) (ending : Ending) (s : GatewayState O) → KeptWhenOver fetch pending s → Kept (mutation_failed m pending ending s).state
  kept_failed fetch pending ending s e = kept_over pending (faulted m ending) [] Empty s (e [] Empty no_answer tt refl)

  kept_written : (fetch : OpenFetch O) (pending : PendingMutation O) (body errors : Value) (s : GatewayState O) (written : Result (List Write) (List ℕ)) → m.written pending.operation body errors ≡ written
      → Brings now job.command fetch (answered body errors) → KeptWhenOver fetch pending s → Kept (mutation_written m pending body errors s written).state
  kept_written fetch pending body errors s (Ok writes) is brings e =
      let all = writes ++ m.updates pending.operation body in
      kept_over pending (answer_turn m pending.operation body errors) all Final s (e all Final (answered body errors) brings (ap (held_after m pending.operation true body) is))
  kept_written fetch pending body errors s (Err path) is brings e =
      kept_over pending (faulted m (Outside (F4 path))) [] Empty s (e [] Empty (answered body errors) brings (ap (held_after m pending.operation true body) is))

  kept_queued : (pending : PendingMutation O) (identity : Identity) (s : GatewayState O) → Kept s → Kept (mutation_queued pending identity s).state
  kept_queued pending identity s a = k.rowed s.history s.fetches s.mutations s.next_fetch pending.ticket (s.rows.greatest + 1) a

  kept_put : (fetch : OpenFetch O) (pending : PendingMutation O) (identity : Identity) (s : GatewayState O) → Kept s → KeptWhenOver fetch pending s → Kept (mutation_put m pending identity s).state
  kept_put fetch pending identity s a e =
      change_if (has_row_number s.rows && is_full s.rows identity) (mutation_failed m pending QueueFull s) (mutation_queued pending identity s)
      (kept_failed fetch pending QueueFull s e) (kept_queued pending identity s a)

  kept_unreached : (fetch : OpenFetch O) (pending : PendingMutation O) (row : Option ℕ) (s : GatewayState O) → Kept s → KeptWhenOver fetch pending s → Kept (mutation_unreached m pending row s).state
  kept_unreached fetch pending (Some row) s a e = a
  kept_unreached fetch pending None s a e =
      change_if (is_some (m.guess pending.operation)) (mutation_put m pending (m.identity pending.operation) s) (mutation_failed m pending (Outside F6) s)
      (kept_put fetch pending (m.identity pending.operation) s a e) (kept_failed fetch pending (Outside F6) s e)

  kept_ended : (fetch : OpenFetch O) (pending : PendingMutation O) (s : GatewayState O) (fault : Fault) → Kept s → KeptWhenOver fetch pending s → Kept (mutation_ended m pending s fault).state
  kept_ended fetch pending s F6 a e = kept_unreached fetch pending pending.row s a e
  kept_ended fetch pending s F1 a e = kept_failed fetch pending (Outside F1) s e
  kept_ended fetch pending s F2 a e = kept_failed fetch pending (Outside F2) s e
  kept_ended fetch pending s (F3 path) a e = kept_failed fetch pending (Outside (F3 path)) s e
  kept_ended fetch pending s (F4 path) a e = kept_failed fetch pending (Outside (F4 path)) s e
  kept_ended fetch pending s (F5 status) a e = kept_failed fetch pending (Outside (F5 status)) s e
  kept_ended fetch pending s F7 a e = kept_failed fetch pending (Outside F7) s e
  kept_ended fetch pending s F8 a e = kept_failed fetch pending (Outside F8) s e

  kept_mutation_answered : (fetch : OpenFetch O) (pending : PendingMutation O) (s : GatewayState O) (o : Outcome) → Answers fetch o → Kept s → KeptWhenOver fetch pending s → Kept (mutation_answered m pending s o).state
  kept_mutation_answered fetch pending s (outcome.Body body errors) brings a e =
      kept_written fetch pending body errors s (m.written pending.operation body errors) refl (brings body errors refl) e
  kept_mutation_answered fetch pending s (outcome.Bad fault) brings a e = kept_ended fetch pending s fault a e

  kept_pending : (fetch : OpenFetch O) (o : Outcome) (s : GatewayState O) (pending : Option (PendingMutation O)) → pending_of fetch.ticket s ≡ pending → Answers fetch o → Kept s
      → ((found : PendingMutation O) → pending_of fetch.ticket s ≡ Some found → KeptWhenOver fetch found s)
      → Kept (option_map_or (λ found. mutation_answered m found s o) pending (followed_by (unmoved s) stops)).state
  kept_pending fetch o s (Some pending) found brings a e = kept_mutation_answered fetch pending s o brings a (e pending found)
  kept_pending fetch o s None found brings a e = a

  -- the answer to an open fetch, which is over then
  kept_fetch : (number : ℕ) (fetch : OpenFetch O) (o : Outcome) (s : GatewayState O) (key : Option ℕ) → find (λ other. other.number == number) s.fetches ≡ Some fetch → fetch.key ≡ key → Answers fetch o → Kept s
      → Kept (fetch_answered m fetch o (closed fetch.number s) key).state
  kept_fetch number fetch o s (Some key) found e brings a =
      kept_query_answered fetch key (closed fetch.number s) o brings
      (λ writes kind came brought held. k.ended s.history s.fetches s.mutations s.next_fetch (λ (other : OpenFetch O). other.number == number) fetch writes kind came found (ap is_some e) brought held a)
  kept_fetch number fetch o s None found e brings a =
      kept_pending fetch o (closed fetch.number s) (pending_of fetch.ticket s) refl brings
      (k.unanswered s.history s.fetches s.mutations s.next_fetch (λ (other : OpenFetch O). other.number == number) fetch found e a)
      (λ pending waits writes kind came brought held. k.over s.history s.fetches s.mutations s.next_fetch (λ (other : OpenFetch O). other.number == number) fetch pending writes kind came found waits brought held a)

  -- a response that meets the state brings its answer for the fetch that it finds
  answers_found : (peer number line : ℕ) (o : Outcome) (fetch : OpenFetch O) → out-Command job.command ≡ Command-F.Respond peer number line o → find (λ other. other.number == number) now.fetches ≡ Some fetch → Answers fetch o
  answers_found peer number line o fetch is found body errors given =
      let same : fetch.number ≡ number = true-eqb fetch.number number (sym (found_passes (λ (other : OpenFetch O). other.number == number) now.fetches fetch found)) in
      let here : IsOpen fetch now = subst (λ (n : ℕ). find (λ (other : OpenFetch O). other.number == n) now.fetches ≡ Some fetch) (sym same) found in
      (here, subst (λ (command : Command-F Command Dispatch). IsAnswer command fetch.number body errors) (sym is) (sym same, given))

  kept_open : (peer line number : ℕ) (o : Outcome) (fetch : Option (OpenFetch O)) → out-Command job.command ≡ Command-F.Respond peer number line o → find (λ other. other.number == number) now.fetches ≡ fetch → Kept now → Kept (answered_where_open m peer line o now fetch).state
  kept_open peer line number o None is found a = a
  kept_open peer line number o (Some fetch) is found a = kept_fetch number fetch o now fetch.key found refl (answers_found peer number line o fetch is found) a

  -- ---- rows

  kept_unless : (s : GatewayState O) (test : PendingMutation O → Bool) (pending : PendingMutation O) (b : Bool) → find test s.mutations ≡ Some pending → is_sent s pending.ticket ≡ b → Kept s
      → Kept (if b then unmoved s else sent m pending.ticket None pending.operation s).state
  kept_unless s test pending true found e a = a
  kept_unless s test pending false found e a = k.again s.history s.fetches s.mutations s.next_fetch test pending found e a

  kept_sent_again : (s : GatewayState O) (test : PendingMutation O → Bool) (pending : Option (PendingMutation O)) → find test s.mutations ≡ pending → Kept s → Kept (option_map_or (sent_again m s) pending (unmoved s)).state
  kept_sent_again s test (Some pending) found a = kept_unless s test pending (is_sent s pending.ticket) found refl a
  kept_sent_again s test None found a = a

  kept_rows : (rows : List Row) (s : GatewayState O) → Kept s → Kept (rows_sent_again m rows s).state
  kept_rows [] s a = a
  kept_rows (row ∷ rows) s a =
      let step = option_map_or (sent_again m s) (find (is_in_row row.seq) s.mutations) (unmoved s) in
      kept_rows rows step.state (kept_sent_again s (is_in_row row.seq) (find (is_in_row row.seq) s.mutations) refl a)

  -- ---- commands

  kept_step : (command : Command-F Command Dispatch) → out-Command job.command ≡ command → Kept now → Kept (step_of m job.took_out now command).state
  kept_step (Command-F.Dispatch dispatch) is a =
      kept_concluded (dispatched m dispatch (out-Dispatch dispatch) now) (kept_dispatched dispatch (out-Dispatch dispatch) now a)
  kept_step (Command-F.Teardown peer id line) is a =
      kept_concluded (teardown peer id line job.took_out now) (kept_where_live peer id line job.took_out now (find (is_named peer id) now.live) a)
  kept_step (Command-F.Respond peer fetch line o) is a =
      kept_concluded (response m peer fetch line o now) (kept_open peer line fetch o (find (λ (other : OpenFetch O). other.number == fetch) now.fetches) is refl a)
  kept_step Command-F.Online is a = kept_rows now.rows.rows now a
  kept_step (Command-F.Layers peer) is a = a
  kept_step (Command-F.Flat peer) is a = a
  kept_step (Command-F.Gone peer) is a = kept_all_torn (filter (λ (live : LiveOperation O). live.peer == peer) now.live) now a

  -- what is kept by each change that the command may make to the state
  pub results_kept_by_command : Kept now → Kept (command_step m job now).state
  results_kept_by_command a = kept_step (out-Command job.command) refl a

module _ {O : Type 0} (P : Saying O) (k : Keeps P) (m : Meaning O) where
  -- rows that are offered at the opening
  pub kept_by_offers : (offers : List (Offered O)) (s : GatewayState O) → KeptIn P s → KeptIn P (all_offered m offers s).state
  kept_by_offers offers s a = kept_by_rows P m (keeps_mutation P k m) offers s a

  pub kept_by_command : (job : Job) (s : GatewayState O) → KeptIn P s → KeptIn P (command_step m job s).state
  kept_by_command job s a = results_kept_by_command P m s job (keeps_results P k m s job.command) a
