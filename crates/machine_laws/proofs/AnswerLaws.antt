-- After its final answer the ticket of a mutation is finished and closed.
use Rattle.std.proofs.Common.{◌≡◌, ℕ, zero, suc, ◌+◌, ◌-◌, ◌<◌, ◌==◌, ◌&&◌, Bool, true, false, not, is_some, is_none, if◌then◌else◌, List, [], ◌∷◌, ◌++◌, find, length, get_or, Option, Some, None, Result, Ok, Err, refl, sym, ◌∙◌, subst, arith, length-append, length-set, get_or-set_same, true≢false}
use Rattle.std.specs.Option.{option_map_or}
use Rattle.std.specs.List.{list_any}
use Rattle.gql_value.specs.declared.value.Value.{Value}
use Rattle.gql_value.specs.declared.outcome.Fault.{Fault}
use Rattle.gql_value.specs.declared.outcome.Fault.TheVariants.{F1, F2, F3, F4, F5, F6, F7, F8}
use Rattle.gql_value.specs.declared.outcome.Outcome.{Outcome}
use Rattle.gql_value.specs.declared.outcome.Outcome.TheVariants as outcome
use Rattle.cache_model.specs.declared.write.Write.{Write}
use Rattle.cache_model.specs.declared.kind.Kind.{Kind}
use Rattle.cache_model.specs.declared.kind.Kind.TheVariants.{Empty, Final}
use Rattle.cache_model.specs.History.{History, Content, no_content, with_mark, content_of, filled, finished}
use Rattle.machine_model.specs.declared.output.Ending.{Ending}
use Rattle.machine_model.specs.declared.output.Ending.TheVariants.{Outside}
use Rattle.machine_model.specs.Operations.{Meaning}
use Rattle.machine_model.specs.State.{GatewayState, LiveOperation, OpenFetch, PendingMutation}
use Rattle.machine_model.specs.Steps.{Change, stops, unmoved, followed_by}
use Rattle.machine_model.specs.Telling.{Turn, faulted}
use Rattle.machine_model.specs.Sequels.{concluded}
use Rattle.machine_model.specs.Teardowns.{closed}
use Rattle.machine_model.specs.Responses.{answer_turn, without_mutation, row_done, over, mutation_failed, mutation_written, mutation_put, mutation_unreached, mutation_ended, mutation_answered, pending_of, fetch_answered, answered_where_open, response}
use Rattle.machine_model.specs.Laws.{is_fetch_at, is_mutation_at, IsClosedIn, IsClosed}
use Rattle.machine_laws.specs.Answers.{fault_ends, ends, IsAloneFor}
use Rattle.machine_laws.proofs.Numbers.{differs, any_push}
use Rattle.machine_laws.proofs.Walk.{kept_by_what_follows}

front_of : (h : History) (c : Content) (place : ℕ) → place < length h → get_or (h ++ c ∷ []) place no_content ≡ get_or h place no_content
front_of [] c place l =
    let bad : ⊥ = omega arith in
    absurd bad
front_of (x ∷ h) c zero l = refl
front_of (x ∷ h) c (suc place) l =
    let below : place < length h = omega arith in
    front_of h c place below

module _ {O : Type 0} where
  -- a query that is sent draws another ticket
  closed_query : (place : ℕ) (c : Content) (h : History) (f : List (OpenFetch O)) (m : List (PendingMutation O)) (n key : ℕ) (operation : O) → IsClosedIn place c h f m
      → IsClosedIn place c (h ++ no_content ∷ []) (f ++ record { number = n; ticket = suc (length h); key = Some key; operation = operation } ∷ []) m
  closed_query place c h f m n key operation a =
      let fetch : OpenFetch O = record { number = n; ticket = suc (length h); key = Some key; operation = operation } in
      let within : place < length h = a.drawn in
      let longer : length (h ++ no_content ∷ []) ≡ length h + 1 = length-append h (no_content ∷ []) in record {
        drawn = omega (arith, within, longer);
        is = front_of h no_content place within ∙ a.is;
        unsent = any_push (is_fetch_at place) f fetch a.unsent (differs (suc (length h) - 1) place (λ e. omega (arith, within, e)));
        answered = a.answered;
      }

  pub closed_concluded : (place : ℕ) (c : Content) (m : Meaning O) (change : Change O) → IsClosed place c change.state → IsClosed place c (concluded m change).state
  closed_concluded place c m change a = kept_by_what_follows (λ h f ms n. IsClosedIn place c h f ms) (λ h f ms n key operation b. closed_query place c h f ms n key operation b) m change a

  -- a final content at a place for which nothing is open
  abbrev Ends : ℕ → GatewayState O → Type 0
  Ends place s = (c : Content) × (c.finished ≡ true) × IsClosed place c s

  ends_concluded : (place : ℕ) (m : Meaning O) (change : Change O) → Ends place change.state → Ends place (concluded m change).state
  ends_concluded place m change e =
      (e.0, e.1, closed_concluded place e.0 m change e.2)

  -- the ticket was drawn, and nothing is open for it once its mutation is over
  record IsFree (pending : PendingMutation O) (s : GatewayState O) : Type 0 where
    pub drawn : pending.ticket - 1 < length s.history
    pub unsent : list_any (is_fetch_at (pending.ticket - 1)) s.fetches ≡ false
    pub single : list_any (is_mutation_at (pending.ticket - 1)) (without_mutation pending.ticket s).mutations ≡ false

  closed_done : (place : ℕ) (c : Content) (row : Option ℕ) (s : GatewayState O) → IsClosed place c s → IsClosed place c (row_done row s)
  closed_done place c None s a = a
  closed_done place c (Some row) s a = a

  ends_over : (pending : PendingMutation O) (turn : LiveOperation O → Turn O) (writes : List Write) (kind : Kind) (s : GatewayState O) → IsFree pending s
      → Ends (pending.ticket - 1) (over pending turn (record s { history = finished (filled s.history pending.ticket writes kind) pending.ticket })).state
  ends_over pending turn writes kind s free =
      let place = pending.ticket - 1 in
      let before = filled s.history pending.ticket writes kind in
      let last = with_mark (content_of before pending.ticket) in
      let after = finished before pending.ticket in
      let first : length before ≡ length s.history = length-set s.history place (record { kind = kind; finished = false; writes = writes }) in
      let second : length after ≡ length before = length-set before place last in
      let within : place < length before = rw first free.drawn in
      let ended : IsClosed place last (without_mutation pending.ticket (record s { history = after })) = record {
        drawn = rw second within;
        is = rw get_or-set_same refl;
        unsent = free.unsent;
        answered = free.single;
      } in
      (last, refl, closed_done place last pending.row (without_mutation pending.ticket (record s { history = after })) ended)

  ends_failed : (m : Meaning O) (pending : PendingMutation O) (ending : Ending) (s : GatewayState O) → IsFree pending s → Ends (pending.ticket - 1) (mutation_failed m pending ending s).state
  ends_failed m pending ending s free = ends_over pending (faulted m ending) [] Empty s free

  ends_written : (m : Meaning O) (pending : PendingMutation O) (answer errors : Value) (s : GatewayState O) (written : Result (List Write) (List ℕ)) → IsFree pending s → Ends (pending.ticket - 1) (mutation_written m pending answer errors s written).state
  ends_written m pending answer errors s (Ok writes) free = ends_over pending (answer_turn m pending.operation answer errors) (writes ++ m.updates pending.operation answer) Final s free
  ends_written m pending answer errors s (Err path) free = ends_failed m pending (Outside (F4 path)) s free

  ends_without_guess : (m : Meaning O) (pending : PendingMutation O) (s : GatewayState O) (b : Bool) → not b ≡ true → IsFree pending s
      → Ends (pending.ticket - 1) (if b then mutation_put m pending (m.identity pending.operation) s else mutation_failed m pending (Outside F6) s).state
  ends_without_guess m pending s true h free = absurd (true≢false (sym h))
  ends_without_guess m pending s false h free = ends_failed m pending (Outside F6) s free

  ends_unreached : (m : Meaning O) (pending : PendingMutation O) (row : Option ℕ) (s : GatewayState O) → (is_none row && is_none (m.guess pending.operation)) ≡ true → IsFree pending s
      → Ends (pending.ticket - 1) (mutation_unreached m pending row s).state
  ends_unreached m pending (Some row) s h free = absurd (true≢false (sym h))
  ends_unreached m pending None s h free = ends_without_guess m pending s (is_some (m.guess pending.operation)) h free

  ends_fault : (m : Meaning O) (pending : PendingMutation O) (s : GatewayState O) (fault : Fault) → fault_ends m pending fault ≡ true → IsFree pending s → Ends (pending.ticket - 1) (mutation_ended m pending s fault).state
  ends_fault m pending s F6 h free = ends_unreached m pending pending.row s h free
  ends_fault m pending s F1 h free = ends_failed m pending (Outside F1) s free
  ends_fault m pending s F2 h free = ends_failed m pending (Outside F2) s free
  ends_fault m pending s (F3 path) h free = ends_failed m pending (Outside (F3 path)) s free
  ends_fault m pending s (F4 path) h free = ends_failed m pending (Outside (F4 path)) s free
  ends_fault m pending s (F5 status) h free = ends_failed m pending (Outside (F5 status)) s free
  ends_fault m pending s F7 h free = ends_failed m pending (Outside F7) s free
  ends_fault m pending s F8 h free = ends_failed m pending (Outside F8) s free

  ends_answered : (m : Meaning O) (pending : PendingMutation O) (s : GatewayState O) (o : Outcome) → ends m pending o ≡ true → IsFree pending s → Ends (pending.ticket - 1) (mutation_answered m pending s o).state
  ends_answered m pending s (outcome.Body answer errors) h free = ends_written m pending answer errors s (m.written pending.operation answer errors) free
  ends_answered m pending s (outcome.Bad fault) h free = ends_fault m pending s fault h free

  pub final_answers_close : (m : Meaning O) (s : GatewayState O) (fetch : OpenFetch O) (pending : PendingMutation O) (peer line : ℕ) (o : Outcome) → IsAloneFor fetch pending s → ends m pending o ≡ true
      → Ends (pending.ticket - 1) (concluded m (response m peer fetch.number line o s)).state
  final_answers_close m s fetch pending peer line o alone h =
      let place = pending.ticket - 1 in
      let later = closed fetch.number s in
      let free : IsFree pending later = record { drawn = alone.drawn; unsent = alone.unsent; single = alone.single } in
      let stopped : Change O = followed_by (unmoved later) stops in
      let of_mutation : Ends place (mutation_answered m pending later o).state = ends_answered m pending later o h free in
      let of_found : Ends place (option_map_or (λ (found : PendingMutation O). mutation_answered m found later o) (pending_of fetch.ticket later) stopped).state
      = subst (λ (found : Option (PendingMutation O)). Ends place (option_map_or (λ (one : PendingMutation O). mutation_answered m one later o) found stopped).state) (sym alone.waits) of_mutation in
      let of_fetch : Ends place (fetch_answered m fetch o later fetch.key).state
      = subst (λ (given : Option ℕ). Ends place (fetch_answered m fetch o later given).state) (sym alone.kind) of_found in
      let of_open : Ends place (answered_where_open m peer line o s (find (λ (other : OpenFetch O). other.number == fetch.number) s.fetches)).state
      = subst (λ (found : Option (OpenFetch O)). Ends place (answered_where_open m peer line o s found).state) (sym alone.found) of_fetch in
      ends_concluded place m (response m peer fetch.number line o s) of_open
