-- Whatever ends an open fetch or a mutation, its ticket is finished and closed.
use Rattle.std.proofs.Common.{◌≡◌, ◌≢◌, ℕ, suc, ◌-◌, ◌<◌, ◌≤◌, ◌==◌, ◌&&◌, ◌||◌, Bool, true, false, not, cond, if◌then◌else◌, List, [], ◌∷◌, ◌++◌, find, length, get_or, is_some, is_none, Option, Some, None, refl, sym, ap, ◌∙◌, subst, arith, length-set, get_or-set_same, true-eqb, false-eqb, true≢false}
use Rattle.std.proofs.lemmas.Bool.{eq-eqb}
use Rattle.std.specs.Option.{option_map_or}
use Rattle.std.specs.List.{list_any, AllByRecursion}
use Rattle.gql_value.specs.declared.outcome.Fault.TheVariants.{F6}
use Rattle.gql_value.specs.declared.outcome.Outcome.{Outcome}
use Rattle.gql_value.specs.declared.outcome.Outcome.TheVariants as outcome
use Rattle.cache_model.specs.declared.kind.Kind.TheVariants.{Empty}
use Rattle.cache_model.specs.History.{History, Content, no_content, with_mark, content_of, filled}
use Rattle.queue_model.specs.Queue.{MutationQueue}
use Rattle.machine_model.specs.declared.command.Command.{Command}
use Rattle.machine_model.specs.declared.output.Ending.{Ending}
use Rattle.machine_model.specs.declared.output.Ending.TheVariants.{Outside, QueueFull}
use Rattle.machine_model.specs.Operations.{Meaning}
use Rattle.machine_model.specs.State.{GatewayState, LiveOperation, LiveQuery, Listening, query, OpenFetch, PendingMutation, Job, is_named, is_for_key, first_state}
use Rattle.machine_model.specs.Steps.{Step, Change, stops, unmoved, followed_by}
use Rattle.machine_model.specs.Sequels.{concluded}
use Rattle.machine_model.specs.Teardowns.{has_listener, closed, without_named, forgotten, nothing_forgotten, key_left, left_behind, torn_down, torn_where_live, teardown}
use Rattle.machine_model.specs.Responses.{in_row, without_mutation, row_done, mutation_failed, has_row_number, is_full, mutation_queued, mutation_put, mutation_unreached, mutation_answered, pending_of, fetch_answered, answered_where_open, response}
use Rattle.machine_model.specs.Rows.{Offered, all_offered}
use Rattle.machine_model.specs.Commands.{command_step}
use Rattle.machine_model.specs.Runs.{AreRuns, with_command, commands_taken}
use Rattle.machine_model.specs.Laws.{is_fetch_at, is_mutation_at, IsClosed, IsAlone}
use Rattle.machine_laws.specs.Answers.{ends, IsAloneFor}
use Rattle.machine_laws.specs.Closings.{is_pending, is_open, AreApart, IsApart, IsOpen, given_up}
use Rattle.machine_model.proofs.Lists.{any_filter}
use Rattle.machine_laws.proofs.Numbers.{some_is, all_weaker, all_push, all_filter, all_both, all_passed, all_none, none_all, found_one, found_passes, found_alone, ascend_above, ascend_single, any_push, any_mapped, differs, not_same}
use Rattle.machine_laws.proofs.Walk.{Keeps, ended_with, without_number, without_ticket, kept_by_command}
use Rattle.machine_laws.proofs.TicketLaws.{longer, same_ticket}
use Rattle.machine_laws.proofs.RunLaws.{kept_by_runs}
use Rattle.machine_laws.proofs.AnswerLaws.{closed_concluded, final_answers_close}
use Rattle.machine_laws.proofs.ApartLaws.{length_ended, keeps_apart, tickets_apart_at_first, tickets_apart}

same_place : (a b : ℕ) → 0 < a → 0 < b → a - 1 ≡ b - 1 → a ≡ b
same_place a b x y e = omega (arith, x, y, e)

drawn_place : (a n : ℕ) → 0 < a → a ≤ n → a - 1 < n
drawn_place a n x y = omega (arith, x, y)

some_not_none : (key : Option ℕ) → is_some key ≡ true → is_none key ≡ false
some_not_none (Some key) e = refl
some_not_none None e = absurd (true≢false (sym e))

none_is : (key : Option ℕ) → is_none key ≡ true → key ≡ None
none_is None e = refl
none_is (Some key) e = absurd (true≢false (sym e))

-- two tests of equal numbers that tell the same
tests_alike : (a b c d : ℕ) → (a ≡ b → c ≡ d) → (c ≡ d → a ≡ b) → (a == b) ≡ (c == d)
tests_alike a b c d there back = by_test (c == d) refl
  where
    by_test : (t : Bool) → (c == d) ≡ t → (a == b) ≡ t
    by_test true e = eq-eqb a b (back (true-eqb c d (sym e)))
    by_test false e = differs a b (λ s. false-eqb c d (sym e) (there s))

longer_than : (place : ℕ) (h : History) → place < length h → place < length (h ++ no_content ∷ [])
longer_than place h l = omega (arith, l, longer h)

new_away : (place n : ℕ) → place < n → (suc n - 1 == place) ≡ false
new_away place n l = differs (suc n - 1) place (λ e. omega (arith, l, e))

longer_to : (ticket : ℕ) (h : History) → ticket ≤ length h → ticket ≤ length (h ++ no_content ∷ [])
longer_to ticket h l = omega (arith, l, longer h)

new_other : (ticket n : ℕ) → ticket ≤ n → suc n ≢ ticket
new_other ticket n l e = omega (arith, l, e)

keyed : (key : ℕ) (own : Option ℕ) → option_map_or (λ other. other == key) own false ≡ true → is_none own ≡ false
keyed key (Some own) e = refl
keyed key None e = absurd (true≢false (sym e))

none_cond : {X : Type 0} (b : Bool) (x : X) (rest : Option X) (any : Bool) → (rest ≡ None → any ≡ false) → cond b (Some x) rest ≡ None → (b || any) ≡ false
none_cond true x rest any k e = absurd (true≢false (sym (ap is_none e)))
none_cond false x rest any k e = k e

module _ {O : Type 0} where
  abbrev number_of : OpenFetch O → ℕ
  number_of fetch = fetch.number

  abbrev ticket_of : OpenFetch O → ℕ
  ticket_of fetch = fetch.ticket

  abbrev kept_of : PendingMutation O → ℕ
  kept_of pending = pending.ticket

  -- ---- fetches are alone

  -- no mutation is at the place of a ticket that none has
  none_at : (h : History) (f : List (OpenFetch O)) (m : List (PendingMutation O)) (n ticket : ℕ) → AreApart h f m n → 0 < ticket → is_pending ticket m ≡ false → list_any (is_mutation_at (ticket - 1)) m ≡ false
  none_at h f m n ticket a counted none =
      all_none (is_mutation_at (ticket - 1)) m
      (all_weaker (λ (pending : PendingMutation O). (0 < pending.ticket) × ((pending.ticket == ticket) ≡ false)) (λ (pending : PendingMutation O). is_mutation_at (ticket - 1) pending ≡ false)
      (λ pending both. differs (pending.ticket - 1) (ticket - 1) (λ e. false-eqb pending.ticket ticket (sym both.1) (same_place pending.ticket ticket both.0 counted e))) m
      (all_both (λ (pending : PendingMutation O). 0 < pending.ticket) (λ (pending : PendingMutation O). (pending.ticket == ticket) ≡ false) m
      (ascend_above kept_of 0 m a.order.in_turn) (none_all (λ (pending : PendingMutation O). pending.ticket == ticket) m none)))

  abbrev of_number : ℕ → OpenFetch O → Bool
  of_number number other = other.number == number

  -- no other fetch is at the place of an open one
  others_elsewhere : (h : History) (f : List (OpenFetch O)) (m : List (PendingMutation O)) (n : ℕ) (test : OpenFetch O → Bool) (fetch : OpenFetch O) → AreApart h f m n → find test f ≡ Some fetch
      → list_any (is_fetch_at (fetch.ticket - 1)) (without_number fetch.number f) ≡ false
  others_elsewhere h f m n test fetch a found =
      let counted : 0 < fetch.ticket = found_one (λ (one : OpenFetch O). 0 < one.ticket) test f fetch found a.counted in
      all_none (is_fetch_at (fetch.ticket - 1)) (without_number fetch.number f)
      (all_passed (λ (other : OpenFetch O). (0 < other.ticket) × (other.ticket ≡ fetch.ticket → other ≡ fetch)) (λ (other : OpenFetch O). is_fetch_at (fetch.ticket - 1) other ≡ false) (λ (other : OpenFetch O). not (other.number == fetch.number))
      (λ other both stays. differs (other.ticket - 1) (fetch.ticket - 1) (λ e. not_same other.number fetch.number stays (ap number_of (both.1 (same_place other.ticket fetch.ticket both.0 counted e))))) f
      (all_both (λ (other : OpenFetch O). 0 < other.ticket) (λ (other : OpenFetch O). other.ticket ≡ fetch.ticket → other ≡ fetch) f a.counted (found_alone ticket_of test f fetch a.order.single found)))

  pub queries_alone : (s : GatewayState O) (fetch : OpenFetch O) → IsApart s → IsOpen fetch s → is_some fetch.key ≡ true → IsAlone fetch s
  queries_alone s fetch a found is =
      let counted : 0 < fetch.ticket = found_one (λ (one : OpenFetch O). 0 < one.ticket) (of_number fetch.number) s.fetches fetch found a.counted in
      let drawn : fetch.ticket ≤ length s.history = found_one (λ (one : OpenFetch O). one.ticket ≤ length s.history) (of_number fetch.number) s.fetches fetch found a.order.drawn in
      let none = found_one (λ (one : OpenFetch O). is_pending one.ticket s.mutations ≡ is_none one.key) (of_number fetch.number) s.fetches fetch found a.apart ∙ some_not_none fetch.key is in record {
        drawn = drawn_place fetch.ticket (length s.history) counted drawn;
        found = found;
        unsent = others_elsewhere s.history s.fetches s.mutations s.next_fetch (of_number fetch.number) fetch a found;
        answered = none_at s.history s.fetches s.mutations s.next_fetch fetch.ticket a counted none;
      }

  none_found : (test : PendingMutation O → Bool) (m : List (PendingMutation O)) → find test m ≡ None → list_any test m ≡ false
  none_found test [] e = refl
  none_found test (x ∷ xs) e = none_cond (test x) x (find test xs) (list_any test xs) (none_found test xs) e

  -- no other mutation has the place of a ticket
  others_gone : (m : List (PendingMutation O)) (ticket : ℕ) → 0 < ticket → AllByRecursion (λ (pending : PendingMutation O). 0 < pending.ticket) m → list_any (is_mutation_at (ticket - 1)) (without_ticket ticket m) ≡ false
  others_gone m ticket counted all =
      all_none (is_mutation_at (ticket - 1)) (without_ticket ticket m)
      (all_passed (λ (pending : PendingMutation O). 0 < pending.ticket) (λ (pending : PendingMutation O). is_mutation_at (ticket - 1) pending ≡ false) (λ (pending : PendingMutation O). not (pending.ticket == ticket))
      (λ pending l stays. differs (pending.ticket - 1) (ticket - 1) (λ e. not_same pending.ticket ticket stays (same_place pending.ticket ticket l counted e))) m all)

  -- what some test passes is found
  is_found : (test : PendingMutation O → Bool) (m : List (PendingMutation O)) → list_any test m ≡ true → (pending : PendingMutation O) × (find test m ≡ Some pending)
  is_found test m any = by_find (find test m) refl
    where
      by_find : (found : Option (PendingMutation O)) → find test m ≡ found → (pending : PendingMutation O) × (find test m ≡ Some pending)
      by_find (Some pending) e = (pending, e)
      by_find None e = absurd (true≢false (sym any ∙ none_found test m e))

  pub mutations_alone : (s : GatewayState O) (fetch : OpenFetch O) → IsApart s → IsOpen fetch s → fetch.key ≡ None → (pending : PendingMutation O) × IsAloneFor fetch pending s
  mutations_alone s fetch a found is =
      let counted : 0 < fetch.ticket = found_one (λ (one : OpenFetch O). 0 < one.ticket) (of_number fetch.number) s.fetches fetch found a.counted in
      let drawn : fetch.ticket ≤ length s.history = found_one (λ (one : OpenFetch O). one.ticket ≤ length s.history) (of_number fetch.number) s.fetches fetch found a.order.drawn in
      let waits = found_one (λ (one : OpenFetch O). is_pending one.ticket s.mutations ≡ is_none one.key) (of_number fetch.number) s.fetches fetch found a.apart ∙ ap is_none is in
      let one = is_found (λ (pending : PendingMutation O). pending.ticket == fetch.ticket) s.mutations waits in
      let same : one.0.ticket ≡ fetch.ticket = true-eqb one.0.ticket fetch.ticket (sym (found_passes (λ (pending : PendingMutation O). pending.ticket == fetch.ticket) s.mutations one.0 one.1)) in (
        one.0,
        record {
          kind = is;
          found = found;
          waits = one.1;
          drawn = subst (λ t. t - 1 < length s.history) (sym same) (drawn_place fetch.ticket (length s.history) counted drawn);
          unsent = subst (λ t. list_any (is_fetch_at (t - 1)) (closed fetch.number s).fetches ≡ false) (sym same) (others_elsewhere s.history s.fetches s.mutations s.next_fetch (of_number fetch.number) fetch a found);
          single = others_gone s.mutations one.0.ticket (subst (λ t. 0 < t) (sym same) counted) (ascend_above kept_of 0 s.mutations a.order.in_turn);
        },
      )

  -- ---- whichever command ends them

  abbrev place_of : OpenFetch O → ℕ
  place_of fetch = fetch.ticket - 1

  -- the fetch of this number is the one for a place, while it is open, and no mutation is for that
  record OnlyFetch (number place : ℕ) (h : History) (f : List (OpenFetch O)) (m : List (PendingMutation O)) (n : ℕ) : Type 0 where
    pub apart : AreApart h f m n
    pub drawn : place < length h
    pub below : number < n
    pub only : AllByRecursion (λ (other : OpenFetch O). is_fetch_at place other ≡ (other.number == number)) f
    pub answered : list_any (is_mutation_at place) m ≡ false

  -- a fetch under the next number for another place
  only_more : (number place n : ℕ) (f : List (OpenFetch O)) (fetch : OpenFetch O) → fetch.number ≡ n → number < n → is_fetch_at place fetch ≡ false → AllByRecursion (λ (other : OpenFetch O). is_fetch_at place other ≡ (other.number == number)) f
      → AllByRecursion (λ (other : OpenFetch O). is_fetch_at place other ≡ (other.number == number)) (f ++ fetch ∷ [])
  only_more number place n f fetch e l away a =
      all_push (λ (other : OpenFetch O). is_fetch_at place other ≡ (other.number == number)) f fetch a (away ∙ sym (differs fetch.number number (λ s. omega (arith, e, s, l))))

  keeps_only : (number place : ℕ) → Keeps {O = O} (λ h f m n. OnlyFetch number place h f m n)
  keeps_only number place = record {
    guessed = λ h f m n i c waits a. record {
      apart = keeps_apart.guessed h f m n i c waits a.apart;
      drawn = subst (λ l. place < l) (sym (length-set h i c)) a.drawn;
      below = a.below;
      only = a.only;
      answered = a.answered;
    };
    query = λ h f m n key operation a.
        let fetch : OpenFetch O = record { number = n; ticket = suc (length h); key = Some key; operation = operation } in record {
          apart = keeps_apart.query h f m n key operation a.apart;
          drawn = longer_than place h a.drawn;
          below = omega (arith, a.below);
          only = only_more number place n f fetch refl a.below (new_away place (length h) a.drawn) a.only;
          answered = a.answered;
        };
    mutation = λ h f m n row operation a.
        let fetch : OpenFetch O = record { number = n; ticket = suc (length h); key = None; operation = operation } in
        let pending : PendingMutation O = record { ticket = suc (length h); row = row; operation = operation } in record {
          apart = keeps_apart.mutation h f m n row operation a.apart;
          drawn = longer_than place h a.drawn;
          below = omega (arith, a.below);
          only = only_more number place n f fetch refl a.below (new_away place (length h) a.drawn) a.only;
          answered = any_push (is_mutation_at place) m pending a.answered (new_away place (length h) a.drawn);
        };
    again = λ h f m n test pending found unsent a.
        let fetch : OpenFetch O = record { number = n; ticket = pending.ticket; key = None; operation = pending.operation } in record {
          apart = keeps_apart.again h f m n test pending found unsent a.apart;
          drawn = a.drawn;
          below = omega (arith, a.below);
          only = only_more number place n f fetch refl a.below (found_one (λ (one : PendingMutation O). is_mutation_at place one ≡ false) test m pending found (none_all (is_mutation_at place) m a.answered)) a.only;
          answered = a.answered;
        };
    ended = λ h f m n test fetch writes kind found a. record {
      apart = keeps_apart.ended h f m n test fetch writes kind found a.apart;
      drawn = subst (λ l. place < l) (sym (length_ended h fetch.ticket writes kind)) a.drawn;
      below = a.below;
      only = all_filter (λ (other : OpenFetch O). is_fetch_at place other ≡ (other.number == number)) (λ (other : OpenFetch O). not (other.number == fetch.number)) f a.only;
      answered = a.answered;
    };
    over = λ h f m n test fetch pending writes kind found waits a. record {
      apart = keeps_apart.over h f m n test fetch pending writes kind found waits a.apart;
      drawn = subst (λ l. place < l) (sym (length_ended h pending.ticket writes kind)) a.drawn;
      below = a.below;
      only = all_filter (λ (other : OpenFetch O). is_fetch_at place other ≡ (other.number == number)) (λ (other : OpenFetch O). not (other.number == fetch.number)) f a.only;
      answered = any_filter (is_mutation_at place) (λ (other : PendingMutation O). not (other.ticket == pending.ticket)) m a.answered;
    };
    unanswered = λ h f m n test fetch found e a. record {
      apart = keeps_apart.unanswered h f m n test fetch found e a.apart;
      drawn = a.drawn;
      below = a.below;
      only = all_filter (λ (other : OpenFetch O). is_fetch_at place other ≡ (other.number == number)) (λ (other : OpenFetch O). not (other.number == fetch.number)) f a.only;
      answered = a.answered;
    };
    rowed = λ h f m n ticket row a. record {
      apart = keeps_apart.rowed h f m n ticket row a.apart;
      drawn = a.drawn;
      below = a.below;
      only = a.only;
      answered = any_mapped kept_of (in_row ticket row) (same_ticket ticket row) (λ t. t - 1 == place) m ∙ a.answered;
    };
  }

  -- at first the open fetch is the one for its place
  only_first : (s : GatewayState O) (fetch : OpenFetch O) → IsApart s → IsOpen fetch s → AllByRecursion (λ (other : OpenFetch O). is_fetch_at (fetch.ticket - 1) other ≡ (other.number == fetch.number)) s.fetches
  only_first s fetch a found =
      let counted : 0 < fetch.ticket = found_one (λ (one : OpenFetch O). 0 < one.ticket) (of_number fetch.number) s.fetches fetch found a.counted in
      all_weaker
      (λ (other : OpenFetch O). (0 < other.ticket) × ((other.ticket ≡ fetch.ticket → other ≡ fetch) × (other.number ≡ fetch.number → other ≡ fetch)))
      (λ (other : OpenFetch O). is_fetch_at (fetch.ticket - 1) other ≡ (other.number == fetch.number))
      (λ other all. tests_alike (other.ticket - 1) (fetch.ticket - 1) other.number fetch.number
      (λ e. ap number_of (all.1.0 (same_place other.ticket fetch.ticket all.0 counted e))) (λ e. ap place_of (all.1.1 e))) s.fetches
      (all_both (λ (other : OpenFetch O). 0 < other.ticket) (λ (other : OpenFetch O). (other.ticket ≡ fetch.ticket → other ≡ fetch) × (other.number ≡ fetch.number → other ≡ fetch)) s.fetches a.counted
      (all_both (λ (other : OpenFetch O). other.ticket ≡ fetch.ticket → other ≡ fetch) (λ (other : OpenFetch O). other.number ≡ fetch.number → other ≡ fetch) s.fetches
      (found_alone ticket_of (of_number fetch.number) s.fetches fetch a.order.single found)
      (found_alone number_of (of_number fetch.number) s.fetches fetch (ascend_single number_of 0 s.fetches a.order.numbers) found)))

  -- nothing is for the place when the fetch is over
  closed_then : (number place : ℕ) (s : GatewayState O) → OnlyFetch number place s.history s.fetches s.mutations s.next_fetch → is_open number s ≡ false → (content : Content) × (content.finished ≡ true) × IsClosed place content s
  closed_then number place s a over =
      let content = get_or s.history place no_content in
      let unsent : list_any (is_fetch_at place) s.fetches ≡ false
      = all_none (is_fetch_at place) s.fetches
      (all_weaker (λ (other : OpenFetch O). (is_fetch_at place other ≡ (other.number == number)) × ((other.number == number) ≡ false)) (λ (other : OpenFetch O). is_fetch_at place other ≡ false)
      (λ other both. both.0 ∙ both.1) s.fetches
      (all_both (λ (other : OpenFetch O). is_fetch_at place other ≡ (other.number == number)) (λ (other : OpenFetch O). (other.number == number) ≡ false) s.fetches a.only (none_all (of_number number) s.fetches over))) in
      let closed : IsClosed place content s = record { drawn = a.drawn; is = refl; unsent = unsent; answered = a.answered } in
      (content, a.apart.finished place content closed, closed)

  pub queries_close : (m : Meaning O) (job : Job) (s : GatewayState O) (fetch : OpenFetch O) → IsApart s → IsOpen fetch s → is_some fetch.key ≡ true → is_open fetch.number (command_step m job s).state ≡ false
      → (content : Content) × (content.finished ≡ true) × IsClosed (fetch.ticket - 1) content (command_step m job s).state
  queries_close m job s fetch a found is over =
      let alone = queries_alone s fetch a found is in
      let first : OnlyFetch fetch.number (fetch.ticket - 1) s.history s.fetches s.mutations s.next_fetch = record {
        apart = a;
        drawn = alone.drawn;
        below = found_one (λ (one : OpenFetch O). one.number < s.next_fetch) (of_number fetch.number) s.fetches fetch found a.order.below;
        only = only_first s fetch a found;
        answered = alone.answered;
      } in
      closed_then fetch.number (fetch.ticket - 1) (command_step m job s).state
      (kept_by_command {O = O} (λ h f ms n. OnlyFetch fetch.number (fetch.ticket - 1) h f ms n) (keeps_only fetch.number (fetch.ticket - 1)) m job s first) over

  -- ---- mutations

  -- no query is sent for the ticket of a mutation
  record NoQuery (ticket : ℕ) (h : History) (f : List (OpenFetch O)) (m : List (PendingMutation O)) (n : ℕ) : Type 0 where
    pub apart : AreApart h f m n
    pub drawn : ticket ≤ length h
    pub kinds : AllByRecursion (λ (fetch : OpenFetch O). fetch.ticket ≡ ticket → fetch.key ≡ None) f

  keeps_kinds : (ticket : ℕ) → Keeps {O = O} (λ h f m n. NoQuery ticket h f m n)
  keeps_kinds ticket = record {
    guessed = λ h f m n i c waits a. record {
      apart = keeps_apart.guessed h f m n i c waits a.apart;
      drawn = subst (λ l. ticket ≤ l) (sym (length-set h i c)) a.drawn;
      kinds = a.kinds;
    };
    query = λ h f m n key operation a.
        let fetch : OpenFetch O = record { number = n; ticket = suc (length h); key = Some key; operation = operation } in record {
          apart = keeps_apart.query h f m n key operation a.apart;
          drawn = longer_to ticket h a.drawn;
          kinds = all_push (λ (one : OpenFetch O). one.ticket ≡ ticket → one.key ≡ None) f fetch a.kinds (λ e. absurd (new_other ticket (length h) a.drawn e));
        };
    mutation = λ h f m n row operation a.
        let fetch : OpenFetch O = record { number = n; ticket = suc (length h); key = None; operation = operation } in record {
          apart = keeps_apart.mutation h f m n row operation a.apart;
          drawn = longer_to ticket h a.drawn;
          kinds = all_push (λ (one : OpenFetch O). one.ticket ≡ ticket → one.key ≡ None) f fetch a.kinds (λ e. refl);
        };
    again = λ h f m n test pending found unsent a.
        let fetch : OpenFetch O = record { number = n; ticket = pending.ticket; key = None; operation = pending.operation } in record {
          apart = keeps_apart.again h f m n test pending found unsent a.apart;
          drawn = a.drawn;
          kinds = all_push (λ (one : OpenFetch O). one.ticket ≡ ticket → one.key ≡ None) f fetch a.kinds (λ e. refl);
        };
    ended = λ h f m n test fetch writes kind found a. record {
      apart = keeps_apart.ended h f m n test fetch writes kind found a.apart;
      drawn = subst (λ l. ticket ≤ l) (sym (length_ended h fetch.ticket writes kind)) a.drawn;
      kinds = all_filter (λ (one : OpenFetch O). one.ticket ≡ ticket → one.key ≡ None) (λ (other : OpenFetch O). not (other.number == fetch.number)) f a.kinds;
    };
    over = λ h f m n test fetch pending writes kind found waits a. record {
      apart = keeps_apart.over h f m n test fetch pending writes kind found waits a.apart;
      drawn = subst (λ l. ticket ≤ l) (sym (length_ended h pending.ticket writes kind)) a.drawn;
      kinds = all_filter (λ (one : OpenFetch O). one.ticket ≡ ticket → one.key ≡ None) (λ (other : OpenFetch O). not (other.number == fetch.number)) f a.kinds;
    };
    unanswered = λ h f m n test fetch found e a. record {
      apart = keeps_apart.unanswered h f m n test fetch found e a.apart;
      drawn = a.drawn;
      kinds = all_filter (λ (one : OpenFetch O). one.ticket ≡ ticket → one.key ≡ None) (λ (other : OpenFetch O). not (other.number == fetch.number)) f a.kinds;
    };
    rowed = λ h f m n other row a. record {
      apart = keeps_apart.rowed h f m n other row a.apart;
      drawn = a.drawn;
      kinds = a.kinds;
    };
  }

  kinds_first : (s : GatewayState O) (ticket : ℕ) → IsApart s → is_pending ticket s.mutations ≡ true → AllByRecursion (λ (fetch : OpenFetch O). fetch.ticket ≡ ticket → fetch.key ≡ None) s.fetches
  kinds_first s ticket a waits =
      all_weaker (λ (fetch : OpenFetch O). is_pending fetch.ticket s.mutations ≡ is_none fetch.key) (λ (fetch : OpenFetch O). fetch.ticket ≡ ticket → fetch.key ≡ None)
      (λ fetch e same. none_is fetch.key (sym e ∙ ap (λ t. is_pending t s.mutations) same ∙ waits)) s.fetches a.apart

  closed_over : (ticket : ℕ) (s : GatewayState O) → 0 < ticket → NoQuery ticket s.history s.fetches s.mutations s.next_fetch → is_pending ticket s.mutations ≡ false → (content : Content) × (content.finished ≡ true) × IsClosed (ticket - 1) content s
  closed_over ticket s counted a over =
      let place = ticket - 1 in
      let content = get_or s.history place no_content in
      let unsent : list_any (is_fetch_at place) s.fetches ≡ false
      = all_none (is_fetch_at place) s.fetches
      (all_weaker (λ (fetch : OpenFetch O). (0 < fetch.ticket) × ((fetch.ticket ≡ ticket → fetch.key ≡ None) × (is_pending fetch.ticket s.mutations ≡ is_none fetch.key))) (λ (fetch : OpenFetch O). is_fetch_at place fetch ≡ false)
      (λ fetch all. differs (fetch.ticket - 1) place (λ e.
      let same : fetch.ticket ≡ ticket = same_place fetch.ticket ticket all.0 counted e in
      true≢false (sym (all.1.1 ∙ ap is_none (all.1.0 same)) ∙ ap (λ t. is_pending t s.mutations) same ∙ over))) s.fetches
      (all_both (λ (fetch : OpenFetch O). 0 < fetch.ticket) (λ (fetch : OpenFetch O). (fetch.ticket ≡ ticket → fetch.key ≡ None) × (is_pending fetch.ticket s.mutations ≡ is_none fetch.key)) s.fetches a.apart.counted
      (all_both (λ (fetch : OpenFetch O). fetch.ticket ≡ ticket → fetch.key ≡ None) (λ (fetch : OpenFetch O). is_pending fetch.ticket s.mutations ≡ is_none fetch.key) s.fetches a.kinds a.apart.apart))) in
      let closed : IsClosed place content s = record {
        drawn = drawn_place ticket (length s.history) counted a.drawn;
        is = refl;
        unsent = unsent;
        answered = none_at s.history s.fetches s.mutations s.next_fetch ticket a.apart counted over;
      } in
      (content, a.apart.finished place content closed, closed)

  pub mutations_close : (m : Meaning O) (job : Job) (s : GatewayState O) (ticket : ℕ) → IsApart s → is_pending ticket s.mutations ≡ true → is_pending ticket (command_step m job s).state.mutations ≡ false
      → (content : Content) × (content.finished ≡ true) × IsClosed (ticket - 1) content (command_step m job s).state
  mutations_close m job s ticket a waits over =
      let one = is_found (λ (pending : PendingMutation O). pending.ticket == ticket) s.mutations waits in
      let same : one.0.ticket ≡ ticket = true-eqb one.0.ticket ticket (sym (found_passes (λ (pending : PendingMutation O). pending.ticket == ticket) s.mutations one.0 one.1)) in
      let counted : 0 < ticket = subst (λ t. 0 < t) same (found_one (λ (pending : PendingMutation O). 0 < pending.ticket) (λ (pending : PendingMutation O). pending.ticket == ticket) s.mutations one.0 one.1 (ascend_above kept_of 0 s.mutations a.order.in_turn)) in
      let drawn : ticket ≤ length s.history = subst (λ t. t ≤ length s.history) same (found_one (λ (pending : PendingMutation O). pending.ticket ≤ length s.history) (λ (pending : PendingMutation O). pending.ticket == ticket) s.mutations one.0 one.1 a.order.known) in
      let first : NoQuery ticket s.history s.fetches s.mutations s.next_fetch = record { apart = a; drawn = drawn; kinds = kinds_first s ticket a waits } in
      closed_over ticket (command_step m job s).state counted
      (kept_by_command {O = O} (λ h f ms n. NoQuery ticket h f ms n) (keeps_kinds ticket) m job s first) over

  -- ---- teardowns

  -- the ticket of a query's fetch that is forgotten is emptied and closed
  forgotten_closes : (s : GatewayState O) (key : ℕ) (fetch : OpenFetch O) → IsApart s → find (is_for_key key) s.fetches ≡ Some fetch → IsClosed (fetch.ticket - 1) given_up (forgotten s fetch).state
  forgotten_closes s key fetch a found =
      let place = fetch.ticket - 1 in
      let first : Content = record { kind = Empty; finished = false; writes = [] } in
      let before = filled s.history fetch.ticket [] Empty in
      let counted : 0 < fetch.ticket = found_one (λ (one : OpenFetch O). 0 < one.ticket) (is_for_key key) s.fetches fetch found a.counted in
      let drawn : fetch.ticket ≤ length s.history = found_one (λ (one : OpenFetch O). one.ticket ≤ length s.history) (is_for_key key) s.fetches fetch found a.order.drawn in
      let within : place < length s.history = drawn_place fetch.ticket (length s.history) counted drawn in
      let none = found_one (λ (one : OpenFetch O). is_pending one.ticket s.mutations ≡ is_none one.key) (is_for_key key) s.fetches fetch found a.apart ∙ keyed key fetch.key (found_passes (is_for_key key) s.fetches fetch found) in record {
        drawn = subst (λ l. place < l) (sym (length_ended s.history fetch.ticket [] Empty)) within;
        is = get_or-set_same before place (with_mark (content_of before fetch.ticket)) no_content (subst (λ l. place < l) (sym (length-set s.history place first)) within)
            ∙ ap with_mark (get_or-set_same s.history place first no_content within);
        unsent = others_elsewhere s.history s.fetches s.mutations s.next_fetch (is_for_key key) fetch a found;
        answered = none_at s.history s.fetches s.mutations s.next_fetch fetch.ticket a counted none;
      }

  pub teardowns_close : (m : Meaning O) (s : GatewayState O) (peer id line : ℕ) (took_out : Bool) (live : LiveOperation O) (l : LiveQuery O) (fetch : OpenFetch O)
      → IsApart s → find (is_named peer id) s.live ≡ Some live → live.listens ≡ query l → has_listener (without_named peer id s) l.key ≡ false → find (is_for_key l.key) s.fetches ≡ Some fetch
      → IsClosed (fetch.ticket - 1) given_up (concluded m (teardown peer id line took_out s)).state
  teardowns_close m s peer id line took_out live l fetch a named listens last found =
      let place = fetch.ticket - 1 in
      let left = without_named peer id s in
      let of_fetch : IsClosed place given_up (forgotten left fetch).state = forgotten_closes left l.key fetch a found in
      let of_key : IsClosed place given_up (key_left l.key left).state
      = subst (λ (found : Option (OpenFetch O)). IsClosed place given_up (option_map_or (forgotten left) found (nothing_forgotten left)).state) (sym found) of_fetch in
      let of_last : IsClosed place given_up (left_behind (query l) left).state
      = subst (λ (more : Bool). IsClosed place given_up (if more then nothing_forgotten left else key_left l.key left).state) (sym last) of_key in
      let of_query : IsClosed place given_up (torn_down peer id live.listens s).state
      = subst (λ (own : Listening O). IsClosed place given_up (left_behind own left).state) (sym listens) of_last in
      let of_live : IsClosed place given_up (teardown peer id line took_out s).state
      = subst (λ (one : Option (LiveOperation O)). IsClosed place given_up (torn_where_live peer id line took_out s one).state) (sym named) of_query in
      closed_concluded place given_up m (teardown peer id line took_out s) of_live

  -- ---- runs

  apart_in_steps : (n : ℕ) (m : Meaning O) (s : GatewayState O) → IsApart s → IsApart (commands_taken n m s).state
  apart_in_steps n m s a = kept_by_runs (λ (state : GatewayState O). IsApart state) m (λ job state jobs b. tickets_apart m job (record state { jobs = jobs }) b) n s a

  apart_in_runs : (m : Meaning O) (commands : List Command) (s : GatewayState O) (step : Step O) → AreRuns m commands s step → IsApart s → IsApart step.state
  apart_in_runs m [] s step e a = subst (λ (one : Step O). IsApart one.state) (sym e) a
  apart_in_runs m (command ∷ commands) s step r a =
      let first : IsApart r.0.state = subst (λ (one : Step O). IsApart one.state) (sym r.2.done) (apart_in_steps r.2.commands m (with_command command s) a) in
      let rest : IsApart r.1.state = apart_in_runs m commands r.0.state r.1 r.3 first in
      subst (λ (one : Step O). IsApart one.state) (sym r.4) rest

  pub tickets_apart_in_runs : (m : Meaning O) (rows : MutationQueue) (offers : List (Offered O)) (commands : List Command) (step : Step O) → AreRuns m commands (all_offered m offers (first_state rows)).state step → IsApart step.state
  tickets_apart_in_runs m rows offers commands step r =
      apart_in_runs m commands (all_offered m offers (first_state rows)).state step r (tickets_apart_at_first m rows offers)

  -- ---- answers

  pub open_mutations_close : (m : Meaning O) (s : GatewayState O) (fetch : OpenFetch O) (pending : PendingMutation O) (peer line : ℕ) (o : Outcome)
      → IsApart s → IsOpen fetch s → fetch.key ≡ None → pending_of fetch.ticket s ≡ Some pending → ends m pending o ≡ true
      → (content : Content) × (content.finished ≡ true) × IsClosed (pending.ticket - 1) content (concluded m (response m peer fetch.number line o s)).state
  open_mutations_close m s fetch pending peer line o a found is waits last =
      let one = mutations_alone s fetch a found is in
      let same : one.0 ≡ pending = some_is one.0 pending (sym one.1.waits ∙ waits) in
      final_answers_close m s fetch pending peer line o (subst (λ (other : PendingMutation O). IsAloneFor fetch other s) same one.1) last

  -- ---- a full queue

  done_closes : (place : ℕ) (c : Content) (row : Option ℕ) (s : GatewayState O) → IsClosed place c s → IsClosed place c (row_done row s)
  done_closes place c None s a = a
  done_closes place c (Some row) s a = a

  -- a mutation that is alone and fails leaves its ticket emptied and closed
  failed_closes : (m : Meaning O) (s : GatewayState O) (fetch : OpenFetch O) (pending : PendingMutation O) (ending : Ending) → IsAloneFor fetch pending s
      → IsClosed (pending.ticket - 1) given_up (mutation_failed m pending ending (closed fetch.number s)).state
  failed_closes m s fetch pending ending alone =
      let place = pending.ticket - 1 in
      let first : Content = record { kind = Empty; finished = false; writes = [] } in
      let before = filled s.history pending.ticket [] Empty in
      let after = without_mutation pending.ticket (record (closed fetch.number s) { history = ended_with s.history pending.ticket [] Empty }) in
      let ended : IsClosed place given_up after = record {
        drawn = subst (λ l. place < l) (sym (length_ended s.history pending.ticket [] Empty)) alone.drawn;
        is = get_or-set_same before place (with_mark (content_of before pending.ticket)) no_content (subst (λ l. place < l) (sym (length-set s.history place first)) alone.drawn)
            ∙ ap with_mark (get_or-set_same s.history place first no_content alone.drawn);
        unsent = alone.unsent;
        answered = alone.single;
      } in
      done_closes place given_up pending.row after ended

  pub full_queues_close : (m : Meaning O) (s : GatewayState O) (fetch : OpenFetch O) (pending : PendingMutation O) (peer line : ℕ)
      → IsApart s → IsOpen fetch s → fetch.key ≡ None → pending_of fetch.ticket s ≡ Some pending → pending.row ≡ None → is_some (m.guess pending.operation) ≡ true
      → (has_row_number s.rows && is_full s.rows (m.identity pending.operation)) ≡ true
      → IsClosed (pending.ticket - 1) given_up (concluded m (response m peer fetch.number line (outcome.Bad F6) s)).state
  full_queues_close m s fetch pending peer line a found is waits rowless guessed full =
      let place = pending.ticket - 1 in
      let later = closed fetch.number s in
      let identity = m.identity pending.operation in
      let one = mutations_alone s fetch a found is in
      let same : one.0 ≡ pending = some_is one.0 pending (sym one.1.waits ∙ waits) in
      let alone : IsAloneFor fetch pending s = subst (λ (other : PendingMutation O). IsAloneFor fetch other s) same one.1 in
      let failed : IsClosed place given_up (mutation_failed m pending QueueFull later).state = failed_closes m s fetch pending QueueFull alone in
      let put : IsClosed place given_up (mutation_put m pending identity later).state
      = subst (λ (b : Bool). IsClosed place given_up (if b then mutation_failed m pending QueueFull later else mutation_queued pending identity later).state) (sym full) failed in
      let of_none : IsClosed place given_up (mutation_unreached m pending None later).state
      = subst (λ (b : Bool). IsClosed place given_up (if b then mutation_put m pending identity later else mutation_failed m pending (Outside F6) later).state) (sym guessed) put in
      let of_row : IsClosed place given_up (mutation_answered m pending later (outcome.Bad F6)).state
      = subst (λ (row : Option ℕ). IsClosed place given_up (mutation_unreached m pending row later).state) (sym rowless) of_none in
      let stopped : Change O = followed_by (unmoved later) stops in
      let of_found : IsClosed place given_up (fetch_answered m fetch (outcome.Bad F6) later None).state
      = subst (λ (found : Option (PendingMutation O)). IsClosed place given_up (option_map_or (λ (one : PendingMutation O). mutation_answered m one later (outcome.Bad F6)) found stopped).state) (sym waits) of_row in
      let of_fetch : IsClosed place given_up (fetch_answered m fetch (outcome.Bad F6) later fetch.key).state
      = subst (λ (given : Option ℕ). IsClosed place given_up (fetch_answered m fetch (outcome.Bad F6) later given).state) (sym is) of_found in
      let of_open : IsClosed place given_up (response m peer fetch.number line (outcome.Bad F6) s).state
      = subst (λ (found : Option (OpenFetch O)). IsClosed place given_up (answered_where_open m peer line (outcome.Bad F6) s found).state) (sym found) of_fetch in
      closed_concluded place given_up m (response m peer fetch.number line (outcome.Bad F6) s) of_open
