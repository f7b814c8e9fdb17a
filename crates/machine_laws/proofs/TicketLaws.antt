-- Tickets and fetches stay in order.
use Rattle.std.proofs.Common.{◌≡◌, ℕ, suc, ◌+◌, ◌-◌, ◌<◌, ◌≤◌, ◌==◌, Bool, true, false, not, if◌then◌else◌, List, [], ◌∷◌, ◌++◌, map, filter, find, length, set, is_some, Option, Some, None, refl, sym, ap, ◌∙◌, subst, arith, length-append, length-set, append-nil}
use Rattle.std.proofs.lemmas.List.Elements.{filter-append}
use Rattle.std.specs.List.{list_any, AllByRecursion}
use Rattle.cache_model.specs.declared.write.Write.{Write}
use Rattle.cache_model.specs.declared.kind.Kind.{Kind}
use Rattle.cache_model.specs.History.{History, Content, no_content, with_mark, content_of, filled}
use Rattle.queue_model.specs.Queue.{MutationQueue}
use Rattle.machine_model.specs.Operations.{Meaning}
use Rattle.machine_model.specs.State.{GatewayState, OpenFetch, PendingMutation, Job, first_state}
use Rattle.machine_model.specs.Responses.{in_row}
use Rattle.machine_model.specs.Rows.{Offered, all_offered}
use Rattle.machine_model.specs.Commands.{command_step}
use Rattle.machine_model.specs.Runs.{commands_taken}
use Rattle.machine_laws.specs.Tickets.{Ascend, of_queries, AreInOrder, IsInOrder}
use Rattle.machine_laws.proofs.Numbers.{all_weaker, all_push, all_filter, all_map, found_one, ascend_push, ascend_filter, ascend_map, ascend_among, single_push, single_filter, none_above}
use Rattle.machine_laws.proofs.Walk.{Keeps, ended_with, without_number, without_ticket, kept_by_command, kept_by_offers}
use Rattle.machine_laws.proofs.RunLaws.{kept_by_runs}

pub longer : (h : History) → length (h ++ no_content ∷ []) ≡ suc (length h)
longer h =
    let one : length (h ++ no_content ∷ []) ≡ length h + 1 = length-append h (no_content ∷ []) in
    omega (arith, one)

-- all are still drawn after one more ticket
drawn_more : {X : Type 0} (number : X → ℕ) (h : History) (xs : List X) → AllByRecursion (λ x. number x ≤ length h) xs → AllByRecursion (λ x. number x ≤ length (h ++ no_content ∷ [])) xs
drawn_more number h xs a =
    let one = longer h in
    all_weaker (λ x. number x ≤ length h) (λ x. number x ≤ length (h ++ no_content ∷ [])) (λ x l. omega (arith, l, one)) xs a

newest_drawn : (h : History) → suc (length h) ≤ length (h ++ no_content ∷ [])
newest_drawn h =
    let one = longer h in
    omega (arith, one)

module _ {O : Type 0} where
  abbrev number_of : OpenFetch O → ℕ
  number_of fetch = fetch.number

  abbrev ticket_of : OpenFetch O → ℕ
  ticket_of fetch = fetch.ticket

  abbrev kept_of : PendingMutation O → ℕ
  kept_of pending = pending.ticket

  abbrev is_query : OpenFetch O → Bool
  is_query fetch = is_some fetch.key

  -- one more fetch, under the next number
  numbered : (f : List (OpenFetch O)) (n : ℕ) (fetch : OpenFetch O) → fetch.number ≡ n → 0 < n → Ascend number_of 0 f → AllByRecursion (λ (other : OpenFetch O). other.number < n) f → Ascend number_of 0 (f ++ fetch ∷ [])
  numbered f n fetch e begun a below =
      ascend_push number_of 0 f fetch a (subst (λ m. AllByRecursion (λ (other : OpenFetch O). other.number < m) f) (sym e) below) (subst (λ m. 0 < m) (sym e) begun)

  below_more : (f : List (OpenFetch O)) (n : ℕ) (fetch : OpenFetch O) → fetch.number ≡ n → AllByRecursion (λ (other : OpenFetch O). other.number < n) f → AllByRecursion (λ (other : OpenFetch O). other.number < n + 1) (f ++ fetch ∷ [])
  below_more f n fetch e below =
      all_push (λ (other : OpenFetch O). other.number < n + 1) f fetch
      (all_weaker (λ (other : OpenFetch O). other.number < n) (λ (other : OpenFetch O). other.number < n + 1) (λ other l. omega (arith, l)) f below)
      (omega (arith, e))

  -- one more query
  query_behind : (f : List (OpenFetch O)) (fetch : OpenFetch O) (key : ℕ) → fetch.key ≡ Some key → of_queries (f ++ fetch ∷ []) ≡ of_queries f ++ fetch ∷ []
  query_behind f fetch key e = filter-append is_query f (fetch ∷ []) ∙ ap (λ (k : Option ℕ). of_queries f ++ (if is_some k then fetch ∷ [] else [])) e

  mutation_behind : (f : List (OpenFetch O)) (fetch : OpenFetch O) → fetch.key ≡ None → of_queries (f ++ fetch ∷ []) ≡ of_queries f
  mutation_behind f fetch e = filter-append is_query f (fetch ∷ []) ∙ ap (λ (k : Option ℕ). of_queries f ++ (if is_some k then fetch ∷ [] else [])) e ∙ append-nil (of_queries f)

  in_row_ticket : (ticket row : ℕ) (b : Bool) (pending : PendingMutation O) → (if b then record pending { row = Some row } else pending).ticket ≡ pending.ticket
  in_row_ticket ticket row true pending = refl
  in_row_ticket ticket row false pending = refl

  pub same_ticket : (ticket row : ℕ) (pending : PendingMutation O) → (in_row ticket row pending).ticket ≡ pending.ticket
  same_ticket ticket row pending = in_row_ticket ticket row (pending.ticket == ticket) pending

  below_next : (h : History) (xs : List (OpenFetch O)) → AllByRecursion (λ (fetch : OpenFetch O). fetch.ticket ≤ length h) xs → AllByRecursion (λ (fetch : OpenFetch O). fetch.ticket < suc (length h)) xs
  below_next h xs a = all_weaker (λ (fetch : OpenFetch O). fetch.ticket ≤ length h) (λ (fetch : OpenFetch O). fetch.ticket < suc (length h)) (λ fetch l. omega (arith, l)) xs a

  kept_below_next : (h : History) (xs : List (PendingMutation O)) → AllByRecursion (λ (pending : PendingMutation O). pending.ticket ≤ length h) xs → AllByRecursion (λ (pending : PendingMutation O). pending.ticket < suc (length h)) xs
  kept_below_next h xs a = all_weaker (λ (pending : PendingMutation O). pending.ticket ≤ length h) (λ (pending : PendingMutation O). pending.ticket < suc (length h)) (λ pending l. omega (arith, l)) xs a

  order_filled : (h : History) (f : List (OpenFetch O)) (m : List (PendingMutation O)) (n i : ℕ) (c : Content) → AreInOrder h f m n → AreInOrder (set h i c) f m n
  order_filled h f m n i c a = record {
    begun = a.begun;
    numbers = a.numbers;
    below = a.below;
    drawn = subst (λ l. AllByRecursion (λ (fetch : OpenFetch O). fetch.ticket ≤ l) f) (sym (length-set h i c)) a.drawn;
    single = a.single;
    queries = a.queries;
    known = subst (λ l. AllByRecursion (λ (pending : PendingMutation O). pending.ticket ≤ l) m) (sym (length-set h i c)) a.known;
    in_turn = a.in_turn;
  }

  order_query : (h : History) (f : List (OpenFetch O)) (m : List (PendingMutation O)) (n key : ℕ) (operation : O) → AreInOrder h f m n
      → AreInOrder (h ++ no_content ∷ []) (f ++ record { number = n; ticket = suc (length h); key = Some key; operation = operation } ∷ []) m (n + 1)
  order_query h f m n key operation a =
      let fetch : OpenFetch O = record { number = n; ticket = suc (length h); key = Some key; operation = operation } in record {
        begun = omega arith;
        numbers = numbered f n fetch refl a.begun a.numbers a.below;
        below = below_more f n fetch refl a.below;
        drawn = all_push (λ (other : OpenFetch O). other.ticket ≤ length (h ++ no_content ∷ [])) f fetch (drawn_more ticket_of h f a.drawn) (newest_drawn h);
        single = single_push ticket_of f fetch a.single (none_above ticket_of (length h) f a.drawn);
        queries = subst (Ascend ticket_of 0) (sym (query_behind f fetch key refl))
            (ascend_push ticket_of 0 (of_queries f) fetch a.queries (all_filter (λ (other : OpenFetch O). other.ticket < suc (length h)) is_query f (below_next h f a.drawn)) (omega arith));
        known = drawn_more kept_of h m a.known;
        in_turn = a.in_turn;
      }

  order_mutation : (h : History) (f : List (OpenFetch O)) (m : List (PendingMutation O)) (n : ℕ) (row : Option ℕ) (operation : O) → AreInOrder h f m n
      → AreInOrder (h ++ no_content ∷ []) (f ++ record { number = n; ticket = suc (length h); key = None; operation = operation } ∷ []) (m ++ record { ticket = suc (length h); row = row; operation = operation } ∷ []) (n + 1)
  order_mutation h f m n row operation a =
      let fetch : OpenFetch O = record { number = n; ticket = suc (length h); key = None; operation = operation } in
      let pending : PendingMutation O = record { ticket = suc (length h); row = row; operation = operation } in record {
        begun = omega arith;
        numbers = numbered f n fetch refl a.begun a.numbers a.below;
        below = below_more f n fetch refl a.below;
        drawn = all_push (λ (other : OpenFetch O). other.ticket ≤ length (h ++ no_content ∷ [])) f fetch (drawn_more ticket_of h f a.drawn) (newest_drawn h);
        single = single_push ticket_of f fetch a.single (none_above ticket_of (length h) f a.drawn);
        queries = subst (Ascend ticket_of 0) (sym (mutation_behind f fetch refl)) a.queries;
        known = all_push (λ (other : PendingMutation O). other.ticket ≤ length (h ++ no_content ∷ [])) m pending (drawn_more kept_of h m a.known) (newest_drawn h);
        in_turn = ascend_push kept_of 0 m pending a.in_turn (kept_below_next h m a.known) (omega arith);
      }

  order_again : (h : History) (f : List (OpenFetch O)) (m : List (PendingMutation O)) (n : ℕ) (test : PendingMutation O → Bool) (pending : PendingMutation O) → find test m ≡ Some pending
      → list_any (λ (fetch : OpenFetch O). fetch.ticket == pending.ticket) f ≡ false → AreInOrder h f m n
      → AreInOrder h (f ++ record { number = n; ticket = pending.ticket; key = None; operation = pending.operation } ∷ []) m (n + 1)
  order_again h f m n test pending found unsent a =
      let fetch : OpenFetch O = record { number = n; ticket = pending.ticket; key = None; operation = pending.operation } in record {
        begun = omega arith;
        numbers = numbered f n fetch refl a.begun a.numbers a.below;
        below = below_more f n fetch refl a.below;
        drawn = all_push (λ (other : OpenFetch O). other.ticket ≤ length h) f fetch a.drawn (found_one (λ (other : PendingMutation O). other.ticket ≤ length h) test m pending found a.known);
        single = single_push ticket_of f fetch a.single unsent;
        queries = subst (Ascend ticket_of 0) (sym (mutation_behind f fetch refl)) a.queries;
        known = a.known;
        in_turn = a.in_turn;
      }

  order_fetches : (h : History) (f : List (OpenFetch O)) (m : List (PendingMutation O)) (n : ℕ) (test : OpenFetch O → Bool) → AreInOrder h f m n → AreInOrder h (filter test f) m n
  order_fetches h f m n test a = record {
    begun = a.begun;
    numbers = ascend_filter number_of 0 test f a.numbers;
    below = all_filter (λ (fetch : OpenFetch O). fetch.number < n) test f a.below;
    drawn = all_filter (λ (fetch : OpenFetch O). fetch.ticket ≤ length h) test f a.drawn;
    single = single_filter ticket_of test f a.single;
    queries = ascend_among ticket_of is_query test f 0 a.queries;
    known = a.known;
    in_turn = a.in_turn;
  }

  order_mutations : (h : History) (f : List (OpenFetch O)) (m : List (PendingMutation O)) (n : ℕ) (test : PendingMutation O → Bool) → AreInOrder h f m n → AreInOrder h f (filter test m) n
  order_mutations h f m n test a = record {
    begun = a.begun;
    numbers = a.numbers;
    below = a.below;
    drawn = a.drawn;
    single = a.single;
    queries = a.queries;
    known = all_filter (λ (pending : PendingMutation O). pending.ticket ≤ length h) test m a.known;
    in_turn = ascend_filter kept_of 0 test m a.in_turn;
  }

  order_rowed : (h : History) (f : List (OpenFetch O)) (m : List (PendingMutation O)) (n ticket row : ℕ) → AreInOrder h f m n → AreInOrder h f (map (in_row ticket row) m) n
  order_rowed h f m n ticket row a = record {
    begun = a.begun;
    numbers = a.numbers;
    below = a.below;
    drawn = a.drawn;
    single = a.single;
    queries = a.queries;
    known = all_map (λ (pending : PendingMutation O). pending.ticket ≤ length h) (in_row ticket row) m
        (all_weaker (λ (pending : PendingMutation O). pending.ticket ≤ length h) (λ (pending : PendingMutation O). (in_row ticket row pending).ticket ≤ length h)
        (λ pending l. subst (λ t. t ≤ length h) (sym (same_ticket ticket row pending)) l) m a.known);
    in_turn = ascend_map kept_of (in_row ticket row) (same_ticket ticket row) 0 m a.in_turn;
  }

  order_ended : (h : History) (f : List (OpenFetch O)) (m : List (PendingMutation O)) (n ticket : ℕ) (writes : List Write) (kind : Kind) → AreInOrder h f m n → AreInOrder (ended_with h ticket writes kind) f m n
  order_ended h f m n ticket writes kind a =
      order_filled (filled h ticket writes kind) f m n (ticket - 1) (with_mark (content_of (filled h ticket writes kind) ticket))
      (order_filled h f m n (ticket - 1) (record { kind = kind; finished = false; writes = writes }) a)

  pub keeps_order : Keeps {O = O} (λ h f m n. AreInOrder h f m n)
  keeps_order = record {
    guessed = λ h f m n i c waits a. order_filled h f m n i c a;
    query = order_query;
    mutation = order_mutation;
    again = order_again;
    ended = λ h f m n test fetch writes kind found a.
        order_ended h (without_number fetch.number f) m n fetch.ticket writes kind (order_fetches h f m n (λ (other : OpenFetch O). not (other.number == fetch.number)) a);
    over = λ h f m n test fetch pending writes kind found waits a.
        order_ended h (without_number fetch.number f) (without_ticket pending.ticket m) n pending.ticket writes kind
        (order_mutations h (without_number fetch.number f) m n (λ (other : PendingMutation O). not (other.ticket == pending.ticket))
        (order_fetches h f m n (λ (other : OpenFetch O). not (other.number == fetch.number)) a));
    unanswered = λ h f m n test fetch found e a. order_fetches h f m n (λ (other : OpenFetch O). not (other.number == fetch.number)) a;
    rowed = order_rowed;
  }

  pub order_first : (rows : MutationQueue) → IsInOrder {O = O} (first_state rows)
  order_first rows = record { begun = omega arith; numbers = tt; below = tt; drawn = tt; single = tt; queries = tt; known = tt; in_turn = tt }

  pub tickets_in_order_at_first : (m : Meaning O) (rows : MutationQueue) (offers : List (Offered O)) → IsInOrder (all_offered m offers (first_state rows)).state
  tickets_in_order_at_first m rows offers = kept_by_offers {O = O} (λ h f ms n. AreInOrder h f ms n) keeps_order m offers (first_state rows) (order_first rows)

  pub tickets_in_order : (m : Meaning O) (job : Job) (s : GatewayState O) → IsInOrder s → IsInOrder (command_step m job s).state
  tickets_in_order m job s a = kept_by_command {O = O} (λ h f ms n. AreInOrder h f ms n) keeps_order m job s a

  pub tickets_in_order_in_runs : (n : ℕ) (m : Meaning O) (s : GatewayState O) → IsInOrder s → IsInOrder (commands_taken n m s).state
  tickets_in_order_in_runs n m s a =
      kept_by_runs (λ (state : GatewayState O). IsInOrder state) m (λ job state jobs b. tickets_in_order m job (record state { jobs = jobs }) b) n s a
