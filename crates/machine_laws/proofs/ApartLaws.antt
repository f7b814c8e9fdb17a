-- Open fetches stay apart, and what nothing is open for stays finished.
use Rattle.std.proofs.Common.{◌≡◌, ◌≢◌, ℕ, zero, suc, ◌-◌, ◌<◌, ◌≤◌, ◌==◌, Bool, true, false, not, List, [], ◌∷◌, ◌++◌, map, find, length, get_or, set, is_none, Some, None, refl, sym, ap, ◌∙◌, subst, arith, length-set, get_or-set_same, get_or-set_other, true-eqb, false-eqb, true≢false}
use Rattle.std.proofs.lemmas.Bool.{eq-eqb}
use Rattle.std.specs.List.{list_any, AllByRecursion}
use Rattle.cache_model.specs.declared.write.Write.{Write}
use Rattle.cache_model.specs.declared.kind.Kind.{Kind}
use Rattle.cache_model.specs.History.{History, Content, no_content, with_mark, content_of, filled}
use Rattle.queue_model.specs.Queue.{MutationQueue}
use Rattle.machine_model.specs.Operations.{Meaning}
use Rattle.machine_model.specs.State.{GatewayState, OpenFetch, PendingMutation, Job, first_state}
use Rattle.machine_model.specs.Responses.{in_row}
use Rattle.machine_model.specs.Rows.{Offered, all_offered}
use Rattle.machine_model.specs.Commands.{command_step}
use Rattle.machine_model.specs.Laws.{is_fetch_at, is_mutation_at, IsClosedIn}
use Rattle.machine_laws.specs.Tickets.{Ascend, AreSingle}
use Rattle.machine_laws.specs.Closings.{is_pending, AreApart, IsApart}
use Rattle.machine_laws.proofs.Numbers.{all_weaker, all_push, all_filter, all_both, all_passed, all_none, all_of, none_all, none_above, found_one, found_passes, found_any, found_alone, ascend_above, ascend_single, any_last, any_push_same, any_mapped, any_without, any_front, any_unfiltered, differs, not_same, not_apart}
use Rattle.machine_laws.proofs.Walk.{Keeps, ended_with, without_number, without_ticket, kept_by_command, kept_by_offers}
use Rattle.machine_laws.proofs.TicketLaws.{longer, same_ticket, keeps_order, order_first}

front_of : (h : History) (c : Content) (place : ℕ) → place < length h → get_or (h ++ c ∷ []) place no_content ≡ get_or h place no_content
front_of [] c place l =
    let bad : ⊥ = omega arith in
    absurd bad
front_of (x ∷ h) c zero l = refl
front_of (x ∷ h) c (suc place) l =
    let below : place < length h = omega arith in
    front_of h c place below

below_last : (place n : ℕ) → place < suc n → place ≢ n → place < n
below_last zero zero l d = absurd (d refl)
below_last zero (suc n) l d = omega arith
below_last (suc place) zero l d =
    let bad : ⊥ = omega arith in
    absurd bad
below_last (suc place) (suc n) l d =
    let less : place < suc n = omega arith in
    let before : place < n = below_last place n less (λ e. d (ap suc e)) in
    omega arith

-- the content of another place after a ticket got its last
elsewhere : (h : History) (ticket : ℕ) (writes : List Write) (kind : Kind) (place : ℕ) → place ≢ ticket - 1 → get_or (ended_with h ticket writes kind) place no_content ≡ get_or h place no_content
elsewhere h ticket writes kind place n =
    get_or-set_other (filled h ticket writes kind) (ticket - 1) place (with_mark (content_of (filled h ticket writes kind) ticket)) no_content n
    ∙ get_or-set_other h (ticket - 1) place (record { kind = kind; finished = false; writes = writes }) no_content n

pub length_ended : (h : History) (ticket : ℕ) (writes : List Write) (kind : Kind) → length (ended_with h ticket writes kind) ≡ length h
length_ended h ticket writes kind =
    length-set (filled h ticket writes kind) (ticket - 1) (with_mark (content_of (filled h ticket writes kind) ticket))
    ∙ length-set h (ticket - 1) (record { kind = kind; finished = false; writes = writes })

module _ {O : Type 0} where
  abbrev number_of : OpenFetch O → ℕ
  number_of fetch = fetch.number

  abbrev ticket_of : OpenFetch O → ℕ
  ticket_of fetch = fetch.ticket

  abbrev kept_of : PendingMutation O → ℕ
  kept_of pending = pending.ticket

  -- ---- what nothing is open for is finished

  abbrev Finished : History → List (OpenFetch O) → List (PendingMutation O) → Type 0
  Finished h f m = (place : ℕ) (content : Content) → IsClosedIn place content h f m → content.finished ≡ true

  finished_guessed : (h : History) (f : List (OpenFetch O)) (m : List (PendingMutation O)) (i : ℕ) (c : Content) → list_any (is_mutation_at i) m ≡ true → Finished h f m → Finished (set h i c) f m
  finished_guessed h f m i c waits k place content a =
      let other : place ≢ i = λ s. true≢false (sym waits ∙ ap (λ j. list_any (is_mutation_at j) m) (sym s) ∙ a.answered) in
      k place content (record { drawn = subst (λ l. place < l) (length-set h i c) a.drawn; is = sym (get_or-set_other h i place c no_content other) ∙ a.is; unsent = a.unsent; answered = a.answered })

  finished_drawn : (h : History) (f : List (OpenFetch O)) (m : List (PendingMutation O)) (fetch : OpenFetch O) → fetch.ticket ≡ suc (length h) → Finished h f m → Finished (h ++ no_content ∷ []) (f ++ fetch ∷ []) m
  finished_drawn h f m fetch e k place content a =
      let s = any_front (is_fetch_at place) f fetch a.unsent in
      let n : fetch.ticket - 1 ≢ place = false-eqb (fetch.ticket - 1) place (sym s.1) in
      let apart : place ≢ length h = λ same. n (omega (arith, e, same)) in
      let less : place < suc (length h) = subst (λ l. place < l) (longer h) a.drawn in
      let within : place < length h = below_last place (length h) less apart in
      k place content (record { drawn = within; is = sym (front_of h no_content place within) ∙ a.is; unsent = s.0; answered = a.answered })

  finished_joined : (h : History) (f : List (OpenFetch O)) (m : List (PendingMutation O)) (pending : PendingMutation O) → Finished h f m → Finished h f (m ++ pending ∷ [])
  finished_joined h f m pending k place content a =
      k place content (record { drawn = a.drawn; is = a.is; unsent = a.unsent; answered = (any_front (is_mutation_at place) m pending a.answered).0 })

  finished_sent : (h : History) (f : List (OpenFetch O)) (m : List (PendingMutation O)) (fetch : OpenFetch O) → Finished h f m → Finished h (f ++ fetch ∷ []) m
  finished_sent h f m fetch k place content a =
      k place content (record { drawn = a.drawn; is = a.is; unsent = (any_front (is_fetch_at place) f fetch a.unsent).0; answered = a.answered })

  -- nothing was open at another place than that of the fetch, where nothing is without it
  fetch_elsewhere : (f : List (OpenFetch O)) (test : OpenFetch O → Bool) (fetch : OpenFetch O) (place : ℕ) → Ascend number_of 0 f → find test f ≡ Some fetch → place ≢ fetch.ticket - 1
      → list_any (is_fetch_at place) (without_number fetch.number f) ≡ false → list_any (is_fetch_at place) f ≡ false
  fetch_elsewhere f test fetch place numbers found n a =
      any_unfiltered (is_fetch_at place) (λ (other : OpenFetch O). not (other.number == fetch.number)) f
      (all_weaker (λ (other : OpenFetch O). other.number ≡ fetch.number → other ≡ fetch) (λ (other : OpenFetch O). not (other.number == fetch.number) ≡ false → is_fetch_at place other ≡ false)
      (λ other same gone. differs (other.ticket - 1) place (λ e. n (sym e ∙ ap (λ (one : OpenFetch O). one.ticket - 1) (same (not_apart other.number fetch.number gone))))) f
      (found_alone number_of test f fetch (ascend_single number_of 0 f numbers) found)) a

  mutation_elsewhere : (m : List (PendingMutation O)) (ticket place : ℕ) → place ≢ ticket - 1 → list_any (is_mutation_at place) (without_ticket ticket m) ≡ false → list_any (is_mutation_at place) m ≡ false
  mutation_elsewhere m ticket place n a =
      any_unfiltered (is_mutation_at place) (λ (other : PendingMutation O). not (other.ticket == ticket)) m
      (all_of (λ (other : PendingMutation O). not (other.ticket == ticket) ≡ false → is_mutation_at place other ≡ false)
      (λ other gone. differs (other.ticket - 1) place (λ e. n (sym e ∙ ap (λ t. t - 1) (not_apart other.ticket ticket gone)))) m) a

  -- a ticket got its last content, and nothing left but what was open for it
  finished_ended : (h : History) (f g : List (OpenFetch O)) (m l : List (PendingMutation O)) (ticket : ℕ) (writes : List Write) (kind : Kind)
      → ((place : ℕ) → place ≢ ticket - 1 → list_any (is_fetch_at place) g ≡ false → list_any (is_fetch_at place) f ≡ false)
      → ((place : ℕ) → place ≢ ticket - 1 → list_any (is_mutation_at place) l ≡ false → list_any (is_mutation_at place) m ≡ false)
      → Finished h f m → Finished (ended_with h ticket writes kind) g l
  finished_ended h f g m l ticket writes kind unsent answered k place content a = by_test (place == ticket - 1) refl
    where
      by_test : (b : Bool) → (place == ticket - 1) ≡ b → content.finished ≡ true
      by_test true e =
          let here : place ≡ ticket - 1 = true-eqb place (ticket - 1) (sym e) in
          let before = filled h ticket writes kind in
          let last = with_mark (content_of before ticket) in
          let within : ticket - 1 < length before
          = subst (λ p. p < length before) here (subst (λ n. place < n) (length-set before (ticket - 1) last) a.drawn) in
          let is : get_or (ended_with h ticket writes kind) (ticket - 1) no_content ≡ content
          = subst (λ p. get_or (ended_with h ticket writes kind) p no_content ≡ content) here a.is in
          ap (λ (c : Content). c.finished) (sym is ∙ get_or-set_same before (ticket - 1) last no_content within)
      by_test false e =
          let n : place ≢ ticket - 1 = false-eqb place (ticket - 1) (sym e) in
          k place content (record {
            drawn = subst (λ n. place < n) (length_ended h ticket writes kind) a.drawn;
            is = sym (elsewhere h ticket writes kind place n) ∙ a.is;
            unsent = unsent place n a.unsent;
            answered = answered place n a.answered;
          })

  -- the fetch of a mutation is over, which is there
  finished_unanswered : (h : History) (f : List (OpenFetch O)) (m : List (PendingMutation O)) (test : OpenFetch O → Bool) (fetch : OpenFetch O) → Ascend number_of 0 f → find test f ≡ Some fetch
      → is_pending fetch.ticket m ≡ true → Finished h f m → Finished h (without_number fetch.number f) m
  finished_unanswered h f m test fetch numbers found waits k place content a = by_test (place == fetch.ticket - 1) refl
    where
      by_test : (b : Bool) → (place == fetch.ticket - 1) ≡ b → content.finished ≡ true
      by_test true e =
          let here : place ≡ fetch.ticket - 1 = true-eqb place (fetch.ticket - 1) (sym e) in
          let none : is_pending fetch.ticket m ≡ false
          = all_none (λ (pending : PendingMutation O). pending.ticket == fetch.ticket) m
          (all_weaker (λ (pending : PendingMutation O). is_mutation_at place pending ≡ false) (λ (pending : PendingMutation O). (pending.ticket == fetch.ticket) ≡ false)
          (λ pending n. differs pending.ticket fetch.ticket (λ s. false-eqb (pending.ticket - 1) place (sym n) (ap (λ t. t - 1) s ∙ sym here))) m
          (none_all (is_mutation_at place) m a.answered)) in
          absurd (true≢false (sym waits ∙ none))
      by_test false e =
          k place content (record { drawn = a.drawn; is = a.is; unsent = fetch_elsewhere f test fetch place numbers found (false-eqb place (fetch.ticket - 1) (sym e)) a.unsent; answered = a.answered })

  finished_rowed : (h : History) (f : List (OpenFetch O)) (m : List (PendingMutation O)) (ticket row : ℕ) → Finished h f m → Finished h f (map (in_row ticket row) m)
  finished_rowed h f m ticket row k place content a =
      k place content (record { drawn = a.drawn; is = a.is; unsent = a.unsent; answered = sym (any_mapped kept_of (in_row ticket row) (same_ticket ticket row) (λ t. t - 1 == place) m) ∙ a.answered })

  -- ---- open fetches are apart

  abbrev Apart : List (OpenFetch O) → List (PendingMutation O) → Type 0
  Apart f m = AllByRecursion (λ (fetch : OpenFetch O). is_pending fetch.ticket m ≡ is_none fetch.key) f

  apart_joined : (f : List (OpenFetch O)) (m : List (PendingMutation O)) (n : ℕ) (pending : PendingMutation O) → pending.ticket ≡ suc n → AllByRecursion (λ (fetch : OpenFetch O). fetch.ticket ≤ n) f → Apart f m → Apart f (m ++ pending ∷ [])
  apart_joined f m n pending e drawn a =
      all_weaker (λ (fetch : OpenFetch O). (fetch.ticket ≤ n) × (is_pending fetch.ticket m ≡ is_none fetch.key)) (λ (fetch : OpenFetch O). is_pending fetch.ticket (m ++ pending ∷ []) ≡ is_none fetch.key)
      (λ fetch both. any_push_same (λ (other : PendingMutation O). other.ticket == fetch.ticket) m pending (differs pending.ticket fetch.ticket (λ s. omega (arith, e, s, both.0))) ∙ both.1) f
      (all_both (λ (fetch : OpenFetch O). fetch.ticket ≤ n) (λ (fetch : OpenFetch O). is_pending fetch.ticket m ≡ is_none fetch.key) f drawn a)

  apart_over : (f : List (OpenFetch O)) (m : List (PendingMutation O)) (test : OpenFetch O → Bool) (fetch : OpenFetch O) (ticket : ℕ) → AreSingle ticket_of f → find test f ≡ Some fetch → ticket ≡ fetch.ticket
      → Apart f m → Apart (without_number fetch.number f) (without_ticket ticket m)
  apart_over f m test fetch ticket single found e a =
      all_passed (λ (other : OpenFetch O). (other.ticket ≡ fetch.ticket → other ≡ fetch) × (is_pending other.ticket m ≡ is_none other.key)) (λ (other : OpenFetch O). is_pending other.ticket (without_ticket ticket m) ≡ is_none other.key)
      (λ (other : OpenFetch O). not (other.number == fetch.number))
      (λ other both stays. any_without kept_of other.ticket ticket (λ s. not_same other.number fetch.number stays (ap number_of (both.0 (s ∙ e)))) m ∙ both.1) f
      (all_both (λ (other : OpenFetch O). other.ticket ≡ fetch.ticket → other ≡ fetch) (λ (other : OpenFetch O). is_pending other.ticket m ≡ is_none other.key) f (found_alone ticket_of test f fetch single found) a)

  apart_rowed : (f : List (OpenFetch O)) (m : List (PendingMutation O)) (ticket row : ℕ) → Apart f m → Apart f (map (in_row ticket row) m)
  apart_rowed f m ticket row a =
      all_weaker (λ (fetch : OpenFetch O). is_pending fetch.ticket m ≡ is_none fetch.key) (λ (fetch : OpenFetch O). is_pending fetch.ticket (map (in_row ticket row) m) ≡ is_none fetch.key)
      (λ fetch e. any_mapped kept_of (in_row ticket row) (same_ticket ticket row) (λ t. t == fetch.ticket) m ∙ e) f a

  abbrev stays_without : ℕ → OpenFetch O → Bool
  stays_without number other = not (other.number == number)

  abbrev is_counted : OpenFetch O → Type 0
  is_counted fetch = 0 < fetch.ticket

  pub keeps_apart : Keeps {O = O} (λ h f m n. AreApart h f m n)
  keeps_apart = record {
    guessed = λ h f m n i c waits a. record {
      order = keeps_order.guessed h f m n i c waits a.order;
      counted = a.counted;
      apart = a.apart;
      finished = finished_guessed h f m i c waits a.finished;
    };
    query = λ h f m n key operation a.
        let fetch : OpenFetch O = record { number = n; ticket = suc (length h); key = Some key; operation = operation } in record {
          order = keeps_order.query h f m n key operation a.order;
          counted = all_push is_counted f fetch a.counted (omega arith);
          apart = all_push (λ (one : OpenFetch O). is_pending one.ticket m ≡ is_none one.key) f fetch a.apart (none_above kept_of (length h) m a.order.known);
          finished = finished_drawn h f m fetch refl a.finished;
        };
    mutation = λ h f m n row operation a.
        let fetch : OpenFetch O = record { number = n; ticket = suc (length h); key = None; operation = operation } in
        let pending : PendingMutation O = record { ticket = suc (length h); row = row; operation = operation } in record {
          order = keeps_order.mutation h f m n row operation a.order;
          counted = all_push is_counted f fetch a.counted (omega arith);
          apart = all_push (λ (one : OpenFetch O). is_pending one.ticket (m ++ pending ∷ []) ≡ is_none one.key) f fetch (apart_joined f m (length h) pending refl a.order.drawn a.apart)
              (any_last (λ (one : PendingMutation O). one.ticket == suc (length h)) m pending (eq-eqb (suc (length h)) (suc (length h)) refl));
          finished = finished_joined (h ++ no_content ∷ []) (f ++ fetch ∷ []) m pending (finished_drawn h f m fetch refl a.finished);
        };
    again = λ h f m n test pending found unsent a.
        let fetch : OpenFetch O = record { number = n; ticket = pending.ticket; key = None; operation = pending.operation } in record {
          order = keeps_order.again h f m n test pending found unsent a.order;
          counted = all_push is_counted f fetch a.counted (found_one (λ (one : PendingMutation O). 0 < one.ticket) test m pending found (ascend_above kept_of 0 m a.order.in_turn));
          apart = all_push (λ (one : OpenFetch O). is_pending one.ticket m ≡ is_none one.key) f fetch a.apart
              (found_any (λ (one : PendingMutation O). one.ticket == pending.ticket) test m pending found (eq-eqb pending.ticket pending.ticket refl));
          finished = finished_sent h f m fetch a.finished;
        };
    ended = λ h f m n test fetch writes kind found a. record {
      order = keeps_order.ended h f m n test fetch writes kind found a.order;
      counted = all_filter is_counted (stays_without fetch.number) f a.counted;
      apart = all_filter (λ (one : OpenFetch O). is_pending one.ticket m ≡ is_none one.key) (stays_without fetch.number) f a.apart;
      finished = finished_ended h f (without_number fetch.number f) m m fetch.ticket writes kind
          (λ place n. fetch_elsewhere f test fetch place a.order.numbers found n) (λ place n answered. answered) a.finished;
    };
    over = λ h f m n test fetch pending writes kind found waits a.
        let same : pending.ticket ≡ fetch.ticket = true-eqb pending.ticket fetch.ticket (sym (found_passes (λ (other : PendingMutation O). other.ticket == fetch.ticket) m pending waits)) in record {
          order = keeps_order.over h f m n test fetch pending writes kind found waits a.order;
          counted = all_filter is_counted (stays_without fetch.number) f a.counted;
          apart = apart_over f m test fetch pending.ticket a.order.single found same a.apart;
          finished = finished_ended h f (without_number fetch.number f) m (without_ticket pending.ticket m) pending.ticket writes kind
              (λ place n. fetch_elsewhere f test fetch place a.order.numbers found (λ e. n (e ∙ ap (λ t. t - 1) (sym same))))
              (λ place n. mutation_elsewhere m pending.ticket place n) a.finished;
        };
    unanswered = λ h f m n test fetch found e a. record {
      order = keeps_order.unanswered h f m n test fetch found e a.order;
      counted = all_filter is_counted (stays_without fetch.number) f a.counted;
      apart = all_filter (λ (one : OpenFetch O). is_pending one.ticket m ≡ is_none one.key) (stays_without fetch.number) f a.apart;
      finished = finished_unanswered h f m test fetch a.order.numbers found (found_one (λ (one : OpenFetch O). is_pending one.ticket m ≡ is_none one.key) test f fetch found a.apart ∙ ap is_none e) a.finished;
    };
    rowed = λ h f m n ticket row a. record {
      order = keeps_order.rowed h f m n ticket row a.order;
      counted = a.counted;
      apart = apart_rowed f m ticket row a.apart;
      finished = finished_rowed h f m ticket row a.finished;
    };
  }

  apart_first : (rows : MutationQueue) → IsApart {O = O} (first_state rows)
  apart_first rows = record {
    order = order_first rows;
    counted = tt;
    apart = tt;
    finished = λ place content a.
        let l : place < 0 = a.drawn in
        let bad : ⊥ = omega (arith, l) in
        absurd bad;
  }

  pub tickets_apart_at_first : (m : Meaning O) (rows : MutationQueue) (offers : List (Offered O)) → IsApart (all_offered m offers (first_state rows)).state
  tickets_apart_at_first m rows offers = kept_by_offers {O = O} (λ h f ms n. AreApart h f ms n) keeps_apart m offers (first_state rows) (apart_first rows)

  pub tickets_apart : (m : Meaning O) (job : Job) (s : GatewayState O) → IsApart s → IsApart (command_step m job s).state
  tickets_apart m job s a = kept_by_command {O = O} (λ h f ms n. AreApart h f ms n) keeps_apart m job s a
