-- The history is what the results of its tickets come to, over every command and every run.
use Rattle.std.proofs.Common.{◌≡◌, ◌≢◌, inl, inr, ℕ, zero, suc, ◌-◌, ◌<◌, ◌==◌, Bool, true, false, not, if◌then◌else◌, List, [], ◌∷◌, ◌++◌, map, find, length, get_or, set, slice_get, is_some, is_none, Option, Some, None, refl, sym, ap, ◌∙◌, subst, arith, append_assoc, append-nil, true-eqb, false-eqb, true≢false}
use Rattle.std.specs.Option.{option_map_or}
use Rattle.std.specs.List.{AllByRecursion}
use Rattle.cache_model.specs.declared.write.Write.{Write}
use Rattle.cache_model.specs.declared.kind.Kind.{Kind}
use Rattle.cache_model.specs.declared.kind.Kind.TheVariants.{Optimistic}
use Rattle.cache_model.specs.History.{History, Content, no_content, with_mark, flattened}
use Rattle.queue_model.specs.Queue.{MutationQueue}
use Rattle.machine_model.specs.declared.command.Command.{Command}
use Rattle.machine_model.specs.Operations.{Meaning}
use Rattle.machine_model.specs.State.{GatewayState, OpenFetch, PendingMutation, Job, first_state, next_ticket}
use Rattle.machine_model.specs.Steps.{Step}
use Rattle.machine_model.specs.Issue.{with_ticket, sent}
use Rattle.machine_model.specs.Mutations.{guessed, with_mutation, begun_and_sent}
use Rattle.machine_model.specs.Responses.{in_row}
use Rattle.machine_model.specs.Rows.{Offered, all_offered}
use Rattle.machine_model.specs.Commands.{command_step}
use Rattle.machine_model.specs.Runs.{first_taken, command_taken, commands_taken, with_command, AreRuns}
use Rattle.machine_laws.specs.Closings.{is_pending, AreApart, IsApart}
use Rattle.machine_laws.specs.Results.{Came, nothing, SentOperation, held_before, held_by, content_for, IsAwaited, HasResultsIn, HasResults, came_at, asked, Brings, GoesOn, GoOn, GoOnByFirst, GoOnBySteps, GoOnByRuns, offered_row}
use Rattle.machine_laws.proofs.Numbers.{all_weaker, all_push, all_filter, all_map, all_both, all_passed, found_one, found_passes, found_alone, ascend_above, none_all, not_same}
use Rattle.machine_laws.proofs.Walk.{KeepsResults, KeptIn, ended_with, begun_with, without_number, without_ticket, results_kept_by_command, keeps_results}
use Rattle.machine_laws.proofs.ApartLaws.{keeps_apart, tickets_apart_at_first, tickets_apart}

-- ---- lists

map_push : {X Y : Type 0} (g : X → Y) (xs : List X) (x : X) → map g (xs ++ x ∷ []) ≡ map g xs ++ g x ∷ []
map_push g [] x = refl
map_push g (y ∷ xs) x = ap (λ ys. g y ∷ ys) (map_push g xs x)

map_set : {X Y : Type 0} (g : X → Y) (xs : List X) (i : ℕ) (x : X) → map g (set xs i x) ≡ set (map g xs) i (g x)
map_set g [] i x = refl
map_set g (y ∷ xs) zero x = refl
map_set g (y ∷ xs) (suc i) x = ap (λ ys. g y ∷ ys) (map_set g xs i x)

-- what changes nothing that a function sees
map_set_alike : {X Y : Type 0} (g : X → Y) (xs : List X) (i : ℕ) (x y : X) → slice_get xs i ≡ Some x → g y ≡ g x → map g (set xs i y) ≡ map g xs
map_set_alike g [] i x y is e = refl
map_set_alike g (z ∷ xs) zero x y is e =
    let same : z ≡ x = cc in
    ap (λ w. w ∷ map g xs) (e ∙ ap g (sym same))
map_set_alike g (z ∷ xs) (suc i) x y is e = ap (λ ys. g z ∷ ys) (map_set_alike g xs i x y is e)

length_mapped : {X Y : Type 0} (g : X → Y) (xs : List X) → length (map g xs) ≡ length xs
length_mapped g [] = refl
length_mapped g (x ∷ xs) = ap suc (length_mapped g xs)

get_longer : {X : Type 0} (xs ys : List X) (i : ℕ) (x : X) → slice_get xs i ≡ Some x → slice_get (xs ++ ys) i ≡ Some x
get_longer [] ys i x e = absurd cc
get_longer (y ∷ xs) ys zero x e = e
get_longer (y ∷ xs) ys (suc i) x e = get_longer xs ys i x e

get_last : {X : Type 0} (xs : List X) (x : X) (i : ℕ) → i ≡ length xs → slice_get (xs ++ x ∷ []) i ≡ Some x
get_last [] x i e = subst (λ j. slice_get (x ∷ []) j ≡ Some x) (sym e) refl
get_last (y ∷ xs) x zero e = absurd (omega (arith, e))
get_last (y ∷ xs) x (suc i) e = get_last xs x i (omega (arith, e))

get_set_here : {X : Type 0} (xs : List X) (i : ℕ) (x y : X) → slice_get xs i ≡ Some x → slice_get (set xs i y) i ≡ Some y
get_set_here [] i x y e = absurd cc
get_set_here (z ∷ xs) zero x y e = refl
get_set_here (z ∷ xs) (suc i) x y e = get_set_here xs i x y e

get_set_beside : {X : Type 0} (xs : List X) (i j : ℕ) (y : X) → j ≢ i → slice_get (set xs i y) j ≡ slice_get xs j
get_set_beside [] i j y n = refl
get_set_beside (z ∷ xs) zero zero y n = absurd (n refl)
get_set_beside (z ∷ xs) zero (suc j) y n = refl
get_set_beside (z ∷ xs) (suc i) zero y n = refl
get_set_beside (z ∷ xs) (suc i) (suc j) y n = get_set_beside xs i j y (λ e. n (ap suc e))

-- ---- histories

-- a ticket that was filled and finished
marked : (h : History) (i : ℕ) (c : Content) → set (set h i c) i (with_mark (get_or (set h i c) i no_content)) ≡ set h i (with_mark c)
marked [] i c = refl
marked (d ∷ h) zero c = refl
marked (d ∷ h) (suc i) c = ap (λ g. d ∷ g) (marked h i c)

set_last : {X : Type 0} (xs : List X) (x y : X) → set (xs ++ x ∷ []) (length xs) y ≡ xs ++ y ∷ []
set_last [] x y = refl
set_last (z ∷ xs) x y = ap (λ ys. z ∷ ys) (set_last xs x y)

begun_is : (h : History) (guess : Option (List Write)) → begun_with h guess ≡ h ++ held_before guess ∷ []
begun_is h None = refl
begun_is h (Some writes) =
    let place : suc (length h) - 1 ≡ length h = omega arith in
    let held : Content = record { kind = Optimistic; finished = false; writes = writes } in
    ap (λ i. set (h ++ no_content ∷ []) i held) place ∙ set_last h no_content held

places_differ : (a b : ℕ) → 0 < a → 0 < b → a ≢ b → a - 1 ≢ b - 1
places_differ a b x y n e = n (omega (arith, x, y, e))

some_is_no_mutation : (key : Option ℕ) → is_some key ≡ true → is_none key ≡ false
some_is_no_mutation (Some key) e = refl
some_is_no_mutation None e = absurd (true≢false (sym e))

-- tickets are apart, and there are results, which go on by the command
record HaveGoneOn {O : Type 0} (m : Meaning O) (state : GatewayState O) (command : Command) (results : List (SentOperation O)) (h : History) (f : List (OpenFetch O)) (ms : List (PendingMutation O)) (n : ℕ) : Type 0 where
  apart : AreApart h f ms n
  after : List (SentOperation O)
  has : HasResultsIn m after h f ms
  on : GoOn state command results after

-- tickets are apart, and there are results, which came about in some way
record Reached {O : Type 0} (m : Meaning O) (state : GatewayState O) (Way : List (SentOperation O) → Type 0) : Type 0 where
  apart : IsApart state
  after : List (SentOperation O)
  has : HasResults m after state
  way : Way after

-- ---- what came of a ticket

module _ {O : Type 0} where
  came_push : (results : List (SentOperation O)) (last : SentOperation O) → last.came ≡ nothing → (place : ℕ) → came_at (results ++ last ∷ []) place ≡ came_at results place
  came_push [] last e zero = e
  came_push [] last e (suc place) = refl
  came_push (one ∷ results) last e zero = refl
  came_push (one ∷ results) last e (suc place) = came_push results last e place

  came_same : (state : GatewayState O) (command : Command) (results : List (SentOperation O)) → GoOn state command results results
  came_same state command results = record {
    drawn = ([], sym (append-nil (map asked results)));
    came = λ place. inl refl;
  }

  -- one more ticket, of which nothing came so far
  goes_on_drawn : (state : GatewayState O) (command : Command) (results after : List (SentOperation O)) (last : SentOperation O) → last.came ≡ nothing → GoOn state command results after → GoOn state command results (after ++ last ∷ [])
  goes_on_drawn state command results after last e g = record {
    drawn = (g.drawn.0 ++ asked last ∷ [], map_push asked after last ∙ ap (λ all. all ++ asked last ∷ []) g.drawn.1 ∙ append_assoc (map asked results) g.drawn.0 (asked last ∷ []));
    came = λ place. subst (GoesOn state command place (came_at results place)) (sym (came_push after last e place)) (g.came place);
  }

  -- something is brought for a ticket of which nothing came
  brought : (state : GatewayState O) (command : Command) (place : ℕ) (before now : Came) (fetch : OpenFetch O) → fetch.ticket - 1 ≡ place → Brings state command fetch now → GoesOn state command place before nothing → GoesOn state command place before now
  brought state command place before now fetch at brings (inl e) = inr (sym e, fetch, at, brings)
  brought state command place before now fetch at brings (inr none) = absurd none.3

  goes_on_ended : (state : GatewayState O) (command : Command) (results after : List (SentOperation O)) (place : ℕ) (operation : O) (mutates : Bool) (now : Came) (fetch : OpenFetch O)
      → slice_get after place ≡ Some (record { operation = operation; mutates = mutates; came = nothing }) → fetch.ticket - 1 ≡ place → Brings state command fetch now
      → GoOn state command results after → GoOn state command results (set after place (record { operation = operation; mutates = mutates; came = now }))
  goes_on_ended state command results after place operation mutates now fetch awaited at brings g = record {
    drawn = (g.drawn.0, map_set_alike asked after place before last awaited refl ∙ g.drawn.1);
    came = λ other. by_test other (other == place) refl;
  }
    where
      before : SentOperation O
      before = record { operation = operation; mutates = mutates; came = nothing }

      last : SentOperation O
      last = record { operation = operation; mutates = mutates; came = now }

      by_test : (other : ℕ) (t : Bool) → (other == place) ≡ t → GoesOn state command other (came_at results other) (came_at (set after place last) other)
      by_test other true e =
          let same : other ≡ place = true-eqb other place (sym e) in
          let was : came_at after place ≡ nothing = ap (λ (one : Option (SentOperation O)). option_map_or (λ s. s.came) one nothing) awaited in
          let is : came_at (set after place last) place ≡ now = ap (λ (one : Option (SentOperation O)). option_map_or (λ s. s.came) one nothing) (get_set_here after place before last awaited) in
          subst (λ p. GoesOn state command p (came_at results p) (came_at (set after place last) p)) (sym same)
          (subst (GoesOn state command place (came_at results place)) (sym is)
          (brought state command place (came_at results place) now fetch at brings
          (subst (GoesOn state command place (came_at results place)) was (g.came place))))
      by_test other false e =
          subst (GoesOn state command other (came_at results other))
          (ap (λ (one : Option (SentOperation O)). option_map_or (λ s. s.came) one nothing) (sym (get_set_beside after place other last (false-eqb other place (sym e)))))
          (g.came other)

  -- ---- the changes

  abbrev ticket_of : OpenFetch O → ℕ
  ticket_of fetch = fetch.ticket

  abbrev number_of : OpenFetch O → ℕ
  number_of fetch = fetch.number

  abbrev kept_of : PendingMutation O → ℕ
  kept_of pending = pending.ticket

  abbrev FetchAwaited : List (SentOperation O) → OpenFetch O → Type 0
  FetchAwaited results fetch = IsAwaited results fetch.ticket fetch.operation (is_none fetch.key)

  abbrev MutationAwaited : List (SentOperation O) → PendingMutation O → Type 0
  MutationAwaited results pending = IsAwaited results pending.ticket pending.operation true

  as_long : (m : Meaning O) (results : List (SentOperation O)) (h : History) → h ≡ map (content_for m) results → length h ≡ length results
  as_long m results h e = ap length e ∙ length_mapped (content_for m) results

  fetches_longer : (results : List (SentOperation O)) (last : SentOperation O) (f : List (OpenFetch O)) → AllByRecursion (FetchAwaited results) f → AllByRecursion (FetchAwaited (results ++ last ∷ [])) f
  fetches_longer results last f a =
      all_weaker (FetchAwaited results) (FetchAwaited (results ++ last ∷ []))
      (λ fetch e. get_longer results (last ∷ []) (fetch.ticket - 1) (record { operation = fetch.operation; mutates = is_none fetch.key; came = nothing }) e) f a

  mutations_longer : (results : List (SentOperation O)) (last : SentOperation O) (ms : List (PendingMutation O)) → AllByRecursion (MutationAwaited results) ms → AllByRecursion (MutationAwaited (results ++ last ∷ [])) ms
  mutations_longer results last ms a =
      all_weaker (MutationAwaited results) (MutationAwaited (results ++ last ∷ []))
      (λ pending e. get_longer results (last ∷ []) (pending.ticket - 1) (record { operation = pending.operation; mutates = true; came = nothing }) e) ms a

  newest : (m : Meaning O) (results : List (SentOperation O)) (h : History) (last : SentOperation O) → h ≡ map (content_for m) results → slice_get (results ++ last ∷ []) (suc (length h) - 1) ≡ Some last
  newest m results h last e =
      let long : length h ≡ length results = as_long m results h e in
      get_last results last (suc (length h) - 1) (omega (arith, long))

  abbrev query_of : O → SentOperation O
  query_of operation = record { operation = operation; mutates = false; came = nothing }

  abbrev mutation_of : O → SentOperation O
  mutation_of operation = record { operation = operation; mutates = true; came = nothing }

  has_query : (m : Meaning O) (results : List (SentOperation O)) (h : History) (f : List (OpenFetch O)) (ms : List (PendingMutation O)) (n key : ℕ) (operation : O) → HasResultsIn m results h f ms
      → HasResultsIn m (results ++ query_of operation ∷ []) (h ++ no_content ∷ []) (f ++ record { number = n; ticket = suc (length h); key = Some key; operation = operation } ∷ []) ms
  has_query m results h f ms n key operation r =
      let last = query_of operation in record {
        contents = ap (λ g. g ++ no_content ∷ []) r.contents ∙ sym (map_push (content_for m) results last);
        sent = all_push (FetchAwaited (results ++ last ∷ [])) f (record { number = n; ticket = suc (length h); key = Some key; operation = operation }) (fetches_longer results last f r.sent) (newest m results h last r.contents);
        waiting = mutations_longer results last ms r.waiting;
      }

  has_mutation : (m : Meaning O) (results : List (SentOperation O)) (h : History) (f : List (OpenFetch O)) (ms : List (PendingMutation O)) (n : ℕ) (row : Option ℕ) (operation : O) (guess : Option (List Write)) → m.guess operation ≡ guess → HasResultsIn m results h f ms
      → HasResultsIn m (results ++ mutation_of operation ∷ []) (begun_with h guess) (f ++ record { number = n; ticket = suc (length h); key = None; operation = operation } ∷ []) (ms ++ record { ticket = suc (length h); row = row; operation = operation } ∷ [])
  has_mutation m results h f ms n row operation guess is r =
      let last = mutation_of operation in record {
        contents = begun_is h guess ∙ ap (λ one. h ++ held_before one ∷ []) (sym is) ∙ ap (λ g. g ++ content_for m last ∷ []) r.contents ∙ sym (map_push (content_for m) results last);
        sent = all_push (FetchAwaited (results ++ last ∷ [])) f (record { number = n; ticket = suc (length h); key = None; operation = operation }) (fetches_longer results last f r.sent) (newest m results h last r.contents);
        waiting = all_push (MutationAwaited (results ++ last ∷ [])) ms (record { ticket = suc (length h); row = row; operation = operation }) (mutations_longer results last ms r.waiting) (newest m results h last r.contents);
      }

  -- the history after the last content of a ticket, which is what its operation has by what came
  ended_is : (m : Meaning O) (results : List (SentOperation O)) (h : History) (ticket : ℕ) (last : SentOperation O) (writes : List Write) (kind : Kind) → h ≡ map (content_for m) results
      → content_for m last ≡ record { kind = kind; finished = true; writes = writes } → ended_with h ticket writes kind ≡ map (content_for m) (set results (ticket - 1) last)
  ended_is m results h ticket last writes kind e held =
      let place = ticket - 1 in
      let first : Content = record { kind = kind; finished = false; writes = writes } in
      marked h place first ∙ ap (λ g. set g place (with_mark first)) e ∙ ap (set (map (content_for m) results) place) (sym held) ∙ sym (map_set (content_for m) results place last)

  -- what is awaited beside a ticket still is after that ended
  beside : (results : List (SentOperation O)) (ticket other : ℕ) (last : SentOperation O) (operation : O) (mutates : Bool) → 0 < ticket → 0 < other → other ≢ ticket → IsAwaited results other operation mutates → IsAwaited (set results (ticket - 1) last) other operation mutates
  beside results ticket other last operation mutates x y n e = get_set_beside results (ticket - 1) (other - 1) last (places_differ other ticket y x n) ∙ e

  -- the open fetches but one are awaited after the ticket of that ended
  fetches_beside : (results : List (SentOperation O)) (h : History) (f : List (OpenFetch O)) (ms : List (PendingMutation O)) (n : ℕ) (test : OpenFetch O → Bool) (fetch : OpenFetch O) (last : SentOperation O) → AreApart h f ms n → find test f ≡ Some fetch
      → AllByRecursion (FetchAwaited results) f → AllByRecursion (FetchAwaited (set results (fetch.ticket - 1) last)) (without_number fetch.number f)
  fetches_beside results h f ms n test fetch last a found all =
      let counted : 0 < fetch.ticket = found_one (λ (one : OpenFetch O). 0 < one.ticket) test f fetch found a.counted in
      all_passed (λ (other : OpenFetch O). (0 < other.ticket) × ((other.ticket ≡ fetch.ticket → other ≡ fetch) × FetchAwaited results other)) (FetchAwaited (set results (fetch.ticket - 1) last)) (λ (other : OpenFetch O). not (other.number == fetch.number))
      (λ other both stays. beside results fetch.ticket other.ticket last other.operation (is_none other.key) counted both.0 (λ e. not_same other.number fetch.number stays (ap number_of (both.1.0 e))) both.1.1) f
      (all_both (λ (other : OpenFetch O). 0 < other.ticket) (λ (other : OpenFetch O). (other.ticket ≡ fetch.ticket → other ≡ fetch) × FetchAwaited results other) f a.counted
      (all_both (λ (other : OpenFetch O). other.ticket ≡ fetch.ticket → other ≡ fetch) (FetchAwaited results) f (found_alone ticket_of test f fetch a.order.single found) all))

  -- so are the mutations, where none of them has the ticket
  mutations_beside : (results : List (SentOperation O)) (ms : List (PendingMutation O)) (ticket : ℕ) (last : SentOperation O) → 0 < ticket → AllByRecursion (λ (pending : PendingMutation O). 0 < pending.ticket) ms
      → AllByRecursion (λ (pending : PendingMutation O). pending.ticket ≢ ticket) ms → AllByRecursion (MutationAwaited results) ms → AllByRecursion (MutationAwaited (set results (ticket - 1) last)) ms
  mutations_beside results ms ticket last counted all others awaited =
      all_weaker (λ (pending : PendingMutation O). (0 < pending.ticket) × ((pending.ticket ≢ ticket) × MutationAwaited results pending)) (MutationAwaited (set results (ticket - 1) last))
      (λ pending both. beside results ticket pending.ticket last pending.operation true counted both.0 both.1.0 both.1.1) ms
      (all_both (λ (pending : PendingMutation O). 0 < pending.ticket) (λ (pending : PendingMutation O). (pending.ticket ≢ ticket) × MutationAwaited results pending) ms all
      (all_both (λ (pending : PendingMutation O). pending.ticket ≢ ticket) (MutationAwaited results) ms others awaited))

  has_ended : (m : Meaning O) (results : List (SentOperation O)) (h : History) (f : List (OpenFetch O)) (ms : List (PendingMutation O)) (n : ℕ) (test : OpenFetch O → Bool) (fetch : OpenFetch O) (writes : List Write) (kind : Kind) (came : Came)
      → find test f ≡ Some fetch → is_some fetch.key ≡ true → held_by m fetch.operation false came ≡ record { kind = kind; finished = true; writes = writes } → AreApart h f ms n → HasResultsIn m results h f ms
      → HasResultsIn m (set results (fetch.ticket - 1) (record { operation = fetch.operation; mutates = false; came = came })) (ended_with h fetch.ticket writes kind) (without_number fetch.number f) ms
  has_ended m results h f ms n test fetch writes kind came found is held a r =
      let last : SentOperation O = record { operation = fetch.operation; mutates = false; came = came } in
      let counted : 0 < fetch.ticket = found_one (λ (one : OpenFetch O). 0 < one.ticket) test f fetch found a.counted in
      let none : is_pending fetch.ticket ms ≡ false = found_one (λ (one : OpenFetch O). is_pending one.ticket ms ≡ is_none one.key) test f fetch found a.apart ∙ some_is_no_mutation fetch.key is in record {
        contents = ended_is m results h fetch.ticket last writes kind r.contents held;
        sent = fetches_beside results h f ms n test fetch last a found r.sent;
        waiting = mutations_beside results ms fetch.ticket last counted (ascend_above kept_of 0 ms a.order.in_turn)
            (all_weaker (λ (pending : PendingMutation O). (pending.ticket == fetch.ticket) ≡ false) (λ (pending : PendingMutation O). pending.ticket ≢ fetch.ticket) (λ pending e. false-eqb pending.ticket fetch.ticket (sym e)) ms (none_all (λ (pending : PendingMutation O). pending.ticket == fetch.ticket) ms none)) r.waiting;
      }

  has_over : (m : Meaning O) (results : List (SentOperation O)) (h : History) (f : List (OpenFetch O)) (ms : List (PendingMutation O)) (n : ℕ) (test : OpenFetch O → Bool) (fetch : OpenFetch O) (pending : PendingMutation O) (writes : List Write) (kind : Kind) (came : Came)
      → find test f ≡ Some fetch → pending.ticket ≡ fetch.ticket → held_by m pending.operation true came ≡ record { kind = kind; finished = true; writes = writes } → AreApart h f ms n → HasResultsIn m results h f ms
      → HasResultsIn m (set results (pending.ticket - 1) (record { operation = pending.operation; mutates = true; came = came })) (ended_with h pending.ticket writes kind) (without_number fetch.number f) (without_ticket pending.ticket ms)
  has_over m results h f ms n test fetch pending writes kind came found same held a r =
      let last : SentOperation O = record { operation = pending.operation; mutates = true; came = came } in
      let counted : 0 < pending.ticket = subst (λ t. 0 < t) (sym same) (found_one (λ (one : OpenFetch O). 0 < one.ticket) test f fetch found a.counted) in record {
        contents = ended_is m results h pending.ticket last writes kind r.contents held;
        sent = subst (λ t. AllByRecursion (FetchAwaited (set results (t - 1) last)) (without_number fetch.number f)) (sym same) (fetches_beside results h f ms n test fetch last a found r.sent);
        waiting = mutations_beside results (without_ticket pending.ticket ms) pending.ticket last counted (all_filter (λ (one : PendingMutation O). 0 < one.ticket) (λ (one : PendingMutation O). not (one.ticket == pending.ticket)) ms (ascend_above kept_of 0 ms a.order.in_turn))
            (all_passed (λ (one : PendingMutation O). Unit {0}) (λ (one : PendingMutation O). one.ticket ≢ pending.ticket) (λ (one : PendingMutation O). not (one.ticket == pending.ticket)) (λ one any stays. not_same one.ticket pending.ticket stays) ms (all_units ms))
            (all_filter (MutationAwaited results) (λ (one : PendingMutation O). not (one.ticket == pending.ticket)) ms r.waiting);
      }
    where
      all_units : (ms : List (PendingMutation O)) → AllByRecursion (λ (one : PendingMutation O). Unit {0}) ms
      all_units [] = tt
      all_units (one ∷ ms) = (tt, all_units ms)

  -- ---- commands

  rowed_awaited : (results : List (SentOperation O)) (ticket row : ℕ) (pending : PendingMutation O) → MutationAwaited results pending → MutationAwaited results (in_row ticket row pending)
  rowed_awaited results ticket row pending e = by_test (pending.ticket == ticket)
    where
      by_test : (t : Bool) → MutationAwaited results (if t then record pending { row = Some row } else pending)
      by_test true = e
      by_test false = e

  keeps_going_on : (m : Meaning O) (state : GatewayState O) (command : Command) (results : List (SentOperation O)) → KeepsResults m state command (HaveGoneOn m state command results)
  keeps_going_on m state command results = record {
    query = λ h f ms n key operation p. record {
      apart = keep.query h f ms n key operation p.apart;
      after = p.after ++ query_of operation ∷ [];
      has = has_query m p.after h f ms n key operation p.has;
      on = goes_on_drawn state command results p.after (query_of operation) refl p.on;
    };
    mutation = λ h f ms n row operation guess e p. record {
      apart = keep.mutation h f ms n row operation guess e p.apart;
      after = p.after ++ mutation_of operation ∷ [];
      has = has_mutation m p.after h f ms n row operation guess e p.has;
      on = goes_on_drawn state command results p.after (mutation_of operation) refl p.on;
    };
    again = λ h f ms n test pending found unsent p.
        let fetch : OpenFetch O = record { number = n; ticket = pending.ticket; key = None; operation = pending.operation } in record {
          apart = keep.again h f ms n test pending found unsent p.apart;
          after = p.after;
          has = record {
            contents = p.has.contents;
            sent = all_push (FetchAwaited p.after) f fetch p.has.sent (found_one (MutationAwaited p.after) test ms pending found p.has.waiting);
            waiting = p.has.waiting;
          };
          on = p.on;
        };
    ended = λ h f ms n test fetch writes kind came found is brings held p.
        let awaited : IsAwaited p.after fetch.ticket fetch.operation false = subst (IsAwaited p.after fetch.ticket fetch.operation) (some_is_no_mutation fetch.key is) (found_one (FetchAwaited p.after) test f fetch found p.has.sent) in record {
          apart = keep.ended h f ms n test fetch writes kind came found is brings held p.apart;
          after = set p.after (fetch.ticket - 1) (record { operation = fetch.operation; mutates = false; came = came });
          has = has_ended m p.after h f ms n test fetch writes kind came found is held p.apart p.has;
          on = goes_on_ended state command results p.after (fetch.ticket - 1) fetch.operation false came fetch awaited refl brings p.on;
        };
    over = λ h f ms n test fetch pending writes kind came found waits brings held p.
        let same : pending.ticket ≡ fetch.ticket = true-eqb pending.ticket fetch.ticket (sym (found_passes (λ (other : PendingMutation O). other.ticket == fetch.ticket) ms pending waits)) in
        let awaited : MutationAwaited p.after pending = found_one (MutationAwaited p.after) (λ (other : PendingMutation O). other.ticket == fetch.ticket) ms pending waits p.has.waiting in record {
          apart = keep.over h f ms n test fetch pending writes kind came found waits brings held p.apart;
          after = set p.after (pending.ticket - 1) (record { operation = pending.operation; mutates = true; came = came });
          has = has_over m p.after h f ms n test fetch pending writes kind came found same held p.apart p.has;
          on = goes_on_ended state command results p.after (pending.ticket - 1) pending.operation true came fetch awaited (ap (λ t. t - 1) (sym same)) brings p.on;
        };
    unanswered = λ h f ms n test fetch found e p. record {
      apart = keep.unanswered h f ms n test fetch found e p.apart;
      after = p.after;
      has = record {
        contents = p.has.contents;
        sent = all_filter (FetchAwaited p.after) (λ (other : OpenFetch O). not (other.number == fetch.number)) f p.has.sent;
        waiting = p.has.waiting;
      };
      on = p.on;
    };
    rowed = λ h f ms n ticket row p. record {
      apart = keep.rowed h f ms n ticket row p.apart;
      after = p.after;
      has = record {
        contents = p.has.contents;
        sent = p.has.sent;
        waiting = all_map (MutationAwaited p.after) (in_row ticket row) ms (all_weaker (MutationAwaited p.after) (λ pending. MutationAwaited p.after (in_row ticket row pending)) (rowed_awaited p.after ticket row) ms p.has.waiting);
      };
      on = p.on;
    };
  }
    where
      keep : KeepsResults m state command (λ h f ms n. AreApart h f ms n)
      keep = keeps_results (λ h f ms n. AreApart h f ms n) keeps_apart m state command

  pub results_go_on : (m : Meaning O) (job : Job) (s : GatewayState O) (results : List (SentOperation O)) → IsApart s → HasResults m results s
      → (after : List (SentOperation O)) × HasResults m after (command_step m job s).state × GoOn s job.command results after
  results_go_on m job s results a r =
      let first : KeptIn (HaveGoneOn m s job.command results) s = record { apart = a; after = results; has = r; on = came_same s job.command results } in
      let gone = results_kept_by_command (HaveGoneOn m s job.command results) m s job (keeps_going_on m s job.command results) first in
      (gone.after, gone.has, gone.on)

  -- ---- the opening

  row_begun : (m : Meaning O) (results : List (SentOperation O)) (operation : O) (row : Option ℕ) (s : GatewayState O) (guess : Option (List Write)) → m.guess operation ≡ guess → HasResults m results s
      → HasResults m (results ++ mutation_of operation ∷ []) (sent m (next_ticket s) None operation (with_mutation (record { ticket = next_ticket s; row = row; operation = operation }) (guessed (next_ticket s) guess (with_ticket s)))).state
  row_begun m results operation row s None e r = has_mutation m results s.history s.fetches s.mutations s.next_fetch row operation None e r
  row_begun m results operation row s (Some writes) e r = has_mutation m results s.history s.fetches s.mutations s.next_fetch row operation (Some writes) e r

  rows_begun : (m : Meaning O) (results : List (SentOperation O)) (offers : List (Offered O)) (s : GatewayState O) → HasResults m results s → HasResults m (results ++ map offered_row offers) (all_offered m offers s).state
  rows_begun m results [] s r = subst (λ (all : List (SentOperation O)). HasResults m all s) (sym (append-nil results)) r
  rows_begun m results (offer ∷ offers) s r =
      let next = (begun_and_sent m offer.1 (Some offer.0) s).state in
      subst (λ (all : List (SentOperation O)). HasResults m all (all_offered m offers next).state) (append_assoc results (mutation_of offer.1 ∷ []) (map offered_row offers))
      (rows_begun m (results ++ mutation_of offer.1 ∷ []) offers next (row_begun m results offer.1 (Some offer.0) s (m.guess offer.1) refl r))

  pub results_at_first : (m : Meaning O) (rows : MutationQueue) (offers : List (Offered O)) → HasResults m (map offered_row offers) (all_offered m offers (first_state rows)).state
  results_at_first m rows offers = rows_begun m [] offers (first_state rows) (record { contents = refl; sent = tt; waiting = tt })

  -- ---- runs

  by_first : (m : Meaning O) (s : GatewayState O) (jobs : List Job) (results : List (SentOperation O)) → IsApart s → HasResults m results s → Reached m (first_taken m s jobs).state (GoOnByFirst s jobs results)
  by_first m s [] results a r = record { apart = a; after = results; has = r; way = refl }
  by_first m s (job ∷ jobs) results a r =
      let rest = record s { jobs = jobs } in
      let gone = results_go_on m job rest results a r in
      record { apart = tickets_apart m job rest a; after = gone.0; has = gone.1; way = gone.2 }

  by_steps : (n : ℕ) (m : Meaning O) (s : GatewayState O) (results : List (SentOperation O)) → IsApart s → HasResults m results s → Reached m (commands_taken n m s).state (GoOnBySteps n m s results)
  by_steps zero m s results a r = record { apart = a; after = results; has = r; way = refl }
  by_steps (suc n) m s results a r =
      let first = by_first m s s.jobs results a r in
      let rest = by_steps n m (command_taken m s).state first.after first.apart first.has in
      record { apart = rest.apart; after = rest.after; has = rest.has; way = (first.after, first.way, rest.way) }

  by_runs : (m : Meaning O) (commands : List Command) (s : GatewayState O) (step : Step O) (results : List (SentOperation O)) → AreRuns m commands s step → IsApart s → HasResults m results s → Reached m step.state (GoOnByRuns m commands s results)
  by_runs m [] s step results e a r =
      let whole : Reached m s (GoOnByRuns m [] s results) = record { apart = a; after = results; has = r; way = refl } in
      subst (λ (one : Step O). Reached m one.state (GoOnByRuns m [] s results)) (sym e) whole
  by_runs m (command ∷ commands) s step results runs a r =
      let run = runs.2 in
      let start = with_command command s in
      let reached : Reached m runs.0.state (GoOnBySteps run.commands m start results)
      = subst (λ (one : Step O). Reached m one.state (GoOnBySteps run.commands m start results)) (sym run.done) (by_steps run.commands m start results a r) in
      let rest = by_runs m commands runs.0.state runs.1 reached.after runs.3 reached.apart reached.has in
      let whole : Reached m runs.1.state (GoOnByRuns m (command ∷ commands) s results) = record { apart = rest.apart; after = rest.after; has = rest.has; way = (runs.0, reached.after, run, reached.way, rest.way) } in
      subst (λ (one : Step O). Reached m one.state (GoOnByRuns m (command ∷ commands) s results)) (sym runs.4) whole

  pub runs_have_results : (m : Meaning O) (rows : MutationQueue) (offers : List (Offered O)) (commands : List Command) (step : Step O) → AreRuns m commands (all_offered m offers (first_state rows)).state step
      → (results : List (SentOperation O)) × HasResults m results step.state × GoOnByRuns m commands (all_offered m offers (first_state rows)).state (map offered_row offers) results
  runs_have_results m rows offers commands step runs =
      let reached = by_runs m commands (all_offered m offers (first_state rows)).state step (map offered_row offers) runs (tickets_apart_at_first m rows offers) (results_at_first m rows offers) in
      (reached.after, reached.has, reached.way)

  -- ---- one map

  same_parts : (one other : SentOperation O) → asked one ≡ asked other → one.came ≡ other.came → one ≡ other
  same_parts one other e f =
      let operation : one.operation ≡ other.operation = ap (λ pair. pair.0) e in
      let mutates : one.mutates ≡ other.mutates = ap (λ pair. pair.1) e in
      let built : (operation : O) (mutates : Bool) (came : Came) → SentOperation O = λ operation mutates came. record { operation = operation; mutates = mutates; came = came } in
      ap (λ o. built o one.mutates one.came) operation ∙ ap (λ b. built other.operation b one.came) mutates ∙ ap (built other.operation other.mutates) f

  same_results : (results others : List (SentOperation O)) → map asked results ≡ map asked others → ((place : ℕ) → came_at results place ≡ came_at others place) → results ≡ others
  same_results [] [] e f = refl
  same_results [] (other ∷ others) e f = absurd cc
  same_results (one ∷ results) [] e f = absurd cc
  same_results (one ∷ results) (other ∷ others) e f =
      let first : asked one ≡ asked other = cc in
      let rest : map asked results ≡ map asked others = cc in
      ap (λ x. x ∷ results) (same_parts one other first (f zero)) ∙ ap (λ xs. other ∷ xs) (same_results results others rest (λ place. f (suc place)))

  pub one_map_of_results : (m : Meaning O) (results others : List (SentOperation O)) (s t : GatewayState O) → HasResults m results s → HasResults m others t
      → map asked results ≡ map asked others → ((place : ℕ) → came_at results place ≡ came_at others place) → (entity field : List ℕ) → flattened s.history entity field ≡ flattened t.history entity field
  one_map_of_results m results others s t a b e f entity field =
      ap (λ (h : History). flattened h entity field) (a.contents ∙ ap (map (content_for m)) (same_results results others e f) ∙ sym b.contents)
