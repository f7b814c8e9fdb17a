-- The step of a command where it is given what opaque values tell: what each live query reads, whether that differs from its last reading, and which queries are sent. All else computes.
use Rattle.std.proofs.Common.{◌≡◌, ◌==◌, ◌&&◌, ◌||◌, Bool, false, not, if◌then◌else◌, List, [], ◌∷◌, ◌++◌, map, flat_map, Option, Some, None, refl, ap, ◌∙◌}
use Rattle.cache_model.specs.History.{flattened, is_blocked}
use Rattle.machine_model.specs.declared.command.Command.{Command}
use Rattle.machine_model.specs.declared.output.Out.{Out}
use Rattle.machine_model.specs.Operations.{Reading}
use Rattle.machine_model.specs.Readings.{is_hit, is_miss}
use Rattle.machine_model.specs.State.{GatewayState, LiveOperation, LiveQuery, Listening, query, mutation, is_in_flight}
use Rattle.machine_model.specs.Steps.{Step, Change, Sequel, stops, issues, reevaluates, Answer, unmoved, and_then, made}
use Rattle.machine_model.specs.FollowUps.{all_joined}
use Rattle.machine_model.specs.Telling.{Turn, untold, told, no_errors, reply, listening_as, all_turned}
use Rattle.machine_model.specs.Reevaluation.{may_become_due, is_changed, reread, reading_now, answered_turn, query_turn, turn_of, reevaluated}
use Rattle.machine_model.specs.Issue.{is_network_only, query_sent, issued_for, issued_over, issued}
use Rattle.machine_model.specs.Sequels.{followed, concluded}
use Rattle.machine_rows.specs.Operations.{Operation}
use Rattle.machine_rows.specs.Meanings.{Rules, meaning}
use Rattle.machine_rows.proofs.Readings.{Root, nowhere, Leads, now_by, read_is}

-- of a live operation: where its root field leads to, whether a client sees a difference to its last reading, and whether it is sent
pub record Saw : Type 0 where
  pub root : Root
  pub changed : Bool
  pub sends : Bool

-- of all live operations, in order of dispatch
abbrev pub View : Type 0
View = List Saw

abbrev pub saw : Root → Bool → Bool → Saw
saw root changed sends = record { root = root; changed = changed; sends = sends }

-- of a mutation, which reads nothing
abbrev pub listens : Saw
listens = saw nowhere false false

-- what a query reads in a state
abbrev pub now_in : Saw → LiveQuery Operation → GatewayState Operation → Reading
now_in own l s = now_by own.root l.operation (flattened s.history)

abbrev pub LeadsIn : Saw → LiveQuery Operation → GatewayState Operation → Type 0
LeadsIn own l s = Leads own.root l.operation (flattened s.history)

-- ---- turns

abbrev pub other_by : Rules → GatewayState Operation → LiveOperation Operation → LiveQuery Operation → Reading → Bool → Turn Operation
other_by rules s live l now changed =
    let after = reread l now (l.due || (may_become_due l.policy && changed && not (is_hit now))) in
    if changed && not (is_miss now)
    then told (meaning rules) (listening_as live after) (reply s no_errors live after)
    else untold (listening_as live after)

abbrev pub unanswered_by : Rules → GatewayState Operation → LiveOperation Operation → LiveQuery Operation → Reading → Bool → Turn Operation
unanswered_by rules s live l now changed = if l.awaits then untold live else other_by rules s live l now changed

abbrev pub query_by : Rules → GatewayState Operation → Option Answer → LiveOperation Operation → LiveQuery Operation → Reading → Bool → Turn Operation
query_by rules s None live l now changed = unanswered_by rules s live l now changed
query_by rules s (Some answer) live l now changed =
    if answer.key == l.key then answered_turn (meaning rules) s live l now answer else unanswered_by rules s live l now changed

query_is : (rules : Rules) (s : GatewayState Operation) (answer : Option Answer) (live : LiveOperation Operation) (l : LiveQuery Operation) (now : Reading) (changed : Bool)
    → reading_now (meaning rules) s l ≡ now → is_changed l now ≡ changed → query_turn (meaning rules) s answer live l ≡ query_by rules s answer live l now changed
query_is rules s None live l now changed e c = ap (λ r. query_by rules s None live l r (is_changed l r)) e ∙ ap (query_by rules s None live l now) c
query_is rules s (Some answer) live l now changed e c =
    ap (λ r. query_by rules s (Some answer) live l r (is_changed l r)) e ∙ ap (query_by rules s (Some answer) live l now) c

abbrev pub turn_by : Rules → GatewayState Operation → Option Answer → LiveOperation Operation → Listening Operation → Saw → Turn Operation
turn_by rules s answer live (query l) own = query_by rules s answer live l (now_in own l s) own.changed
turn_by rules s answer live (mutation ticket) own = untold live

abbrev pub IsSeen : Rules → GatewayState Operation → Listening Operation → Saw → Type 0
IsSeen rules s (query l) own = LeadsIn own l s × (is_changed l (now_in own l s) ≡ own.changed)
IsSeen rules s (mutation ticket) own = Unit {0}

turn_is : (rules : Rules) (s : GatewayState Operation) (answer : Option Answer) (live : LiveOperation Operation) (listens : Listening Operation) (own : Saw)
    → IsSeen rules s listens own → turn_of (meaning rules) s answer live listens ≡ turn_by rules s answer live listens own
turn_is rules s answer live (query l) own e = query_is rules s answer live l (now_in own l s) own.changed (read_is own.root l.operation (flattened s.history) e.0) e.1
turn_is rules s answer live (mutation ticket) own e = refl

abbrev pub turns_by : Rules → GatewayState Operation → Option Answer → List (LiveOperation Operation) → View → List (Turn Operation)
turns_by rules s answer [] view = []
turns_by rules s answer (live ∷ lives) [] = untold live ∷ turns_by rules s answer lives []
turns_by rules s answer (live ∷ lives) (own ∷ view) = turn_by rules s answer live live.listens own ∷ turns_by rules s answer lives view

abbrev pub AreSeen : Rules → GatewayState Operation → List (LiveOperation Operation) → View → Type 0
AreSeen rules s [] view = Unit {0}
AreSeen rules s (live ∷ lives) [] = ⊥
AreSeen rules s (live ∷ lives) (own ∷ view) = IsSeen rules s live.listens own × AreSeen rules s lives view

turns_are : (rules : Rules) (s : GatewayState Operation) (answer : Option Answer) (lives : List (LiveOperation Operation)) (view : View)
    → AreSeen rules s lives view → map (λ live. turn_of (meaning rules) s answer live live.listens) lives ≡ turns_by rules s answer lives view
turns_are rules s answer [] view e = refl
turns_are rules s answer (live ∷ lives) [] e = absurd e
turns_are rules s answer (live ∷ lives) (own ∷ view) e =
    ap (λ turn. turn ∷ map (λ l. turn_of (meaning rules) s answer l l.listens) lives) (turn_is rules s answer live live.listens own e.0)
    ∙ ap (λ turns. turn_by rules s answer live live.listens own ∷ turns) (turns_are rules s answer lives view e.1)

-- ---- all turns together

flat_fused : {X Y Z : Type 0} (f : X → Y) (g : Y → List Z) (xs : List X) → flat_map (λ x. g (f x)) xs ≡ flat_map g (map f xs)
flat_fused f g [] = refl
flat_fused f g (x ∷ xs) = ap (λ more. g (f x) ++ more) (flat_fused f g xs)

map_fused : {X Y Z : Type 0} (f : X → Y) (g : Y → Z) (xs : List X) → map (λ x. g (f x)) xs ≡ map g (map f xs)
map_fused f g [] = refl
map_fused f g (x ∷ xs) = ap (λ more. g (f x) ∷ more) (map_fused f g xs)

abbrev pub turned : GatewayState Operation → List Out → List (LiveOperation Operation) → List Command → Step Operation
turned s outs live commands = record { outs = outs; state = record s { live = live; jobs = all_joined s.jobs commands } }

abbrev pub gathered : List (Turn Operation) → GatewayState Operation → Step Operation
gathered turns s = turned s (flat_map (λ turn. turn.outs) turns) (map (λ turn. turn.live) turns) (flat_map (λ turn. turn.follow_ups) turns)

turned_is : (turn : LiveOperation Operation → Turn Operation) (s : GatewayState Operation) → all_turned turn s ≡ gathered (map turn s.live) s
turned_is turn s =
    ap (λ outs. turned s outs (map (λ live. (turn live).live) s.live) (flat_map (λ live. (turn live).follow_ups) s.live)) (flat_fused turn (λ t. t.outs) s.live)
    ∙ ap (λ lives. turned s (flat_map (λ t. t.outs) (map turn s.live)) lives (flat_map (λ live. (turn live).follow_ups) s.live)) (map_fused turn (λ t. t.live) s.live)
    ∙ ap (turned s (flat_map (λ t. t.outs) (map turn s.live)) (map (λ t. t.live) (map turn s.live))) (flat_fused turn (λ t. t.follow_ups) s.live)

reevaluated_is : (rules : Rules) (answer : Option Answer) (s : GatewayState Operation) (view : View)
    → AreSeen rules s s.live view → reevaluated (meaning rules) answer s ≡ gathered (turns_by rules s answer s.live view) s
reevaluated_is rules answer s view e =
    turned_is (λ live. turn_of (meaning rules) s answer live live.listens) s ∙ ap (λ turns. gathered turns s) (turns_are rules s answer s.live view e)

-- ---- the issue of fetches

abbrev pub may_send : GatewayState Operation → LiveQuery Operation → Reading → Bool
may_send s l now = l.due && not (is_in_flight s l.key) && (is_network_only l.policy || not (is_blocked now.visited s.history))

abbrev pub issued_one : Rules → Bool → GatewayState Operation → Listening Operation → Step Operation
issued_one rules sends s (query l) = if sends then query_sent (meaning rules) l s else unmoved s
issued_one rules sends s (mutation ticket) = unmoved s

abbrev pub IsSent : Rules → GatewayState Operation → Listening Operation → Saw → Type 0
IsSent rules s (query l) own = LeadsIn own l s × (may_send s l (now_in own l s) ≡ own.sends)
IsSent rules s (mutation ticket) own = Unit {0}

one_is : (rules : Rules) (own : Saw) (s : GatewayState Operation) (listens : Listening Operation) → IsSent rules s listens own → issued_for (meaning rules) listens s ≡ issued_one rules own.sends s listens
one_is rules own s (query l) e = ap (λ now. issued_one rules (may_send s l now) s (query l)) (read_is own.root l.operation (flattened s.history) e.0) ∙ ap (λ b. issued_one rules b s (query l)) e.1
one_is rules own s (mutation ticket) e = refl

abbrev pub issued_by : Rules → List (LiveOperation Operation) → View → GatewayState Operation → Step Operation
issued_by rules [] view s = unmoved s
issued_by rules (live ∷ lives) [] s = unmoved s
issued_by rules (live ∷ lives) (own ∷ view) s = and_then (issued_one rules own.sends s live.listens) (issued_by rules lives view)

abbrev pub AreSent : Rules → List (LiveOperation Operation) → View → GatewayState Operation → Type 0
AreSent rules [] view s = Unit {0}
AreSent rules (live ∷ lives) [] s = ⊥
AreSent rules (live ∷ lives) (own ∷ view) s = IsSent rules s live.listens own × AreSent rules lives view (issued_one rules own.sends s live.listens).state

issued_are : (rules : Rules) (lives : List (LiveOperation Operation)) (view : View) (s : GatewayState Operation)
    → AreSent rules lives view s → issued_over (meaning rules) lives s ≡ issued_by rules lives view s
issued_are rules [] view s e = refl
issued_are rules (live ∷ lives) [] s e = absurd e
issued_are rules (live ∷ lives) (own ∷ view) s e =
    ap (λ step. and_then step (issued_over (meaning rules) lives)) (one_is rules own s live.listens e.0)
    ∙ ap (λ (rest : Step Operation). record { outs = (issued_one rules own.sends s live.listens).outs ++ rest.outs; state = rest.state })
    (issued_are rules lives view (issued_one rules own.sends s live.listens).state e.1)

-- ---- a change with what follows

abbrev pub reevaluated_by : Rules → View → Option Answer → GatewayState Operation → Step Operation
reevaluated_by rules view answer s = gathered (turns_by rules s answer s.live view) s

abbrev pub followed_by : Rules → View → Sequel → GatewayState Operation → Step Operation
followed_by rules view stops s = unmoved s
followed_by rules view issues s = issued_by rules s.live view s
followed_by rules view (reevaluates ticket answer) s = and_then (reevaluated_by rules view answer s) (λ t. issued_by rules t.live view t)

abbrev pub Fits : Rules → View → Sequel → GatewayState Operation → Type 0
Fits rules view stops s = Unit {0}
Fits rules view issues s = AreSent rules s.live view s
Fits rules view (reevaluates ticket answer) s =
    AreSeen rules s s.live view × AreSent rules (reevaluated_by rules view answer s).state.live view (reevaluated_by rules view answer s).state

followed_is : (rules : Rules) (view : View) (sequel : Sequel) (s : GatewayState Operation) → Fits rules view sequel s → followed (meaning rules) sequel s ≡ followed_by rules view sequel s
followed_is rules view stops s e = refl
followed_is rules view issues s e = issued_are rules s.live view s e
followed_is rules view (reevaluates ticket answer) s e =
    let after = (reevaluated_by rules view answer s).state in
    ap (λ step. and_then step (issued (meaning rules))) (reevaluated_is rules answer s view e.0)
    ∙ ap (λ (rest : Step Operation). record { outs = (reevaluated_by rules view answer s).outs ++ rest.outs; state = rest.state })
    (issued_are rules after.live view after e.1)

abbrev pub concluded_by : Rules → View → Change Operation → Step Operation
concluded_by rules view change = and_then (made change) (followed_by rules view change.sequel)

pub concluded_is : (rules : Rules) (view : View) (change : Change Operation)
    → Fits rules view change.sequel change.state → concluded (meaning rules) change ≡ concluded_by rules view change
concluded_is rules view change e =
    ap (λ (rest : Step Operation). record { outs = change.outs ++ rest.outs; state = rest.state }) (followed_is rules view change.sequel change.state e)
