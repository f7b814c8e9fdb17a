-- The change by an answer where it is given what the answer writes and what of it is told, and that by a query where it is given what that reads.
use Rattle.std.proofs.Common.{◌≡◌, ℕ, ◌==◌, false, if◌then◌else◌, List, ◌++◌, find, length, Option, Some, None, Result, refl, ap, ◌∙◌}
use Rattle.std.specs.declared.result.Result.TheVariants.{Ok, Err}
use Rattle.std.specs.Prelude.{nat_le}
use Rattle.std.specs.Option.{option_map_or}
use Rattle.gql_value.specs.declared.value.Value.{Value}
use Rattle.gql_value.specs.declared.outcome.Outcome.TheVariants.{Body}
use Rattle.gql_model.specs.declared.executable.OperationKind.{OperationKind}
use Rattle.gql_model.specs.declared.executable.OperationKind.TheVariants.{Query, Mutation, Subscription}
use Rattle.cache_model.specs.declared.write.Write.{Write}
use Rattle.cache_model.specs.History.{flattened}
use Rattle.send_rules.specs.declared.policy.Policy.{Policy}
use Rattle.machine_model.specs.declared.command.Command.{Command}
use Rattle.machine_model.specs.declared.command.Command.TheOpen.{Dispatch-F}
use Rattle.machine_model.specs.declared.command.Dispatch.{Dispatch}
use Rattle.machine_model.specs.declared.output.Out.TheVariants as out
use Rattle.machine_model.specs.declared.output.Refusal.{Refusal}
use Rattle.machine_model.specs.declared.output.Refusal.TheVariants as refusal
use Rattle.machine_model.specs.Operations.{Meaning, Reading}
use Rattle.machine_model.specs.State.{GatewayState, query, OpenFetch, PendingMutation, is_live}
use Rattle.machine_model.specs.Steps.{Step, Change, followed_by, stops, issues, unmoved, settled_with}
use Rattle.machine_model.specs.Telling.{told}
use Rattle.machine_model.specs.Issue.{is_network_only}
use Rattle.machine_model.specs.Queries.{Sender, live_as, read_at_once, with_live, awaiting, read_turn, turned_newest, key_of, with_identity}
use Rattle.machine_model.specs.Teardowns.{closed}
use Rattle.machine_model.specs.Responses.{over, query_written, mutation_written, mutation_answered, pending_of, fetch_answered, answered_where_open, response}
use Rattle.machine_model.specs.Commands.{most_live, refused_frame, taken, taken_or_refused, sender_of, dispatched}

-- ---- answers

abbrev pub telling : {O : Type 0} → Meaning O → Result (List Write) (List ℕ) → Value → Meaning O
telling m writes projection = record m { written = λ operation answer errors. writes; projected = λ operation answer. projection }

abbrev pub PendingTells : {O : Type 0} → Meaning O → Result (List Write) (List ℕ) → Value → Value → Value → Option (PendingMutation O) → Type 0
PendingTells m writes projection answer errors None = Unit {0}
PendingTells m writes projection answer errors (Some pending) =
    (m.written pending.operation answer errors ≡ writes) × (m.projected pending.operation answer ≡ projection)

abbrev pub KeyTells : {O : Type 0} → Meaning O → Result (List Write) (List ℕ) → Value → Value → Value → GatewayState O → OpenFetch O → Option ℕ → Type 0
KeyTells m writes projection answer errors s fetch (Some key) = m.written fetch.operation answer errors ≡ writes
KeyTells m writes projection answer errors s fetch None =
    PendingTells m writes projection answer errors (pending_of fetch.ticket (closed fetch.number s))

abbrev pub FetchTells : {O : Type 0} → Meaning O → Result (List Write) (List ℕ) → Value → Value → Value → GatewayState O → Option (OpenFetch O) → Type 0
FetchTells m writes projection answer errors s None = Unit {0}
FetchTells m writes projection answer errors s (Some fetch) = KeyTells m writes projection answer errors s fetch fetch.key

projection_is : {O : Type 0} (m : Meaning O) (pending : PendingMutation O) (writes : Result (List Write) (List ℕ)) (projection answer errors : Value) (s : GatewayState O)
    → m.projected pending.operation answer ≡ projection
    → mutation_written m pending answer errors s writes ≡ mutation_written (telling m writes projection) pending answer errors s writes
projection_is m pending (Ok writes) projection answer errors s e =
    ap
    (λ value. over pending (λ live. told m live (out.Reply live.peer live.id value errors false false))
    (settled_with pending.ticket (writes ++ m.updates pending.operation answer) s))
    e
projection_is m pending (Err path) projection answer errors s e = refl

written_is : {O : Type 0} (m : Meaning O) (fetch : OpenFetch O) (key : ℕ) (writes : Result (List Write) (List ℕ)) (projection errors : Value) (s : GatewayState O)
    → query_written m fetch key errors s writes ≡ query_written (telling m writes projection) fetch key errors s writes
written_is m fetch key (Ok writes) projection errors s = refl
written_is m fetch key (Err path) projection errors s = refl

pending_is : {O : Type 0} (m : Meaning O) (writes : Result (List Write) (List ℕ)) (projection answer errors : Value) (s : GatewayState O) (otherwise : Change O) (found : Option (PendingMutation O))
    → PendingTells m writes projection answer errors found
    → option_map_or (λ pending. mutation_answered m pending s (Body answer errors)) found otherwise
    ≡ option_map_or (λ pending. mutation_answered (telling m writes projection) pending s (Body answer errors)) found otherwise
pending_is m writes projection answer errors s otherwise None e = refl
pending_is m writes projection answer errors s otherwise (Some pending) e =
    ap (mutation_written m pending answer errors s) e.0 ∙ projection_is m pending writes projection answer errors s e.1

key_is : {O : Type 0} (m : Meaning O) (writes : Result (List Write) (List ℕ)) (projection answer errors : Value) (s : GatewayState O) (fetch : OpenFetch O) (key : Option ℕ)
    → KeyTells m writes projection answer errors s fetch key
    → fetch_answered m fetch (Body answer errors) (closed fetch.number s) key
    ≡ fetch_answered (telling m writes projection) fetch (Body answer errors) (closed fetch.number s) key
key_is m writes projection answer errors s fetch (Some key) e =
    ap (query_written m fetch key errors (closed fetch.number s)) e ∙ written_is m fetch key writes projection errors (closed fetch.number s)
key_is m writes projection answer errors s fetch None e =
    let later = closed fetch.number s in
    pending_is m writes projection answer errors later (followed_by (unmoved later) stops) (pending_of fetch.ticket later) e

fetch_is : {O : Type 0} (m : Meaning O) (writes : Result (List Write) (List ℕ)) (projection answer errors : Value) (peer line : ℕ) (s : GatewayState O) (found : Option (OpenFetch O))
    → FetchTells m writes projection answer errors s found
    → answered_where_open m peer line (Body answer errors) s found ≡ answered_where_open (telling m writes projection) peer line (Body answer errors) s found
fetch_is m writes projection answer errors peer line s None e = refl
fetch_is m writes projection answer errors peer line s (Some fetch) e = key_is m writes projection answer errors s fetch fetch.key e

pub response_is : {O : Type 0} (m : Meaning O) (writes : Result (List Write) (List ℕ)) (projection answer errors : Value) (peer number line : ℕ) (s : GatewayState O)
    → FetchTells m writes projection answer errors s (find (λ fetch. fetch.number == number) s.fetches)
    → response m peer number line (Body answer errors) s ≡ response (telling m writes projection) peer number line (Body answer errors) s
response_is m writes projection answer errors peer number line s e =
    fetch_is m writes projection answer errors peer line s (find (λ fetch. fetch.number == number) s.fetches) e

-- ---- queries

abbrev pub reading : {O : Type 0} → Meaning O → Reading → Meaning O
reading m now = record m { read = λ operation cells. now }

abbrev pub read_as : {O : Type 0} → Meaning O → Sender → O → ℕ → Policy → GatewayState O → Reading → Step O
read_as m sender operation key policy s now =
    let listening = read_at_once operation key policy now in
    turned_newest (read_turn m s (live_as sender (query listening)) listening) s

abbrev pub added_as : {O : Type 0} → Meaning O → Sender → O → ℕ → Policy → GatewayState O → Reading → Step O
added_as m sender operation key policy s now =
    if is_network_only policy
    then unmoved (with_live (live_as sender (query (awaiting operation key policy))) s)
    else read_as m sender operation key policy s now

taken_is : {O : Type 0} (m : Meaning O) (now : Reading) (sender : Sender) (policy : Policy) (operation : O) (s : GatewayState O) (kind : OperationKind)
    → m.read operation (flattened s.history) ≡ now → taken m sender policy operation s kind ≡ taken (reading m now) sender policy operation s kind
taken_is m now sender policy operation s Query e =
    let identity = m.identity operation in
    ap
    (λ r.
    followed_by
    (added_as m sender operation (key_of s.identities identity) policy (record s { identities = with_identity s.identities identity }) r)
    issues)
    e
taken_is m now sender policy operation s Mutation e = refl
taken_is m now sender policy operation s Subscription e = refl

-- the dispatch asks for an operation that reads this
abbrev pub Reads : {O : Type 0} → Meaning O → Reading → GatewayState O → Result O Refusal → Type 0
Reads m now s (Ok operation) = m.read operation (flattened s.history) ≡ now
Reads m now s (Err refusal) = Unit {0}

judged_is : {O : Type 0} (m : Meaning O) (now : Reading) (sender : Sender) (line : ℕ) (policy : Policy) (s : GatewayState O) (judged : Result O Refusal)
    → Reads m now s judged → taken_or_refused m sender line policy s judged ≡ taken_or_refused (reading m now) sender line policy s judged
judged_is m now sender line policy s (Ok operation) e = taken_is m now sender policy operation s (m.kind operation) e
judged_is m now sender line policy s (Err refusal) e = refl

pub dispatched_is : {O : Type 0} (m : Meaning O) (now : Reading) (dispatch : Dispatch) (parts : Dispatch-F Command Dispatch) (s : GatewayState O)
    → Reads m now s (m.judged dispatch) → dispatched m dispatch parts s ≡ dispatched (reading m now) dispatch parts s
dispatched_is m now dispatch parts s e =
    ap
    (λ change.
    if is_live s parts.peer parts.id then refused_frame parts.peer parts.line refusal.E4 s
    else (if nat_le most_live (length s.live) then refused_frame parts.peer parts.line refusal.E12 s else change))
    (judged_is m now (sender_of parts) parts.line parts.policy s (m.judged dispatch) e)
