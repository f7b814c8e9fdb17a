-- The dispatch of a query: by its policy it is told what the cache has, sent, or both (urql, request policies).
use Rattle.std.specs.Prelude.{ℕ, ◌&&◌, Bool, true, false, if◌then◌else◌, List, [], ◌∷◌, ◌++◌, length, Some, unwrap_or, position, bytes_eq}
use Rattle.std.specs.Option.{is_none}
use Rattle.gql_value.specs.declared.value.Value.{roll-Value}
use Rattle.gql_value.specs.declared.value.Value.TheOpen.{Value-F}
use Rattle.cache_model.specs.History.{flattened}
use Rattle.send_rules.specs.declared.policy.Policy.{Policy}
use Rattle.send_rules.specs.declared.policy.ReadingKind.TheVariants.{Miss}
use Rattle.send_rules.specs.Policies.{plan_of}
use Rattle.machine_model.specs.declared.command.Command.{Command}
use Rattle.machine_model.specs.Operations.{Meaning, Reading, Identity}
use Rattle.machine_model.specs.State.{GatewayState, LiveOperation, LiveQuery, Listening, query}
use Rattle.machine_model.specs.Steps.{Step, Change, followed_by, issues, unmoved}
use Rattle.machine_model.specs.FollowUps.{all_joined}
use Rattle.machine_model.specs.Telling.{Turn, untold, told, no_errors, reply}
use Rattle.machine_model.specs.Issue.{is_network_only}

-- two identities are equal
abbrev pub same_identity : Identity → Identity → Bool
same_identity identity other =
    bytes_eq identity.document other.document && bytes_eq identity.operation other.operation && bytes_eq identity.variables other.variables

-- the number of an identity: its place among those that were met, or the next one
abbrev pub key_of : List Identity → Identity → ℕ
key_of identities identity = unwrap_or (position (same_identity identity) identities) (length identities)

-- the identities with this one, where it wasn't met before
abbrev pub with_identity : List Identity → Identity → List Identity
with_identity identities identity =
    if is_none (position (same_identity identity) identities) then identities ++ identity ∷ [] else identities

-- who dispatches an operation: the client, the number that it gives, and the commands that follow the first reply or fault
pub record Sender : Type 0 where
  pub peer : ℕ
  pub id : ℕ
  pub follow_ups : List Command

-- an operation that was just dispatched
abbrev pub live_as : {O : Type 0} → Sender → Listening O → LiveOperation O
live_as sender listening = record { peer = sender.peer; id = sender.id; follow_ups = Some sender.follow_ups; listens = listening }

-- the state with one more live operation
abbrev pub with_live : {O : Type 0} → LiveOperation O → GatewayState O → GatewayState O
with_live live state = record state { live = state.live ++ live ∷ [] }

-- nothing was read yet
abbrev pub unread : Reading
unread = record { kind = Miss; value = roll-Value Value-F.Null; visited = [] }

-- a network-only query isn't read: it awaits its answer, and is due
abbrev pub awaiting : {O : Type 0} → O → ℕ → Policy → LiveQuery O
awaiting operation key policy = record { operation = operation; key = key; policy = policy; last = unread; awaits = true; due = true }

-- any other query is read at once, and due where its policy sends after such a reading
abbrev pub read_at_once : {O : Type 0} → O → ℕ → Policy → Reading → LiveQuery O
read_at_once operation key policy reading =
    record { operation = operation; key = key; policy = policy; last = reading; awaits = false; due = (plan_of policy reading.kind).send }

-- it is told its reading where its policy tells after such a reading; a miss as null
abbrev pub read_turn : {O : Type 0} → Meaning O → GatewayState O → LiveOperation O → LiveQuery O → Turn O
read_turn meaning state live listening =
    if (plan_of listening.policy listening.last.kind).tell then told meaning live (reply state no_errors live listening) else untold live

-- a turn of the newest operation, which joins the live ones after it
abbrev pub turned_newest : {O : Type 0} → Turn O → GatewayState O → Step O
turned_newest turn state = record {
  outs = turn.outs;
  state = record state { live = state.live ++ turn.live ∷ []; jobs = all_joined state.jobs turn.follow_ups };
}

-- a query is read over the flattened map, and told by its policy
abbrev pub query_read : {O : Type 0} → Meaning O → Sender → O → ℕ → Policy → GatewayState O → Step O
query_read meaning sender operation key policy state =
    let listening = read_at_once operation key policy (meaning.read operation (flattened state.history)) in
    turned_newest (read_turn meaning state (live_as sender (query listening)) listening) state

-- a query joins the live ones: a network-only one unread, to await its answer; any other is read at once
abbrev pub query_added : {O : Type 0} → Meaning O → Sender → O → ℕ → Policy → GatewayState O → Step O
query_added meaning sender operation key policy state =
    if is_network_only policy
    then unmoved (with_live (live_as sender (query (awaiting operation key policy))) state)
    else query_read meaning sender operation key policy state

-- a query joins the live ones under the key of its identity; then due fetches are issued
abbrev pub query_dispatched : {O : Type 0} → Meaning O → Sender → O → Policy → GatewayState O → Change O
query_dispatched meaning sender operation policy state =
    let identity = meaning.identity operation in
    followed_by
    (query_added meaning sender operation (key_of state.identities identity) policy (record state { identities = with_identity state.identities identity }))
    issues
