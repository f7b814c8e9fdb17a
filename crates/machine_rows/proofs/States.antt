-- States between the commands of runs, written out.
use Rattle.std.proofs.Common.{ℕ, Bool, true, false, List, [], ◌∷◌, ◌++◌, codes, Option, Some, None}
use Rattle.cache_model.specs.declared.kind.Kind.{Kind}
use Rattle.cache_model.specs.declared.kind.Kind.TheVariants.{Optimistic, Final}
use Rattle.cache_model.specs.declared.write.Write.{Write}
use Rattle.cache_model.specs.History.{Content, no_content}
use Rattle.send_rules.specs.declared.policy.Policy.{Policy}
use Rattle.send_rules.specs.declared.policy.Policy.TheVariants.{CacheFirst, CacheOnly, NetworkOnly}
use Rattle.send_rules.specs.declared.policy.ReadingKind.TheVariants.{Hit, Partial, Miss}
use Rattle.machine_model.specs.declared.command.Command.{Command}
use Rattle.machine_model.specs.Operations.{Reading, Places}
use Rattle.machine_model.specs.State.{GatewayState, LiveOperation, LiveQuery, query, mutation, OpenFetch, PendingMutation}
use Rattle.machine_model.specs.Queries.{unread}
use Rattle.machine_rows.specs.Values.{null}
use Rattle.machine_rows.specs.Operations.{Operation, me_id_name, me_id, me_id_nick, me_nick, todo_id_done, todos_id, rename_bob, set_done, todo_key}
use Rattle.machine_rows.specs.Meanings.{identity_of, todo_done, todos_dropped}
use Rattle.machine_rows.specs.Dialogs.{client, no_rows}
use Rattle.machine_rows.specs.Queries.{me_told, part}
use Rattle.machine_rows.specs.Mutations.{done_told, two_rows}
use Rattle.machine_rows.proofs.Writes.{me_writes, todo_done_writes, todos_writes}

-- a query that has been told something, and one that hasn't
abbrev live_query : Option (List Command) → ℕ → LiveQuery Operation → LiveOperation Operation
live_query follow_ups id listening = record { peer = client; id = id; follow_ups = follow_ups; listens = query listening }

abbrev told_query : ℕ → LiveQuery Operation → LiveOperation Operation
told_query = live_query None

abbrev new_query : ℕ → LiveQuery Operation → LiveOperation Operation
new_query = live_query (Some [])

-- a query that is read, and perhaps due
abbrev read_query : Operation → ℕ → Policy → Reading → Bool → LiveQuery Operation
read_query operation key policy last due =
    record { operation = operation; key = key; policy = policy; last = last; awaits = false; due = due }

-- the listener of a mutation
abbrev listener : ℕ → ℕ → LiveOperation Operation
listener id ticket = record { peer = client; id = id; follow_ups = Some []; listens = mutation ticket }

abbrev content : Kind → Bool → List Write → Content
content kind finished writes = record { kind = kind; finished = finished; writes = writes }

abbrev open_fetch : ℕ → ℕ → Option ℕ → Operation → OpenFetch Operation
open_fetch number ticket key operation = record { number = number; ticket = ticket; key = key; operation = operation }

abbrev pending : ℕ → Option ℕ → Operation → PendingMutation Operation
pending ticket row operation = record { ticket = ticket; row = row; operation = operation }

-- a miss that looked at the root alone
abbrev missed : List ℕ → Reading
missed field = record { kind = Miss; value = null; visited = (codes "Query", field) ∷ [] }

abbrev user_looks : Places
user_looks = (codes "Query", codes "me") ∷ (codes "User:7", codes "__typename") ∷ (codes "User:7", codes "id") ∷ []

abbrev user_hit : Reading
user_hit = record { kind = Hit; value = me_told (codes "Ann"); visited = user_looks ++ (codes "User:7", codes "name") ∷ [] }

abbrev nick_partial : Reading
nick_partial = record { kind = Partial; value = part; visited = user_looks ++ (codes "User:7", codes "nick") ∷ [] }

abbrev done_hit : Reading
done_hit = record {
  kind = Hit;
  value = done_told (codes "todo") true;
  visited =
      (codes "Query", todo_key)
      ∷ (codes "Todo:1", codes "__typename")
      ∷ (codes "Todo:1", codes "id")
      ∷ (codes "Todo:1", codes "done")
      ∷ [];
}

-- the user was asked for and answered
abbrev pub answered_once : GatewayState Operation
answered_once = record {
  live = told_query 1 (read_query me_id_name 0 CacheFirst user_hit false) ∷ [];
  history = content Final true (me_writes (codes "Ann")) ∷ [];
  fetches = [];
  mutations = [];
  rows = no_rows;
  jobs = [];
  next_fetch = 2;
  identities = identity_of me_id_name ∷ [];
}

-- then a part was read under cache-only, and a query was sent under network-only
abbrev pub beside_each_other : GatewayState Operation
beside_each_other = record {
  live =
      told_query 1 (read_query me_id_name 0 CacheFirst user_hit false)
      ∷ told_query 2 (read_query me_id_nick 1 CacheOnly nick_partial false)
      ∷ new_query 3 (record { operation = me_nick; key = 2; policy = NetworkOnly; last = unread; awaits = true; due = false })
      ∷ [];
  history = content Final true (me_writes (codes "Ann")) ∷ no_content ∷ [];
  fetches = open_fetch 2 2 (Some 2) me_nick ∷ [];
  mutations = [];
  rows = no_rows;
  jobs = [];
  next_fetch = 3;
  identities = identity_of me_id_name ∷ identity_of me_id_nick ∷ identity_of me_nick ∷ [];
}

-- a query and a mutation were sent, and another query was read under cache-only
abbrev pub three_listen : GatewayState Operation
three_listen = record {
  live =
      new_query 1 (read_query me_id_name 0 CacheFirst (missed (codes "me")) false)
      ∷ listener 2 2
      ∷ told_query 3 (read_query me_id 1 CacheOnly (missed (codes "me")) false)
      ∷ [];
  history = no_content ∷ no_content ∷ [];
  fetches = open_fetch 1 1 (Some 0) me_id_name ∷ open_fetch 2 2 None rename_bob ∷ [];
  mutations = pending 2 None rename_bob ∷ [];
  rows = no_rows;
  jobs = [];
  next_fetch = 3;
  identities = identity_of me_id_name ∷ identity_of me_id ∷ [];
}

-- a todo was read, and then guessed to be done
abbrev pub guessed_done : GatewayState Operation
guessed_done = record {
  live = told_query 1 (read_query todo_id_done 0 CacheFirst done_hit false) ∷ listener 2 2 ∷ [];
  history = content Final true (todo_done_writes false) ∷ content Optimistic false (todo_done true) ∷ [];
  fetches = open_fetch 2 2 None (set_done true) ∷ [];
  mutations = pending 2 None (set_done true) ∷ [];
  rows = no_rows;
  jobs = [];
  next_fetch = 3;
  identities = identity_of todo_id_done ∷ [];
}

-- all todos were read, and then guessed to be out of date
abbrev pub guessed_away : GatewayState Operation
guessed_away = record {
  live = told_query 1 (read_query todos_id 0 CacheFirst (missed (codes "todos")) true) ∷ listener 2 2 ∷ [];
  history = content Final true todos_writes ∷ content Optimistic false (todo_done true ++ todos_dropped) ∷ [];
  fetches = open_fetch 2 2 None (set_done true) ∷ [];
  mutations = pending 2 None (set_done true) ∷ [];
  rows = no_rows;
  jobs = [];
  next_fetch = 3;
  identities = identity_of todos_id ∷ [];
}

-- two mutations were sent
abbrev pub two_sent : GatewayState Operation
two_sent = record {
  live = listener 1 1 ∷ listener 2 2 ∷ [];
  history = content Optimistic false (todo_done true) ∷ content Optimistic false (todo_done false) ∷ [];
  fetches = open_fetch 1 1 None (set_done true) ∷ open_fetch 2 2 None (set_done false) ∷ [];
  mutations = pending 1 None (set_done true) ∷ pending 2 None (set_done false) ∷ [];
  rows = no_rows;
  jobs = [];
  next_fetch = 3;
  identities = [];
}

-- two rows were offered
abbrev pub two_offered : GatewayState Operation
two_offered = record {
  live = [];
  history = content Optimistic false (todo_done true) ∷ content Optimistic false (todo_done false) ∷ [];
  fetches = open_fetch 1 1 None (set_done true) ∷ open_fetch 2 2 None (set_done false) ∷ [];
  mutations = pending 1 (Some 1) (set_done true) ∷ pending 2 (Some 2) (set_done false) ∷ [];
  rows = two_rows;
  jobs = [];
  next_fetch = 3;
  identities = [];
}

-- a query was sent, and these commands are to follow its first reply
abbrev pub followed_once : List Command → GatewayState Operation
followed_once commands = record {
  live = live_query (Some commands) 1 (read_query me_id_name 0 CacheFirst (missed (codes "me")) false) ∷ [];
  history = no_content ∷ [];
  fetches = open_fetch 1 1 (Some 0) me_id_name ∷ [];
  mutations = [];
  rows = no_rows;
  jobs = [];
  next_fetch = 2;
  identities = identity_of me_id_name ∷ [];
}
