-- Runs of queries.
use Rattle.std.specs.Prelude.{ℕ, true, false, List, [], ◌∷◌, ◌++◌, codes}
use Rattle.gql_value.specs.declared.value.Value.{Value}
use Rattle.cache_model.specs.declared.cell.Cell.TheVariants as cell
use Rattle.cache_model.specs.Listing.{Row}
use Rattle.send_rules.specs.declared.policy.Policy.{Policy}
use Rattle.send_rules.specs.declared.policy.Policy.TheVariants.{CacheFirst, CacheOnly, NetworkOnly}
use Rattle.machine_model.specs.declared.output.Out.{Out}
use Rattle.machine_model.specs.declared.output.Out.TheVariants as out
use Rattle.machine_model.specs.declared.output.Refusal.TheVariants.{E5, E10}
use Rattle.machine_rows.specs.Values.{null, text, object}
use Rattle.machine_rows.specs.Operations.{me_id_name, me_nick, todo_id_author, todo_key}
use Rattle.machine_rows.specs.Writing.{link_to}
use Rattle.machine_rows.specs.Dialogs.{Exchange, gives, client, dispatch, dispatch_under, dispatch_then, teardown, answer, layers, flat, reply, told, fetch, refused, kept}

-- the user 7 of this name, as an object of an answer
abbrev pub user_object : List ℕ → Value
user_object name = object ((codes "__typename", text (codes "User")) ∷ (codes "id", text (codes "7")) ∷ (codes "name", text name) ∷ [])

-- the same user as it is told, without `__typename`
abbrev pub user_shown : List ℕ → Value
user_shown name = object ((codes "id", text (codes "7")) ∷ (codes "name", text name) ∷ [])

-- an answer whose `me` is the user 7 of this name
abbrev pub me_answer : List ℕ → Value
me_answer name = object ((codes "me", user_object name) ∷ [])

-- that answer as it is told
abbrev pub me_told : List ℕ → Value
me_told name = object ((codes "me", user_shown name) ∷ [])

-- a listed cell: at this field of this object stands a text
abbrev pub leaf : List ℕ → List ℕ → List ℕ → Row
leaf entity field value = (entity, field, cell.Leaf (text value))

-- a listed cell: this field of this object links to another object
abbrev pub link : List ℕ → List ℕ → List ℕ → Row
link entity field to = (entity, field, cell.Link (link_to to))

-- one user is asked for and answered
abbrev pub first_answer : List Exchange
first_answer =
    gives (dispatch 1 (codes "{me{id name}}")) (fetch 1 me_id_name ∷ [])
    ∷ gives (answer 1 (me_answer (codes "Ann"))) (reply 1 (me_told (codes "Ann")) ∷ [])
    ∷ []

-- the same is asked in other words while it is fetched: one fetch is sent, and its answer is told to both
abbrev pub one_query_for_two : List Exchange
one_query_for_two =
    gives (dispatch 1 (codes "{me{id name}}")) (fetch 1 me_id_name ∷ [])
    ∷ gives (dispatch 2 (codes "{ me { id, name } }")) []
    ∷ gives (answer 1 (me_answer (codes "Ann"))) (reply 1 (me_told (codes "Ann")) ∷ reply 2 (me_told (codes "Ann")) ∷ [])
    ∷ []

-- the last that listens leaves: the fetch is cancelled, its answer is refused, and its ticket is given up
abbrev pub teardown_in_flight : List Exchange
teardown_in_flight =
    gives (dispatch 1 (codes "{me{id name}}")) (fetch 1 me_id_name ∷ [])
    ∷ gives (teardown 1) (out.Cancel 1 ∷ [])
    ∷ gives (answer 1 (object ((codes "me", null) ∷ []))) (refused 3 E10 ∷ [])
    ∷ gives layers (kept 1 [] ∷ [])
    ∷ []

-- an answer whose `todo` is todo 1 with its author, the user 7 named Bob
abbrev pub todo_answer : Value
todo_answer =
    object
    ((
      codes "todo",
      object
          ((codes "__typename", text (codes "Todo"))
          ∷ (codes "id", text (codes "1"))
          ∷ (codes "author", user_object (codes "Bob"))
          ∷ []),
    )
    ∷ [])

-- that answer as it is told
abbrev pub todo_told : Value
todo_told = object ((codes "todo", object ((codes "id", text (codes "1")) ∷ (codes "author", user_shown (codes "Bob")) ∷ [])) ∷ [])

-- all cells after both answers
abbrev pub merged_cells : List Row
merged_cells =
    link (codes "Query") (codes "me") (codes "User:7")
    ∷ link (codes "Query") todo_key (codes "Todo:1")
    ∷ leaf (codes "Todo:1") (codes "__typename") (codes "Todo")
    ∷ link (codes "Todo:1") (codes "author") (codes "User:7")
    ∷ leaf (codes "Todo:1") (codes "id") (codes "1")
    ∷ leaf (codes "User:7") (codes "__typename") (codes "User")
    ∷ leaf (codes "User:7") (codes "id") (codes "7")
    ∷ leaf (codes "User:7") (codes "name") (codes "Bob")
    ∷ []

-- two answers about one user come in the other order than their fetches were sent: what was sent last counts, and no ticket is kept
abbrev pub answers_out_of_order : List Exchange
answers_out_of_order =
    gives (dispatch 1 (codes "{me{id name}}")) (fetch 1 me_id_name ∷ [])
    ∷ gives (dispatch 2 (codes "{todo(id:\"1\"){id author{id name}}}")) (fetch 2 todo_id_author ∷ [])
    ∷ gives (answer 2 todo_answer) (reply 2 todo_told ∷ [])
    ∷ gives layers (kept 0 (1 ∷ 2 ∷ []) ∷ [])
    ∷ gives (answer 1 (me_answer (codes "Ann"))) (reply 1 (me_told (codes "Bob")) ∷ [])
    ∷ gives flat (out.Flat client merged_cells ∷ [])
    ∷ gives layers (kept 2 [] ∷ [])
    ∷ []

-- what follows the first reply tears its own query down, dispatches another one and takes that out again before it ran
abbrev pub followed_by_a_torn_down_dispatch : List Exchange
followed_by_a_torn_down_dispatch =
    gives
    (dispatch_then 1 (codes "{me{id name}}") CacheFirst (teardown 1 1 ∷ dispatch 2 (codes "{me{id}}") 1 ∷ teardown 2 1 ∷ []))
    (fetch 1 me_id_name ∷ [])
    ∷ gives (answer 1 (me_answer (codes "Ann"))) (reply 1 (me_told (codes "Ann")) ∷ [])
    ∷ gives (teardown 2) (refused 3 E5 ∷ [])
    ∷ []

-- an answer that tells no id
abbrev pub nick_answer : Value
nick_answer = object ((codes "me", object ((codes "__typename", text (codes "User")) ∷ (codes "nick", text (codes "an")) ∷ [])) ∷ [])

-- a network-only answer without an id leads the root to another object: what others read there is a miss, and only the cache-first
-- query is sent again
abbrev pub cache_only_beside_network_only : List Exchange
cache_only_beside_network_only =
    first_answer
    ++ gives
    (dispatch_under CacheOnly 2 (codes "{me{id nick}}"))
    (told 2 (object ((codes "me", object ((codes "id", text (codes "7")) ∷ (codes "nick", null) ∷ [])) ∷ [])) true false ∷ [])
    ∷ gives (dispatch_under NetworkOnly 3 (codes "{me{nick}}")) (fetch 2 me_nick ∷ [])
    ∷ gives
    (answer 2 nick_answer)
    (reply 3 (object ((codes "me", object ((codes "nick", text (codes "an")) ∷ [])) ∷ [])) ∷ fetch 3 me_id_name ∷ [])
    ∷ []

-- after one answer a further query comes under a policy, of which the cache has all, a part or nothing
abbrev pub then_asked : Policy → List ℕ → List Out → List Exchange
then_asked policy document outs = first_answer ++ gives (dispatch_under policy 2 document) outs ∷ []

-- what `{me{id}}` reads after the first answer: a hit
abbrev pub whole : Value
whole = object ((codes "me", object ((codes "id", text (codes "7")) ∷ [])) ∷ [])

-- what `{me{id nick}}` reads after the first answer: `nick` may be null and isn't cached, so the reading is partial
abbrev pub part : Value
part = object ((codes "me", object ((codes "id", text (codes "7")) ∷ (codes "nick", null) ∷ [])) ∷ [])
