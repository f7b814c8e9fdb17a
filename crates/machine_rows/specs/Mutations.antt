-- Runs with mutations.
use Rattle.std.specs.Prelude.{◌≡◌, ℕ, Bool, true, false, List, [], ◌∷◌, ◌++◌, codes}
use Rattle.std.specs.declared.result.Result.TheVariants.{Ok}
use Rattle.gql_value.specs.declared.value.Value.{Value}
use Rattle.gql_value.specs.declared.outcome.Fault.TheVariants.{F5, F6}
use Rattle.cache_model.specs.declared.cell.Cell.TheVariants as cell
use Rattle.send_rules.specs.declared.policy.Policy.TheVariants.{CacheOnly}
use Rattle.queue_model.specs.Queue.{MutationQueue, queued}
use Rattle.machine_model.specs.declared.output.Out.{Out}
use Rattle.machine_model.specs.declared.output.Out.TheVariants as out
use Rattle.machine_model.specs.declared.output.Ending.TheVariants.{Outside}
use Rattle.machine_model.specs.State.{first_state}
use Rattle.machine_model.specs.Steps.{Step}
use Rattle.machine_model.specs.Rows.{opening}
use Rattle.machine_rows.specs.Values.{null, truth, text, list, object}
use Rattle.machine_rows.specs.Operations.{Operation, me_id_name, todo_id_done, todos_id, rename_bob, set_done, document_of}
use Rattle.machine_rows.specs.Meanings.{Rules, meaning}
use Rattle.machine_rows.specs.Dialogs.{Exchange, gives, Follow, no_rows, client, dispatch, dispatch_under, answer, failure, online, layers, flat, reply, told, fetch, kept}
use Rattle.machine_rows.specs.Queries.{me_answer, me_told, leaf, link}

-- ---- a user is renamed, which invalidates it

-- the document that renames user 7 to Bob
abbrev pub rename : List ℕ
rename = codes "mutation{rename(id:\"7\",name:\"Bob\"){id}}"

-- its answer: user 7 by `__typename` and `id`, without the new name
abbrev pub rename_answer : Value
rename_answer = object ((codes "rename", object ((codes "__typename", text (codes "User")) ∷ (codes "id", text (codes "7")) ∷ [])) ∷ [])

-- that answer as it is told
abbrev pub rename_told : Value
rename_told = object ((codes "rename", object ((codes "id", text (codes "7")) ∷ [])) ∷ [])

-- the answer of an older query comes after that of the mutation: what the mutation invalidated doesn't come back, and the query is sent again
abbrev pub an_older_answer_brings_nothing_back : List Exchange
an_older_answer_brings_nothing_back =
    gives (dispatch 1 (codes "{me{id name}}")) (fetch 1 me_id_name ∷ [])
    ∷ gives (dispatch 2 rename) (fetch 2 rename_bob ∷ [])
    ∷ gives (answer 2 rename_answer) (reply 2 rename_told ∷ [])
    ∷ gives (answer 1 (me_answer (codes "Ann"))) (told 1 null false true ∷ fetch 3 me_id_name ∷ [])
    ∷ gives layers (kept 2 (3 ∷ []) ∷ [])
    ∷ gives (answer 3 (me_answer (codes "Bob"))) (reply 1 (me_told (codes "Bob")) ∷ [])
    ∷ []

-- the same with the answers in the order in which their fetches were sent
abbrev pub answers_in_order_of_sending : List Exchange
answers_in_order_of_sending =
    gives (dispatch 1 (codes "{me{id name}}")) (fetch 1 me_id_name ∷ [])
    ∷ gives (dispatch 2 rename) (fetch 2 rename_bob ∷ [])
    ∷ gives (answer 1 (me_answer (codes "Ann"))) (reply 1 (me_told (codes "Ann")) ∷ [])
    ∷ gives (answer 2 rename_answer) (reply 2 rename_told ∷ fetch 3 me_id_name ∷ [])
    ∷ gives layers (kept 2 (3 ∷ []) ∷ [])
    ∷ gives flat (out.Flat client (link (codes "Query") (codes "me") (codes "User:7") ∷ []) ∷ [])
    ∷ []

-- another query under cache-only stays at a miss, and is told nothing more
abbrev pub another_listener_stays_at_a_miss : List Exchange
another_listener_stays_at_a_miss =
    gives (dispatch 1 (codes "{me{id name}}")) (fetch 1 me_id_name ∷ [])
    ∷ gives (dispatch 2 rename) (fetch 2 rename_bob ∷ [])
    ∷ gives (dispatch_under CacheOnly 3 (codes "{me{id}}")) (reply 3 null ∷ [])
    ∷ gives (answer 2 rename_answer) (reply 2 rename_told ∷ [])
    ∷ gives (answer 1 (me_answer (codes "Ann"))) (told 1 null false true ∷ fetch 3 me_id_name ∷ [])
    ∷ []

-- ---- a todo is done, which is guessed

-- the document that sets `done` of todo 1 to true
abbrev pub set_to_true : List ℕ
set_to_true = codes "mutation{setDone(id:\"1\",done:true){id done}}"

-- the document that sets `done` of todo 1 to false
abbrev pub set_to_false : List ℕ
set_to_false = codes "mutation{setDone(id:\"1\",done:false){id done}}"

-- todo 1 under the root field of this name, as an answer has it
abbrev pub done_answer : List ℕ → Bool → Value
done_answer field done =
    object
    ((field, object ((codes "__typename", text (codes "Todo")) ∷ (codes "id", text (codes "1")) ∷ (codes "done", truth done) ∷ []))
    ∷ [])

-- the same todo as it is told
abbrev pub done_told : List ℕ → Bool → Value
done_told field done = object ((field, object ((codes "id", text (codes "1")) ∷ (codes "done", truth done) ∷ [])) ∷ [])

-- the guess of a mutation is told at once
abbrev pub guessed : List Exchange
guessed =
    gives (dispatch 1 (codes "{todo(id:\"1\"){id done}}")) (fetch 1 todo_id_done ∷ [])
    ∷ gives (answer 1 (done_answer (codes "todo") false)) (reply 1 (done_told (codes "todo") false) ∷ [])
    ∷ gives (dispatch 2 set_to_true) (fetch 2 (set_done true) ∷ reply 1 (done_told (codes "todo") true) ∷ [])
    ∷ []

-- an answer that is as guessed is told to its own listener alone
abbrev pub a_guess_and_its_answer : List Exchange
a_guess_and_its_answer =
    guessed ++ gives (answer 2 (done_answer (codes "setDone") true)) (reply 2 (done_told (codes "setDone") true) ∷ []) ∷ []

-- any other answer is told to the query too
abbrev pub a_guess_and_another_answer : List Exchange
a_guess_and_another_answer =
    guessed
    ++ gives
    (answer 2 (done_answer (codes "setDone") false))
    (reply 2 (done_told (codes "setDone") false) ∷ reply 1 (done_told (codes "todo") false) ∷ [])
    ∷ []

-- an answer whose list `todos` has todo 1 alone
abbrev pub todos_answer : Value
todos_answer =
    object
    ((codes "todos", list (object ((codes "__typename", text (codes "Todo")) ∷ (codes "id", text (codes "1")) ∷ []) ∷ [])) ∷ [])

-- that answer as it is told
abbrev pub todos_told : Value
todos_told = object ((codes "todos", list (object ((codes "id", text (codes "1")) ∷ []) ∷ [])) ∷ [])

-- a query that the guess made due is held back while the guess stands, and sent once that is taken back
abbrev pub blocked_while_guessed : List Exchange
blocked_while_guessed =
    gives (dispatch 1 (codes "{todos{id}}")) (fetch 1 todos_id ∷ [])
    ∷ gives
    (answer 1 todos_answer)
    (reply 1 todos_told ∷ [])
    ∷ gives (dispatch 2 set_to_true) (fetch 2 (set_done true) ∷ [])
    ∷ gives (failure 2 (F5 500)) (out.Fault client 2 (Outside (F5 500)) ∷ told 1 todos_told false true ∷ fetch 3 todos_id ∷ [])
    ∷ []

-- ---- mutations that can't reach the origin

-- two guessed mutations are queued
abbrev pub both_queued : List Exchange
both_queued =
    gives (dispatch 1 set_to_true) (fetch 1 (set_done true) ∷ [])
    ∷ gives (dispatch 2 set_to_false) (fetch 2 (set_done false) ∷ [])
    ∷ gives (failure 1 F6) (out.Queued client 1 1 ∷ [])
    ∷ gives (failure 2 F6) (out.Queued client 2 2 ∷ [])
    ∷ []

-- the queue with one more row, of the mutation that sets `done` to this
abbrev pub with_row : Bool → MutationQueue → MutationQueue
with_row done queue = queued queue (document_of (set_done done)) [] (codes "{}")

-- the queue with both rows: `done` set to true, and then to false
abbrev pub two_rows : MutationQueue
two_rows = with_row false (with_row true no_rows)

-- the opening over a queue gives out exactly this; then these commands follow one another, and leave such a queue
pub record Opens (rules : Rules) (queue : MutationQueue) (outs : List Out) (exchanges : List Exchange) (left : MutationQueue) : Type 0 where
  pub step : Step Operation
  pub opened : opening (meaning rules) (first_state queue) ≡ Ok step
  pub given : step.outs ≡ outs
  pub follows : Follow rules 1 exchanges left step.state

-- both rows are sent at the opening, in order of the queue
abbrev pub both_sent : List Out
both_sent = fetch 1 (set_done true) ∷ fetch 2 (set_done false) ∷ []

-- both are answered, the later one first: nobody is told, what was sent last counts, and no row is left
abbrev pub both_answered : List Exchange
both_answered =
    gives (answer 2 (done_answer (codes "setDone") false)) []
    ∷ gives (answer 1 (done_answer (codes "setDone") true)) []
    ∷ gives flat
    (out.Flat client
    (leaf (codes "Todo:1") (codes "__typename") (codes "Todo")
    ∷ (codes "Todo:1", codes "done", cell.Leaf (truth false))
    ∷ leaf (codes "Todo:1") (codes "id") (codes "1")
    ∷ [])
    ∷ [])
    ∷ []

-- no rows, after two that were done
abbrev pub rows_done : MutationQueue
rows_done = record no_rows { greatest = 2 }

-- the second is sent again under its own ticket, but not while its fetch is open
abbrev pub sent_again : List Exchange
sent_again =
    gives (answer 1 (done_answer (codes "setDone") true)) []
    ∷ gives online []
    ∷ gives (failure 2 F6) []
    ∷ gives online (fetch 3 (set_done false) ∷ [])
    ∷ gives layers (kept 1 (2 ∷ []) ∷ [])
    ∷ []

-- the queue without the row of the first mutation
abbrev pub second_row : MutationQueue
second_row = record two_rows { rows = record { seq = 2; document = document_of (set_done false); operation = []; variables = codes "{}" } ∷ [] }
