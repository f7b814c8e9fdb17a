-- What the operations mean under declared rules.
use Rattle.std.specs.Prelude.{Bool, List, [], ◌∷◌, ◌++◌, codes, Option, Some, None}
use Rattle.cache_model.specs.declared.cell.Cell.TheVariants as cell
use Rattle.cache_model.specs.declared.write.Write.{Write}
use Rattle.cache_model.specs.declared.write.Write.TheVariants.{Set, DropName, DropAll}
use Rattle.machine_model.specs.declared.command.Dispatch.{out-Dispatch}
use Rattle.machine_model.specs.Operations.{Meaning, Identity, Request}
use Rattle.machine_rows.specs.Values.{text, truth}
use Rattle.machine_rows.specs.Operations.{Operation, rename_bob, set_done, kind_of, document_of, sent_text, documents, stored_documents, operation_in}
use Rattle.machine_rows.specs.Reading.{read_by}
use Rattle.machine_rows.specs.Writing.{written_by, projected_by}

-- Which rules are declared: none; that `setDone` is guessed to do what it is asked; that `rename` invalidates the user; or
-- the guess of `setDone`, and that `setDone` invalidates the list of todos.
pub data Rules : Type 0 where
  no_rules : Rules
  guessing : Rules
  invalidating_users : Rules
  guessing_and_invalidating : Rules

-- todo 1 with this value of `done`, its `__typename` and its `id`
abbrev pub todo_done : Bool → List Write
todo_done done =
    Set (codes "Todo:1") (codes "__typename") (cell.Leaf (text (codes "Todo")))
    ∷ Set (codes "Todo:1") (codes "id") (cell.Leaf (text (codes "1")))
    ∷ Set (codes "Todo:1") (codes "done") (cell.Leaf (truth done))
    ∷ []

-- the list of todos is invalidated
abbrev pub todos_dropped : List Write
todos_dropped = DropName (codes "Query") (codes "todos") ∷ []

-- what is written before an answer: `setDone` has a guess where one is declared, and no other operation has
abbrev pub guess_by : Rules → Operation → Option (List Write)
guess_by guessing (set_done done) = Some (todo_done done)
guess_by guessing_and_invalidating (set_done done) = Some (todo_done done ++ todos_dropped)
guess_by _ _ = None

-- what rules add to an answer's own writes: `rename` drops all cells of user 7, or `setDone` the list of todos, where that is declared
abbrev pub updates_by : Rules → Operation → List Write
updates_by invalidating_users rename_bob = DropAll (codes "User:7") ∷ []
updates_by guessing_and_invalidating (set_done done) = todos_dropped
updates_by _ _ = []

-- its document tells an operation from all others; it has no name and no variables
abbrev pub identity_of : Operation → Identity
identity_of operation = record { document = document_of operation; operation = []; variables = codes "{}" }

-- what is sent for an operation: its document with `__typename` put in, without a name and with no variables
abbrev pub request_of : Operation → Request
request_of operation = record { query = sent_text operation; operation = None; variables = codes "{}" }

-- what the machine takes of the operations, where these rules are declared; a listener asks for what the client gave
abbrev pub meaning : Rules → Meaning Operation
meaning rules = record {
  judged = λ dispatch. operation_in documents (out-Dispatch dispatch).query;
  stored = λ row. operation_in stored_documents row.document;
  kind = kind_of;
  identity = identity_of;
  request = request_of;
  read = read_by;
  written = written_by;
  projected = projected_by;
  updates = λ operation answer. updates_by rules operation;
  guess = guess_by rules;
  listener = λ peer id commands. commands;
}
