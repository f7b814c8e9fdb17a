-- What the answers of the runs write, and what mutations are told of them, by opening each value once.
use Rattle.std.proofs.Common.{◌≡◌, ℕ, Bool, List, [], ◌∷◌, codes}
use Rattle.std.specs.declared.result.Result.TheVariants.{Ok}
use Rattle.gql_value.specs.declared.value.Value.{Value}
use Rattle.gql_value.specs.declared.value.Value.TheViews.{out-roll-Value}
use Rattle.cache_model.specs.declared.cell.Cell.TheVariants as cell
use Rattle.cache_model.specs.declared.write.Write.{Write}
use Rattle.cache_model.specs.declared.write.Write.TheVariants.{Set}
use Rattle.machine_rows.specs.Values.{truth, text}
use Rattle.machine_rows.specs.Operations.{me_id_name, me_nick, todo_id_author, todo_id_done, todos_id, rename_bob, set_done, todo_key}
use Rattle.machine_rows.specs.Writing.{link_to, links_to, written_by, projected_by}
use Rattle.machine_rows.specs.Queries.{me_answer, todo_answer, nick_answer}
use Rattle.machine_rows.specs.Mutations.{rename_answer, rename_told, done_answer, done_told, todos_answer}

-- ---- what answers write

abbrev pub leaf_set : List ℕ → List ℕ → List ℕ → Write
leaf_set entity field value = Set entity field (cell.Leaf (text value))

abbrev pub link_set : List ℕ → List ℕ → List ℕ → Write
link_set entity field to = Set entity field (cell.Link (link_to to))

abbrev pub user_writes : List ℕ → List Write
user_writes name =
    leaf_set (codes "User:7") (codes "__typename") (codes "User")
    ∷ leaf_set (codes "User:7") (codes "id") (codes "7")
    ∷ leaf_set (codes "User:7") (codes "name") name
    ∷ []

abbrev pub done_writes : Bool → List Write
done_writes done =
    leaf_set (codes "Todo:1") (codes "__typename") (codes "Todo")
    ∷ leaf_set (codes "Todo:1") (codes "id") (codes "1")
    ∷ Set (codes "Todo:1") (codes "done") (cell.Leaf (truth done))
    ∷ []

abbrev pub me_writes : List ℕ → List Write
me_writes name = link_set (codes "Query") (codes "me") (codes "User:7") ∷ user_writes name

abbrev pub nick_writes : List Write
nick_writes =
    link_set (codes "Query") (codes "me") (codes "Query.me@User")
    ∷ leaf_set (codes "Query.me@User") (codes "__typename") (codes "User")
    ∷ leaf_set (codes "Query.me@User") (codes "nick") (codes "an")
    ∷ []

abbrev pub todo_writes : List Write
todo_writes =
    link_set (codes "Query") todo_key (codes "Todo:1")
    ∷ leaf_set (codes "Todo:1") (codes "__typename") (codes "Todo")
    ∷ leaf_set (codes "Todo:1") (codes "id") (codes "1")
    ∷ link_set (codes "Todo:1") (codes "author") (codes "User:7")
    ∷ user_writes (codes "Bob")

abbrev pub todo_done_writes : Bool → List Write
todo_done_writes done = link_set (codes "Query") todo_key (codes "Todo:1") ∷ done_writes done

abbrev pub todos_writes : List Write
todos_writes =
    Set (codes "Query") (codes "todos") (cell.Link (links_to (codes "Todo:1" ∷ [])))
    ∷ leaf_set (codes "Todo:1") (codes "__typename") (codes "Todo")
    ∷ leaf_set (codes "Todo:1") (codes "id") (codes "1")
    ∷ []

abbrev pub rename_writes : List Write
rename_writes = leaf_set (codes "User:7") (codes "__typename") (codes "User") ∷ leaf_set (codes "User:7") (codes "id") (codes "7") ∷ []

pub me_written : (name : List ℕ) (errors : Value)
    → written_by me_id_name (me_answer name) errors ≡ Ok (me_writes name)
me_written name errors = simp out-roll-Value

pub nick_written : (errors : Value)
    → written_by me_nick nick_answer errors
    ≡ Ok nick_writes
nick_written errors = simp out-roll-Value

pub todo_written : (errors : Value)
    → written_by todo_id_author todo_answer errors
    ≡ Ok todo_writes
todo_written errors = simp out-roll-Value

pub todo_done_written : (done : Bool) (errors : Value)
    → written_by todo_id_done (done_answer (codes "todo") done) errors ≡ Ok (todo_done_writes done)
todo_done_written done errors = simp out-roll-Value

pub todos_written : (errors : Value)
    → written_by todos_id todos_answer errors
    ≡ Ok todos_writes
todos_written errors = simp out-roll-Value

pub rename_written : (errors : Value)
    → written_by rename_bob rename_answer errors
    ≡ Ok rename_writes
rename_written errors = simp out-roll-Value

pub set_done_written : (asked done : Bool) (errors : Value)
    → written_by (set_done asked) (done_answer (codes "setDone") done) errors ≡ Ok (done_writes done)
set_done_written asked done errors = simp out-roll-Value

pub rename_projected : projected_by rename_bob rename_answer ≡ rename_told
rename_projected = simp out-roll-Value

pub set_done_projected : (asked done : Bool) → projected_by (set_done asked) (done_answer (codes "setDone") done) ≡ done_told (codes "setDone") done
set_done_projected asked done = simp out-roll-Value
