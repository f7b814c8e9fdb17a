-- Runs with mutations.
use Rattle.std.proofs.Common.{true, false, [], ◌∷◌, codes, drop, refl}
use Rattle.gql_value.specs.declared.outcome.Fault.TheVariants.{F5}
use Rattle.machine_model.specs.State.{first_state}
use Rattle.machine_model.specs.Telling.{no_errors}
use Rattle.machine_rows.specs.Values.{null}
use Rattle.machine_rows.specs.Dialogs.{no_rows}
use Rattle.machine_rows.specs.Meanings.{guessing, invalidating_users, guessing_and_invalidating}
use Rattle.machine_rows.specs.Mutations as run
use Rattle.machine_rows.specs.Queries.{me_answer}
use Rattle.machine_rows.specs.Mutations.{rename_told, done_told}
use Rattle.machine_rows.proofs.States.{three_listen, guessed_done, guessed_away}
use Rattle.machine_rows.proofs.Readings.{nowhere, to_one, to_list, nulls_unchanged, done_changed}
use Rattle.machine_rows.proofs.Views.{saw, listens}
use Rattle.machine_rows.proofs.Dialogs.{Rest, ends, gave, is_command, asks, answers, fails}
use Rattle.machine_rows.proofs.Writes.{me_writes, me_written, todo_done_writes, todo_done_written, todos_writes, todos_written, rename_writes, rename_written, rename_projected, done_writes, set_done_written, set_done_projected}

pub an_older_answer_brings_nothing_back : Rest invalidating_users 1 run.an_older_answer_brings_nothing_back no_rows (first_state no_rows)
an_older_answer_brings_nothing_back =
    asks (saw nowhere false true ∷ []) _ refl ((tt, refl), tt) (gave refl refl (
    asks (saw nowhere false false ∷ listens ∷ []) _ refl (((tt, nulls_unchanged), (tt, tt)), ((tt, refl), (tt, tt))) (gave refl refl (
    answers (saw nowhere false false ∷ []) 2 run.rename_answer rename_writes rename_told refl (rename_written no_errors, rename_projected) (((tt, nulls_unchanged), tt), ((tt, refl), tt)) (gave refl refl (
    answers (saw (to_one (codes "User:7")) false true ∷ []) 1 (me_answer (codes "Ann")) (me_writes (codes "Ann")) null refl (me_written (codes "Ann") no_errors) (((refl, nulls_unchanged), tt), ((refl, refl), tt)) (gave refl refl (
    is_command _ refl (gave refl refl (
    answers (saw (to_one (codes "User:7")) true false ∷ []) 3 (me_answer (codes "Bob")) (me_writes (codes "Bob")) null refl (me_written (codes "Bob") no_errors) (((refl, refl), tt), ((refl, refl), tt)) (gave refl refl (
    ends refl))))))))))))

pub answers_in_order_of_sending : Rest invalidating_users 1 run.answers_in_order_of_sending no_rows (first_state no_rows)
answers_in_order_of_sending =
    asks (saw nowhere false true ∷ []) _ refl ((tt, refl), tt) (gave refl refl (
    asks (saw nowhere false false ∷ listens ∷ []) _ refl (((tt, nulls_unchanged), (tt, tt)), ((tt, refl), (tt, tt))) (gave refl refl (
    answers (saw (to_one (codes "User:7")) true false ∷ listens ∷ []) 1 (me_answer (codes "Ann")) (me_writes (codes "Ann")) null refl (me_written (codes "Ann") no_errors) (((refl, refl), (tt, tt)), ((refl, refl), (tt, tt))) (gave refl refl (
    answers (saw (to_one (codes "User:7")) true true ∷ []) 2 run.rename_answer rename_writes rename_told refl (rename_written no_errors, rename_projected) (((refl, refl), tt), ((refl, refl), tt)) (gave refl refl (
    is_command _ refl (gave refl refl (
    is_command _ refl (gave refl refl (
    ends refl))))))))))))

from_three_listen : Rest invalidating_users 4 (drop 3 run.another_listener_stays_at_a_miss) no_rows three_listen
from_three_listen =
    answers (saw nowhere false false ∷ saw nowhere false false ∷ []) 2 run.rename_answer rename_writes rename_told refl (rename_written no_errors, rename_projected) (((tt, nulls_unchanged), ((tt, nulls_unchanged), tt)), ((tt, refl), ((tt, refl), tt))) (gave refl refl (
    answers (saw (to_one (codes "User:7")) false true ∷ saw (to_one (codes "User:7")) false false ∷ []) 1 (me_answer (codes "Ann")) (me_writes (codes "Ann")) null refl (me_written (codes "Ann") no_errors) (((refl, nulls_unchanged), ((refl, nulls_unchanged), tt)), ((refl, refl), ((refl, refl), tt))) (gave refl refl (
    ends refl))))

pub another_listener_stays_at_a_miss : Rest invalidating_users 1 run.another_listener_stays_at_a_miss no_rows (first_state no_rows)
another_listener_stays_at_a_miss =
    asks (saw nowhere false true ∷ []) _ refl ((tt, refl), tt) (gave refl refl (
    asks (saw nowhere false false ∷ listens ∷ []) _ refl (((tt, nulls_unchanged), (tt, tt)), ((tt, refl), (tt, tt))) (gave refl refl (
    asks (saw nowhere false false ∷ listens ∷ saw nowhere false false ∷ []) _ refl ((tt, refl), (tt, ((tt, refl), tt))) (gave refl refl (
    from_three_listen))))))

from_guessed_done : Rest guessing 4 (drop 3 run.a_guess_and_its_answer) no_rows guessed_done
from_guessed_done =
    answers (saw (to_one (codes "Todo:1")) false false ∷ []) 2 (run.done_answer (codes "setDone") true) (done_writes true) (done_told (codes "setDone") true) refl (set_done_written true true no_errors, set_done_projected true true) (((refl, (done_changed true true)), tt), ((refl, refl), tt)) (gave refl refl (
    ends refl))

pub a_guess_and_its_answer : Rest guessing 1 run.a_guess_and_its_answer no_rows (first_state no_rows)
a_guess_and_its_answer =
    asks (saw nowhere false true ∷ []) _ refl ((tt, refl), tt) (gave refl refl (
    answers (saw (to_one (codes "Todo:1")) true false ∷ []) 1 (run.done_answer (codes "todo") false) (todo_done_writes false) null refl (todo_done_written false no_errors) (((refl, refl), tt), ((refl, refl), tt)) (gave refl refl (
    asks (saw (to_one (codes "Todo:1")) true false ∷ listens ∷ []) _ refl (((refl, (done_changed true false)), (tt, tt)), ((refl, refl), (tt, tt))) (gave refl refl (
    from_guessed_done))))))

from_guessed_done_otherwise : Rest guessing 4 (drop 3 run.a_guess_and_another_answer) no_rows guessed_done
from_guessed_done_otherwise =
    answers (saw (to_one (codes "Todo:1")) true false ∷ []) 2 (run.done_answer (codes "setDone") false) (done_writes false) (done_told (codes "setDone") false) refl (set_done_written true false no_errors, set_done_projected true false) (((refl, (done_changed false true)), tt), ((refl, refl), tt)) (gave refl refl (
    ends refl))

pub a_guess_and_another_answer : Rest guessing 1 run.a_guess_and_another_answer no_rows (first_state no_rows)
a_guess_and_another_answer =
    asks (saw nowhere false true ∷ []) _ refl ((tt, refl), tt) (gave refl refl (
    answers (saw (to_one (codes "Todo:1")) true false ∷ []) 1 (run.done_answer (codes "todo") false) (todo_done_writes false) null refl (todo_done_written false no_errors) (((refl, refl), tt), ((refl, refl), tt)) (gave refl refl (
    asks (saw (to_one (codes "Todo:1")) true false ∷ listens ∷ []) _ refl (((refl, (done_changed true false)), (tt, tt)), ((refl, refl), (tt, tt))) (gave refl refl (
    from_guessed_done_otherwise))))))

from_guessed_away : Rest guessing_and_invalidating 4 (drop 3 run.blocked_while_guessed) no_rows guessed_away
from_guessed_away =
    fails (saw (to_list (codes "Todo:1")) true true ∷ []) 2 (F5 500) refl (((refl, refl), tt), ((refl, refl), tt)) (gave refl refl (
    ends refl))

pub blocked_while_guessed : Rest guessing_and_invalidating 1 run.blocked_while_guessed no_rows (first_state no_rows)
blocked_while_guessed =
    asks (saw nowhere false true ∷ []) _ refl ((tt, refl), tt) (gave refl refl (
    answers (saw (to_list (codes "Todo:1")) true false ∷ []) 1 run.todos_answer todos_writes null refl (todos_written no_errors) (((refl, refl), tt), ((refl, refl), tt)) (gave refl refl (
    asks (saw nowhere true false ∷ listens ∷ []) _ refl (((tt, refl), (tt, tt)), ((tt, refl), (tt, tt))) (gave refl refl (
    from_guessed_away))))))
