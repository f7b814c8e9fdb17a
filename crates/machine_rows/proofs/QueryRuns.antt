-- Runs of queries.
use Rattle.std.proofs.Common.{true, false, [], ◌∷◌, codes, drop, refl}
use Rattle.machine_model.specs.State.{first_state}
use Rattle.machine_model.specs.Telling.{no_errors}
use Rattle.machine_rows.specs.Values.{null}
use Rattle.machine_rows.specs.Dialogs.{no_rows}
use Rattle.machine_rows.specs.Meanings.{no_rules}
use Rattle.machine_rows.specs.Queries as run
use Rattle.machine_rows.specs.Queries.{me_answer}
use Rattle.machine_rows.proofs.States.{answered_once, beside_each_other}
use Rattle.machine_rows.proofs.FirstRun.{answered_first}
use Rattle.machine_rows.proofs.Readings.{nowhere, to_one, to_authored, nulls_unchanged, todo_unchanged}
use Rattle.machine_rows.proofs.Views.{saw}
use Rattle.machine_rows.proofs.Dialogs.{Rest, ends, gave, is_command, asks, asks_at, answers}
use Rattle.machine_rows.proofs.Writes.{me_writes, me_written, nick_writes, nick_written, todo_writes, todo_written}

pub one_query_for_two : Rest no_rules 1 run.one_query_for_two no_rows (first_state no_rows)
one_query_for_two =
    asks (saw nowhere false true ∷ []) _ refl ((tt, refl), tt) (gave refl refl (
    asks (saw nowhere false false ∷ saw nowhere false false ∷ []) _ refl ((tt, refl), ((tt, refl), tt)) (gave refl refl (
    answers (saw (to_one (codes "User:7")) true false ∷ saw (to_one (codes "User:7")) true false ∷ []) 1 (me_answer (codes "Ann")) (me_writes (codes "Ann")) null refl (me_written (codes "Ann") no_errors) (((refl, refl), ((refl, refl), tt)), ((refl, refl), ((refl, refl), tt))) (gave refl refl (
    ends refl))))))

pub teardown_in_flight : Rest no_rules 1 run.teardown_in_flight no_rows (first_state no_rows)
teardown_in_flight =
    asks (saw nowhere false true ∷ []) _ refl ((tt, refl), tt) (gave refl refl (
    is_command _ refl (gave refl refl (
    is_command _ refl (gave refl refl (
    is_command _ refl (gave refl refl (
    ends refl))))))))

pub answers_out_of_order : Rest no_rules 1 run.answers_out_of_order no_rows (first_state no_rows)
answers_out_of_order =
    asks (saw nowhere false true ∷ []) _ refl ((tt, refl), tt) (gave refl refl (
    asks (saw nowhere false false ∷ saw nowhere false true ∷ []) _ refl ((tt, refl), ((tt, refl), tt)) (gave refl refl (
    answers (saw nowhere false false ∷ saw (to_authored (codes "Todo:1") (codes "User:7")) true false ∷ []) 2 run.todo_answer todo_writes null refl (todo_written no_errors) (((tt, nulls_unchanged), (((refl, refl), refl), tt)), ((tt, refl), (((refl, refl), refl), tt))) (gave refl refl (
    is_command _ refl (gave refl refl (
    answers (saw (to_one (codes "User:7")) true false ∷ saw (to_authored (codes "Todo:1") (codes "User:7")) false false ∷ []) 1 (me_answer (codes "Ann")) (me_writes (codes "Ann")) null refl (me_written (codes "Ann") no_errors) (((refl, refl), (((refl, refl), todo_unchanged), tt)), ((refl, refl), (((refl, refl), refl), tt))) (gave refl refl (
    is_command _ refl (gave refl refl (
    is_command _ refl (gave refl refl (
    ends refl))))))))))))))

from_beside_each_other : Rest no_rules 5 (drop 4 run.cache_only_beside_network_only) no_rows beside_each_other
from_beside_each_other =
    answers (saw (to_one (codes "Query.me@User")) true true ∷ saw (to_one (codes "Query.me@User")) true false ∷ saw (to_one (codes "Query.me@User")) true false ∷ []) 2 run.nick_answer nick_writes null refl (nick_written no_errors) (((refl, refl), ((refl, refl), ((refl, refl), tt))), ((refl, refl), ((refl, refl), ((refl, refl), tt)))) (gave refl refl (
    ends refl))

from_answered_once : Rest no_rules 3 (drop 2 run.cache_only_beside_network_only) no_rows answered_once
from_answered_once =
    asks_at (to_one (codes "User:7")) (saw (to_one (codes "User:7")) false false ∷ saw (to_one (codes "User:7")) false false ∷ []) _ refl refl ((refl, refl), ((refl, refl), tt)) (gave refl refl (
    asks (saw (to_one (codes "User:7")) false false ∷ saw (to_one (codes "User:7")) false false ∷ saw (to_one (codes "User:7")) false true ∷ []) _ refl ((refl, refl), ((refl, refl), ((refl, refl), tt))) (gave refl refl (
    from_beside_each_other))))

pub cache_only_beside_network_only : Rest no_rules 1 run.cache_only_beside_network_only no_rows (first_state no_rows)
cache_only_beside_network_only = answered_first from_answered_once
