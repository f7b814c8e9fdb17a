-- What follows the first answer.
use Rattle.std.proofs.Common.{true, false, List, [], ◌∷◌, codes, ◌++◌, refl}
use Rattle.machine_model.specs.State.{first_state}
use Rattle.machine_model.specs.Telling.{no_errors}
use Rattle.machine_rows.specs.Values.{null}
use Rattle.machine_rows.specs.Dialogs.{Exchange, no_rows}
use Rattle.machine_rows.specs.Meanings.{no_rules}
use Rattle.machine_rows.specs.Queries.{first_answer, me_answer}
use Rattle.machine_rows.proofs.Readings.{nowhere, to_one}
use Rattle.machine_rows.proofs.Views.{saw}
use Rattle.machine_rows.proofs.Dialogs.{Rest, gave, asks, answers}
use Rattle.machine_rows.proofs.Writes.{me_writes, me_written}
use Rattle.machine_rows.proofs.States.{answered_once}

pub answered_first : {exchanges : List Exchange} → Rest no_rules 3 exchanges no_rows answered_once → Rest no_rules 1 (first_answer ++ exchanges) no_rows (first_state no_rows)
answered_first more =
    asks (saw nowhere false true ∷ []) _ refl ((tt, refl), tt) (gave refl refl (
    answers (saw (to_one (codes "User:7")) true false ∷ []) 1 (me_answer (codes "Ann")) (me_writes (codes "Ann")) null refl (me_written (codes "Ann") no_errors) (((refl, refl), tt), ((refl, refl), tt)) (gave refl refl (
    more))))
