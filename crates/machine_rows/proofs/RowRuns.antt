-- Runs over the queue of mutations.
use Rattle.std.proofs.Common.{true, false, [], ◌∷◌, codes, drop, refl}
use Rattle.gql_value.specs.declared.outcome.Fault.TheVariants.{F6}
use Rattle.machine_model.specs.State.{first_state}
use Rattle.machine_model.specs.Telling.{no_errors}
use Rattle.machine_model.specs.Steps.{Step}
use Rattle.machine_rows.specs.Operations.{Operation}
use Rattle.machine_rows.specs.Dialogs.{no_rows}
use Rattle.machine_rows.specs.Meanings.{guessing}
use Rattle.machine_rows.specs.Mutations as run
use Rattle.machine_rows.specs.Mutations.{Opens, two_rows, rows_done, second_row, both_sent, done_told}
use Rattle.machine_rows.proofs.States.{two_sent, two_offered}
use Rattle.machine_rows.proofs.Views.{listens}
use Rattle.machine_rows.proofs.Dialogs.{Rest, ends, gave, is_command, asks, answers, fails}
use Rattle.machine_rows.proofs.Writes.{done_writes, set_done_written, set_done_projected}

from_two_sent : Rest guessing 3 (drop 2 run.both_queued) two_rows two_sent
from_two_sent =
    fails (listens ∷ listens ∷ []) 1 F6 refl ((tt, (tt, tt)), (tt, (tt, tt))) (gave refl refl (
    fails (listens ∷ listens ∷ []) 2 F6 refl ((tt, (tt, tt)), (tt, (tt, tt))) (gave refl refl (
    ends refl))))

pub both_queued : Rest guessing 1 run.both_queued two_rows (first_state no_rows)
both_queued =
    asks (listens ∷ []) _ refl ((tt, tt), (tt, tt)) (gave refl refl (
    asks (listens ∷ listens ∷ []) _ refl ((tt, (tt, tt)), (tt, (tt, tt))) (gave refl refl (
    from_two_sent))))

pub both_answered : Rest guessing 1 run.both_answered rows_done two_offered
both_answered =
    answers ([]) 2 (run.done_answer (codes "setDone") false) (done_writes false) (done_told (codes "setDone") false) refl (set_done_written false false no_errors, set_done_projected false false) (tt, tt) (gave refl refl (
    answers ([]) 1 (run.done_answer (codes "setDone") true) (done_writes true) (done_told (codes "setDone") true) refl (set_done_written true true no_errors, set_done_projected true true) (tt, tt) (gave refl refl (
    is_command _ refl (gave refl refl (
    ends refl))))))

pub sent_again : Rest guessing 1 run.sent_again second_row two_offered
sent_again =
    answers ([]) 1 (run.done_answer (codes "setDone") true) (done_writes true) (done_told (codes "setDone") true) refl (set_done_written true true no_errors, set_done_projected true true) (tt, tt) (gave refl refl (
    is_command _ refl (gave refl refl (
    fails ([]) 2 F6 refl (tt, tt) (gave refl refl (
    is_command _ refl (gave refl refl (
    is_command _ refl (gave refl refl (
    ends refl))))))))))

-- both rows are offered
abbrev offered : Step Operation
offered = record { outs = both_sent; state = two_offered }

pub queued_and_offered_again : Opens guessing two_rows both_sent run.both_answered rows_done
queued_and_offered_again = record { step = offered; opened = refl; given = refl; follows = both_answered.follows }

pub sent_again_under_its_ticket : Opens guessing two_rows both_sent run.sent_again second_row
sent_again_under_its_ticket = record { step = offered; opened = refl; given = refl; follows = sent_again.follows }
