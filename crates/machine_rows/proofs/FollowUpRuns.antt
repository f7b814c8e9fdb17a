-- The run with commands that follow the first reply.
use Rattle.std.proofs.Common.{◌≡◌, true, false, List, [], ◌∷◌, codes, drop, refl, sym, ap, subst, ◌∙◌}
use Rattle.std.specs.declared.result.Result.TheVariants.{Ok}
use Rattle.gql_value.specs.declared.outcome.Outcome.TheVariants.{Body}
use Rattle.machine_model.specs.declared.command.Command.{Command}
use Rattle.machine_model.specs.declared.command.Command.TheOpen.{Command-F}
use Rattle.machine_model.specs.declared.command.Command.TheViews.{out-roll-Command}
use Rattle.machine_model.specs.Operations.{Meaning}
use Rattle.machine_model.specs.State.{GatewayState, Job, first_state}
use Rattle.machine_model.specs.FollowUps.{plain_job, all_joined}
use Rattle.machine_model.specs.Steps.{Step, and_then}
use Rattle.machine_model.specs.Sequels.{concluded}
use Rattle.machine_model.specs.Telling.{no_errors}
use Rattle.machine_model.specs.Responses.{response}
use Rattle.machine_model.specs.Commands.{step_of, command_step}
use Rattle.machine_model.specs.Runs.{commands_taken, with_command}
use Rattle.machine_rows.specs.Values.{null}
use Rattle.machine_rows.specs.Operations.{Operation}
use Rattle.machine_rows.specs.Meanings.{no_rules, meaning}
use Rattle.machine_rows.specs.Dialogs.{client, no_rows, dispatch, teardown, answer, reply}
use Rattle.machine_rows.specs.Queries as run
use Rattle.machine_rows.specs.Queries.{me_answer, me_told}
use Rattle.machine_rows.proofs.Readings.{nowhere, to_one}
use Rattle.machine_rows.proofs.Views.{View, saw, concluded_is}
use Rattle.machine_rows.proofs.Told.{telling, response_is}
use Rattle.machine_rows.proofs.Dialogs.{Rest, After, idle, ends, gave, begins_many, is_command, asks}
use Rattle.machine_rows.proofs.Writes.{me_writes, me_written}
use Rattle.machine_rows.proofs.States.{answered_once, followed_once}

abbrev follow_ups : List Command
follow_ups = teardown 1 1 ∷ dispatch 2 (codes "{me{id}}") 1 ∷ teardown 2 1 ∷ []

-- the teardown that took the dispatch out of the queue
abbrev took_out : Job
took_out = record { command = teardown 2 1; took_out = true }

joined_is : all_joined [] follow_ups ≡ plain_job (teardown 1 1) ∷ took_out ∷ []
joined_is = simp out-roll-Command

abbrev m : Meaning Operation
m = meaning no_rules

abbrev sent : GatewayState Operation
sent = followed_once follow_ups

abbrev view : View
view = saw (to_one (codes "User:7")) true false ∷ []

-- the reply, after which these wait
abbrev replied : List Job → Step Operation
replied jobs = record { outs = reply 1 (me_told (codes "Ann")) ∷ []; state = record answered_once { jobs = jobs } }

-- the query has left, and these wait
abbrev left : List Job → Step Operation
left jobs = record { outs = []; state = record answered_once { live = []; jobs = jobs } }

told_first : command_step m (plain_job (answer 1 (me_answer (codes "Ann")) 2)) (idle sent) ≡ replied (plain_job (teardown 1 1) ∷ took_out ∷ [])
told_first =
    let change = response (telling m (Ok (me_writes (codes "Ann"))) null) client 1 2 (Body (me_answer (codes "Ann")) no_errors) (idle sent) in
    ap (step_of m false (idle sent)) (out-roll-Command (Command-F.Respond client 1 2 (Body (me_answer (codes "Ann")) no_errors)))
    ∙ ap (concluded m) (response_is m (Ok (me_writes (codes "Ann"))) null (me_answer (codes "Ann")) no_errors client 1 2 (idle sent) (me_written (codes "Ann") no_errors))
    ∙ concluded_is no_rules view change (((refl, refl), tt), ((refl, refl), tt))
    ∙ ap replied joined_is

torn_then : command_step m (plain_job (teardown 1 1)) (record answered_once { jobs = took_out ∷ [] }) ≡ left (took_out ∷ [])
torn_then = ap (step_of m false (record answered_once { jobs = took_out ∷ [] })) (out-roll-Command (Command-F.Teardown client 1 1))

nothing_last : command_step m took_out (record answered_once { live = []; jobs = [] }) ≡ left []
nothing_last = ap (step_of m true (record answered_once { live = []; jobs = [] })) (out-roll-Command (Command-F.Teardown client 2 1))

all_three : commands_taken 3 m (with_command (answer 1 (me_answer (codes "Ann")) 2) sent) ≡ record { outs = reply 1 (me_told (codes "Ann")) ∷ []; state = (left []).state }
all_three =
    ap (λ step. and_then step (commands_taken 2 m)) told_first
    ∙ ap (λ step. and_then (replied (plain_job (teardown 1 1) ∷ took_out ∷ [])) (λ s. and_then step (commands_taken 1 m))) torn_then
    ∙ ap (λ step. and_then (replied (plain_job (teardown 1 1) ∷ took_out ∷ [])) (λ s. and_then (left (took_out ∷ [])) (λ t. and_then step (commands_taken 0 m)))) nothing_last

from_sent : Rest no_rules 2 (drop 1 run.followed_by_a_torn_down_dispatch) no_rows sent
from_sent =
    begins_many 3
    (subst (After no_rules 3 (reply 1 (me_told (codes "Ann")) ∷ []) (drop 2 run.followed_by_a_torn_down_dispatch) no_rows) (sym all_three)
    (gave refl refl (
    is_command _ refl (gave refl refl (
    ends refl)))))

pub followed_by_a_torn_down_dispatch : Rest no_rules 1 run.followed_by_a_torn_down_dispatch no_rows (first_state no_rows)
followed_by_a_torn_down_dispatch =
    asks (saw nowhere false true ∷ []) _ refl ((tt, refl), tt) (gave refl refl from_sent)
