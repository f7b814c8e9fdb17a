use Rattle.machine_model.proofs.ClosedTickets.{closed_tickets_stay, closed_tickets_stay_in_runs}
use Rattle.machine_model.proofs.laws.closed_tickets_stay.Goals as goal

pub returns-clause-command : goal.returns-clause-command
returns-clause-command c start = closed_tickets_stay

pub returns-clause-run : goal.returns-clause-run
returns-clause-run c start = closed_tickets_stay_in_runs
