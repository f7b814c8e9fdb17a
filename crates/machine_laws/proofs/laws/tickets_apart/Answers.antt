use Rattle.machine_laws.proofs.ApartLaws.{tickets_apart_at_first, tickets_apart}
use Rattle.machine_laws.proofs.ClosingLaws.{tickets_apart_in_runs}
use Rattle.machine_laws.proofs.laws.tickets_apart.Goals as goal

pub returns-clause-first : goal.returns-clause-first
returns-clause-first c start = tickets_apart_at_first

pub returns-clause-command : goal.returns-clause-command
returns-clause-command c start = tickets_apart

pub returns-clause-run : goal.returns-clause-run
returns-clause-run c start = tickets_apart_in_runs
