use Rattle.machine_laws.proofs.TicketLaws.{tickets_in_order_at_first, tickets_in_order, tickets_in_order_in_runs}
use Rattle.machine_laws.proofs.laws.tickets_in_order.Goals as goal

pub returns-clause-first : goal.returns-clause-first
returns-clause-first c start = tickets_in_order_at_first

pub returns-clause-command : goal.returns-clause-command
returns-clause-command c start = tickets_in_order

pub returns-clause-run : goal.returns-clause-run
returns-clause-run c start = tickets_in_order_in_runs
