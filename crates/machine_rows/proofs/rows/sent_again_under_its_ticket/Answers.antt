use Rattle.machine_rows.proofs.RowRuns.{sent_again_under_its_ticket}
use Rattle.machine_rows.proofs.rows.sent_again_under_its_ticket.Goals as goal

pub returns : goal.returns
returns c = sent_again_under_its_ticket
