use Rattle.queue_model.proofs.Chains.{one_list}
use Rattle.queue_model.proofs.laws.one_list_of_rows.Goals as goal

pub returns : goal.returns
returns c = one_list
