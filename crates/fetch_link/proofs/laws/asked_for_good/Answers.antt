use Rattle.fetch_link.proofs.Staying as staying
use Rattle.fetch_link.proofs.laws.asked_for_good.Goals as goal

pub returns : goal.returns
returns c = staying.asked_for_good
