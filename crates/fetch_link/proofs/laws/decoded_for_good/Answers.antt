use Rattle.fetch_link.proofs.Staying as staying
use Rattle.fetch_link.proofs.laws.decoded_for_good.Goals as goal

pub returns : goal.returns
returns c = staying.decoded_for_good
