use Rattle.fetch_link.proofs.Uniqueness as uniqueness
use Rattle.fetch_link.proofs.laws.decoded_once.Goals as goal

pub returns : goal.returns
returns c = uniqueness.decoded_once
