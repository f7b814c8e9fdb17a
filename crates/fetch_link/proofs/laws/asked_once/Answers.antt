use Rattle.fetch_link.proofs.Uniqueness as uniqueness
use Rattle.fetch_link.proofs.laws.asked_once.Goals as goal

pub returns : goal.returns
returns c = uniqueness.asked_once
