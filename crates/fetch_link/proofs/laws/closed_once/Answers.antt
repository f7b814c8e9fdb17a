use Rattle.fetch_link.proofs.Uniqueness as uniqueness
use Rattle.fetch_link.proofs.laws.closed_once.Goals as goal

pub returns : goal.returns
returns c = uniqueness.closed_once
