use Rattle.default_laws.proofs.ReadLaws.{read_schemas_settle}
use Rattle.default_laws.proofs.laws.read_schemas_settle.Goals as goal

pub returns : goal.returns
returns c = read_schemas_settle
