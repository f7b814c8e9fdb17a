use Rattle.std.proofs.Common.{ap, is_some}
use Rattle.machine_laws.proofs.ClosingLaws.{queries_alone, open_mutations_close}
use Rattle.machine_laws.proofs.laws.open_fetches_close.Goals as goal

pub returns-clause-query : goal.returns-clause-query
returns-clause-query c start =
    λ meaning state fetch key peer line outcome apart found is. start.answers_close.ensures meaning state fetch key peer line outcome is (queries_alone state fetch apart found (ap is_some is))

pub returns-clause-mutation : goal.returns-clause-mutation
returns-clause-mutation c start = open_mutations_close
