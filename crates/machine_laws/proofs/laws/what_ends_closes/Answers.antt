use Rattle.machine_laws.proofs.ClosingLaws.{queries_close, mutations_close}
use Rattle.machine_laws.proofs.laws.what_ends_closes.Goals as goal

pub returns-clause-query : goal.returns-clause-query
returns-clause-query c start = queries_close

pub returns-clause-mutation : goal.returns-clause-mutation
returns-clause-mutation c start = mutations_close
