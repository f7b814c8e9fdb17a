use Rattle.machine_laws.proofs.ClosingLaws.{queries_alone, mutations_alone}
use Rattle.machine_laws.proofs.laws.fetches_alone.Goals as goal

pub returns-clause-query : goal.returns-clause-query
returns-clause-query c start = queries_alone

pub returns-clause-mutation : goal.returns-clause-mutation
returns-clause-mutation c start = mutations_alone
