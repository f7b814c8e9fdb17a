use Rattle.std.proofs.Common.{subst}
use Rattle.send_rules.specs.Sendings.{OneFetchEach}
use Rattle.send_rules.proofs.Agreement.{agree_one}
use Rattle.send_rules.proofs.dedup.Dedup.fetch_of.Goals as goal

pub returns-clause-single : goal.returns-clause-single
returns-clause-single c = subst OneFetchEach c.self.view_is (agree_one c.self.inside.in_flight c.self.inside.down c.self.invariant)
