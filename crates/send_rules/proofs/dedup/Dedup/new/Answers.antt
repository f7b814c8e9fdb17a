use Rattle.send_rules.proofs.Agreement.{agree_empty}
use Rattle.send_rules.proofs.dedup.Dedup.new.Goals as goal

pub invariant_of-result : goal.invariant_of-result
invariant_of-result c = rw (c.new.ensures, c.new-2.ensures) agree_empty
