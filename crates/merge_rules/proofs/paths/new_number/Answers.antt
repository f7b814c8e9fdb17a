use Rattle.merge_rules.proofs.NumberLaws.{one_known}
use Rattle.merge_rules.proofs.paths.new_number.Goals as goal

pub returns-clause-extends : goal.returns-clause-extends
returns-clause-extends c = one_known c.args.known.now c.insert.new.self c.args.above _ c.args.key c.requires c.in_ok-insert.ensures.updates.0
