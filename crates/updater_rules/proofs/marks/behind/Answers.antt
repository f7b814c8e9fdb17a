use Rattle.updater_rules.proofs.FrontLaws.{behind-from, strip_prefix_text}
use Rattle.updater_rules.proofs.marks.behind.Goals as goal

pub returns : goal.returns
returns c = behind-from c.args.front.now c.args.text.now c.strip_prefix.result (strip_prefix_text c.args.front.now c.args.text.now c.strip_prefix.result c.strip_prefix.ensures.cases)
