use Rattle.std.proofs.lemmas.Str.Pattern.{strip_prefix_char}
use Rattle.updater_rules.proofs.FrontLaws.{behind_mark-from}
use Rattle.updater_rules.proofs.marks.behind_mark.Goals as goal

pub returns : goal.returns
returns c = behind_mark-from c.args.mark c.args.text.now c.strip_prefix.result (strip_prefix_char c.args.mark c.args.text.now c.strip_prefix.result c.strip_prefix.ensures.cases c.requires)
