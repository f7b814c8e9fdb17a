use Rattle.std.proofs.Common.{◌∙◌, sym}
use Rattle.std.specs.Cmp.Lexicographic.{texts_ties}
use Rattle.layer_store.proofs.changes.Changes.take.Goals as goal

pub returns-in-Some-clause-others : goal.returns-in-Some-clause-others
returns-in-Some-clause-others c e n = c.in-Some.ensures.updates.2 e (sym (texts_ties c.args.entity.now e) ∙ n)
