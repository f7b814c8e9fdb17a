use Rattle.std.proofs.Common.{ap, sym, ◌∙◌, true, cond}
use Rattle.std.specs.BTreeMap.{is_at}
use Rattle.std.specs.BTreeSet.{contains}
use Rattle.std.specs.FinSet as set
use Rattle.text_types.specs.Texts.{text_cmp}
use Rattle.variable_rules.proofs.NameLaws.{put_in, known_in}
use Rattle.variable_rules.proofs.names.UsedNames.note.Goals as goal

pub returns-then-contains : goal.returns-then-contains
returns-then-contains c =
    sym c.self.view_is ∙ known_in _ c.args.name.now (sym c.contains.ensures ∙ c.if-contains.true)
    ∙ ap (λ s. set.insert s c.args.name.now) c.self.view_is

pub returns : goal.returns
returns c =
    put_in _ _ c.args.name.now (λ q.
    c.in_ok-insert.ensures.updates.0 q
    ∙ ap (λ n. cond (is_at (text_cmp n) q) true (contains text_cmp c.self.inside.names q)) c.in_ok-copy.ensures)
    ∙ ap (λ s. set.insert s c.args.name.now) c.self.view_is
