use Rattle.std.proofs.Common.{ap, sym, ◌∙◌}
use Rattle.std.specs.Cmp.Lexicographic.{nat_list_cmp_total}
use Rattle.std.specs.FinSet as set
use Rattle.variable_rules.proofs.names.UsedNames.has.Goals as goal

pub returns : goal.returns
returns c =
    c.contains.ensures ∙ sym (set.contains-from_list nat_list_cmp_total _ c.args.name.now)
    ∙ ap (λ s. set.contains s c.args.name.now) c.self.view_is
