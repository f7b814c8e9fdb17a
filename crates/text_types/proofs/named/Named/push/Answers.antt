use Rattle.std.proofs.Common.{subst, sym}
use Rattle.text_types.specs.Names.{Lacks}
use Rattle.text_types.proofs.NameLaws.{HasDistinctNames-push}
use Rattle.text_types.proofs.named.Named.push.Goals as goal

pub invariant_of-self-2 : goal.invariant_of-self-2
invariant_of-self-2 g c =
    rw c.in_ok-push.ensures.items
    (HasDistinctNames-push c.self.inside.pairs.items (c.args.name, c.args.value) c.self.invariant
    (subst (λ ps. Lacks ps c.args.name) (sym c.self.view_is) c.requires))
