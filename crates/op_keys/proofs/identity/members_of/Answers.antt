use Rattle.std.proofs.Common.{subst, sym, arith, take}
use Rattle.text_types.specs.Names.{HasDistinctNames, Lacks}
use Rattle.text_types.proofs.NameLaws.{Lacks-take}
use Rattle.op_keys.proofs.identity.members_of.Goals as goal

pub push-requires : goal.push-requires
push-requires c =
    let i = c.loop-name.name-index in
    let pairs = c.as_slice-name-items.result.now in
    let pair = c.loop-name-item.result in
    let names : HasDistinctNames pairs = rw c.as_slice-name-items.ensures.pairs c.as_slice-name-items.ensures.names in
    let next = Lacks-take pairs i pair (omega arith) names in
    rw (c.loop-name.invariant, c.in_ok-copy.ensures) (subst (λ p. Lacks (take i pairs) p.0) (sym c.loop-name-item.is) next)
