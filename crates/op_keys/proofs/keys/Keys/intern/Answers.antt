use Rattle.std.proofs.Common.{◌≡◌, false, sym, subst, ap, length, arith}
use Rattle.op_keys.specs.declared.identity.Identity.{Identity}
use Rattle.op_keys.specs.Identities.{Identities, holds, most}
use Rattle.op_keys.specs.KeyParts.{of_key}
use Rattle.op_keys.proofs.Numbers.{map_length, told, refused}
use Rattle.op_keys.proofs.keys.Keys.intern.Goals as goal

pub put-requires : goal.put-requires
unfolding most
put-requires c =
    let seen = ap (λ (held : Identities). length held) c.self.view_is in
    omega (arith, c.if-len-lt-MOST.true, c.len.ensures.len, seen, map_length of_key c.self.inside.keys.keys)

pub returns-then-len-lt-MOST-clause-numbers : goal.returns-then-len-lt-MOST-clause-numbers
unfolding most
returns-then-len-lt-MOST-clause-numbers c =
    let seen = ap (λ (held : Identities). length held) c.self.view_is in (
      λ e. absurd (c.put.ensures.numbers e),
      λ p. let full = p.1 in absurd (omega (arith, full, c.if-len-lt-MOST.true, c.len.ensures.len, seen, map_length of_key c.self.inside.keys.keys)),
    )

pub returns-else-len-lt-MOST-clause-numbers : goal.returns-else-len-lt-MOST-clause-numbers
unfolding most
returns-else-len-lt-MOST-clause-numbers c =
    let seen = ap (λ (held : Identities). length held) c.self.view_is in
    let full : length c.args.self.now ≡ most = omega (arith, c.self.invariant, c.if-len-lt-MOST.false, c.len.ensures.len, seen, map_length of_key c.self.inside.keys.keys) in (
      λ e. (subst (λ (i : Identity). holds c.args.self.now i ≡ false) c.key_of-key.ensures (told _ c.find.result c.find.ensures.err e), full),
      λ p. refused _ c.find.result c.find.ensures.ok c.find.ensures.memory (subst (λ (i : Identity). holds c.args.self.now i ≡ false) (sym c.key_of-key.ensures) p.0),
    )
