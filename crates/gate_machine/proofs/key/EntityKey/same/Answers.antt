use Rattle.std.proofs.Common.{◌∙◌, sym}
use Rattle.gate_machine.proofs.KeyLaws.{same_key-Decides}
use Rattle.gate_machine.proofs.key.EntityKey.same.Goals as goal

pub returns-clause-exact : goal.returns-clause-exact
returns-clause-exact c =
    let d = same_key-Decides c.args.self.now c.args.other.now in
    (λ e. d.0 (sym c.same_key.ensures ∙ e), λ p. c.same_key.ensures ∙ d.1 p)
