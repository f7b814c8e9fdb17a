use Rattle.std.proofs.Common.{◌≡◌, ◌++◌, ◌∷◌, [], refl, arith, rules}
use Rattle.gate_outside.specs.declared.change.Change.TheVariants as change
use Rattle.gate_outside.proofs.Logs.{kept_change}
use Rattle.gate_outside.proofs.memory_disk.MemoryDisk.make_sure.Goals as goal

pub invariant_of-self : goal.invariant_of-self
invariant_of-self c =
    let same : c.push.new.self.items ≡ c.self.inside.changes.items ++ change.Synced ∷ [] = search rules in
    (kept_change _ _ _ _ change.Synced _ _ c.self.invariant.0 (omega arith) refl same, search rules, search rules, search rules)
