use Rattle.std.proofs.Common.{◌≡◌, ◌++◌, ◌∷◌, [], arith, rules}
use Rattle.gate_outside.specs.declared.change.Change.TheVariants as change
use Rattle.gate_outside.proofs.Logs.{kept_change}
use Rattle.gate_outside.proofs.memory_disk.MemoryDisk.cut_to.Goals as goal

pub invariant_of-self : goal.invariant_of-self
invariant_of-self c =
    let same : c.push.new.self.items ≡ c.self.inside.changes.items ++ change.CutTo c.args.len ∷ [] = search rules in
    (kept_change _ _ _ _ (change.CutTo c.args.len) _ _ c.self.invariant.0 (omega arith) c.truncate.ensures.items same, search rules, search rules, search rules)
