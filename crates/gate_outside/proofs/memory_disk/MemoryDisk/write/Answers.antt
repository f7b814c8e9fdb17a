use Rattle.std.proofs.Common.{◌≡◌, ◌+◌, ◌++◌, ◌∷◌, [], length, map, subst, ap, ◌∙◌, rules}
use Rattle.std.proofs.lemmas.List.{length-append}
use Rattle.std.specs.Prelude.{OnOk}
use Rattle.gate_outside.specs.Disk.{written}
use Rattle.gate_outside.specs.declared.change.Change.TheVariants as change
use Rattle.gate_outside.specs.Log.{Wrote, event_of}
use Rattle.gate_outside.specs.MemoryDisk.{with_event}
use Rattle.gate_outside.proofs.Logs.{kept_write, log_write, same_disk}
use Rattle.gate_outside.proofs.memory_disk.MemoryDisk.write.Goals as goal

pub invariant_of-self : goal.invariant_of-self
invariant_of-self c =
    let is = subst (λ r. OnOk r (c.overwrite.new.file.items ≡ written c.args.at c.args.bytes.now c.self.inside.file.items)) c.unwrap.ensures c.overwrite.ensures.written in
    let grown : c.extend_from_slice.new.self.items ≡ c.self.inside.bytes.items ++ c.args.bytes.now = search rules in
    let same : c.push.new.self.items ≡ c.self.inside.changes.items ++ change.Wrote c.args.at (length c.self.inside.bytes.items) (length c.args.bytes.now) ∷ [] = search rules in
    (kept_write _ _ _ _ _ _ _ _ _ c.self.invariant.0 is grown same, search rules, search rules, search rules)

pub returns : goal.returns
returns c =
    let grown : c.extend_from_slice.new.self.items ≡ c.self.inside.bytes.items ++ c.args.bytes.now = search rules in
    let same : c.push.new.self.items ≡ c.self.inside.changes.items ++ change.Wrote c.args.at (length c.self.inside.bytes.items) (length c.args.bytes.now) ∷ [] = search rules in
    let log : map (event_of c.extend_from_slice.new.self.items) c.push.new.self.items ≡ map (event_of c.self.inside.bytes.items) c.self.inside.changes.items ++ Wrote c.args.at c.args.bytes.now ∷ [] =
    ap (λ l. map (event_of c.extend_from_slice.new.self.items) l) same
    ∙ ap (λ z. map (event_of z) (c.self.inside.changes.items ++ change.Wrote c.args.at (length c.self.inside.bytes.items) (length c.args.bytes.now) ∷ [])) grown
    ∙ log_write c.self.inside.bytes.items c.args.bytes.now c.self.inside.changes.items c.args.at c.self.invariant.0.within in
    let held : length c.extend_from_slice.new.self.items ≡ length c.self.inside.bytes.items + length c.args.bytes.now = ap length grown ∙ length-append c.self.inside.bytes.items c.args.bytes.now in
    same_disk c.self.inside.first.items _ _ _ _ c.self.inside.faults c.self.inside.room log held
    ∙ ap (λ d. with_event d (Wrote c.args.at c.args.bytes.now) (length c.args.bytes.now)) c.self.view_is
