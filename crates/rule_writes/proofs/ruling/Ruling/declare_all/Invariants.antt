use Rattle.std.proofs.Common.{◌≡◌, map, take}
use Rattle.std.specs.List.{flat_map}
use Rattle.field_asking.specs.Asking.{executed, asked_field}
use Rattle.rule_effects.specs.Effects.{field_declared}
use Rattle.rule_writes.proofs.ruling.Ruling.declare_all.Given as goal

abbrev pub invariant-fields : goal.invariant-fields
invariant-fields l = l.out ≡ flat_map (field_declared l.self.rules.now (executed l.self.asking.now)) (map asked_field (take l.asked-index l.fields))
