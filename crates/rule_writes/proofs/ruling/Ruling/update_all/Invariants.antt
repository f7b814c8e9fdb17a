use Rattle.std.proofs.Common.{◌≡◌, map, take}
use Rattle.std.specs.List.{flat_map}
use Rattle.field_asking.specs.Asking.{executed, asked_field}
use Rattle.rule_effects.specs.Effects.{field_updates}
use Rattle.rule_writes.proofs.ruling.Ruling.update_all.Given as goal

abbrev pub invariant-fields : goal.invariant-fields
invariant-fields l = l.out ≡ flat_map (field_updates l.self.rules.now (executed l.self.asking.now) l.answer.value.now) (map asked_field (take l.asked-index l.fields))
