use Rattle.std.proofs.Common.{◌≡◌, drop}
use Rattle.entity_keys.specs.Objects.{member}
use Rattle.result_writer.proofs.entities.key_rule.Given as goal

abbrev pub invariant-rules : goal.invariant-rules
invariant-rules l = member l.rules l.name ≡ member (drop l.rule-index l.rule-items) l.name
