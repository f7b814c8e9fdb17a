use Rattle.std.proofs.Common.{◌≡◌, map, take}
use Rattle.std.specs.List.{filter_map}
use Rattle.answer_model.specs.Writing.{plain_member}
use Rattle.field_asking.specs.Asking.{asked_field}
use Rattle.rule_writes.specs.Views.{pairs_of}
use Rattle.rule_writes.proofs.members.plain_members.Given as goal

abbrev pub invariant-fields : goal.invariant-fields
invariant-fields l = pairs_of l.found.items ≡ filter_map (plain_member l.members.members.now) (map asked_field (take l.field-index l.fields))
