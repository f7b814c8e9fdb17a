use Rattle.std.proofs.Common.{◌≡◌, map, drop}
use Rattle.std.specs.List.{filter_map}
use Rattle.entity_keys.specs.Objects.{member}
use Rattle.answer_model.specs.Writing.{plain_member}
use Rattle.field_asking.specs.Asking.{asked_field}
use Rattle.result_writer.proofs.entities.plain_value.Given as goal

-- none of the fields so far has it
abbrev pub invariant-fields : goal.invariant-fields
invariant-fields l =
    member (filter_map (plain_member l.members.members.now) (map asked_field l.fields)) l.name
    ≡ member (filter_map (plain_member l.members.members.now) (map asked_field (drop l.field-index l.fields))) l.name
