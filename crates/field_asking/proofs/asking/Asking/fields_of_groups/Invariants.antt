use Rattle.std.proofs.Common.{◌≡◌, map}
use Rattle.execution_model.specs.Asked.{asked_of}
use Rattle.field_asking.specs.Asking.{executed, asked_field}
use Rattle.field_asking.proofs.asking.Asking.fields_of_groups.Given as goal

abbrev pub invariant-groups : goal.invariant-groups
invariant-groups l = map asked_field l.fields.items ≡ map (asked_of (executed l.self) l.object) l.yielded
