use Rattle.std.proofs.Common.{◌≡◌}
use Rattle.schema_text.specs.Texts.{forms_in}
use Rattle.schema_text.proofs.definitions.forms_in.Given as goal

abbrev pub invariant-definitions : goal.invariant-definitions
invariant-definitions l = l.forms.items ≡ forms_in l.yielded
