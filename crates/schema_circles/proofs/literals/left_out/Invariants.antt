use Rattle.std.proofs.Common.{◌≡◌, ◌++◌, drop}
use Rattle.schema_defaults.specs.Seen.{was_met}
use Rattle.schema_circles.specs.Fillings.{left_out}
use Rattle.schema_circles.proofs.literals.left_out.Given as goal

abbrev pub invariant-declared : goal.invariant-declared
invariant-declared l =
    l.nodes ++ left_out (was_met l.names) l.number (drop l.field-index l.declared) ≡ left_out (was_met l.names) l.fn.first l.declared
