use Rattle.std.proofs.Common.{map, take}
use Rattle.schema_defaults.specs.Seen.{Saw}
use Rattle.check_model.specs.Repeated.{at_no_line}
use Rattle.check_model.specs.DirectiveRules.{single_directives}
use Rattle.place_rules.proofs.directives.single_names.Given as goal

abbrev pub invariant-directives : goal.invariant-directives
invariant-directives l = Saw l.seen (map at_no_line (single_directives l.schema (take l.directive-index l.directives)))
