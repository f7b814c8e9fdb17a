use Rattle.std.proofs.Common.{map, take}
use Rattle.schema_defaults.specs.Seen.{Saw}
use Rattle.check_model.specs.Repeated.{at_no_line}
use Rattle.check_model.specs.ArgumentRules.{argument_names}
use Rattle.place_rules.proofs.arguments.names.Given as goal

abbrev pub invariant-arguments : goal.invariant-arguments
invariant-arguments l = Saw l.seen (map at_no_line (argument_names (take l.argument-index l.arguments)))
