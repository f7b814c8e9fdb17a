use Rattle.std.proofs.Common.{map, take}
use Rattle.std.specs.List.{filter_map}
use Rattle.schema_defaults.specs.Seen.{Saw}
use Rattle.check_model.specs.Repeated.{at_no_line}
use Rattle.fragment_rules.specs.Names.{name_of}
use Rattle.fragment_rules.proofs.names.names.Given as goal

abbrev pub invariant-definitions : goal.invariant-definitions
invariant-definitions l = Saw l.seen (map at_no_line (filter_map (name_of l.kind) (take l.definition-index l.definitions)))
