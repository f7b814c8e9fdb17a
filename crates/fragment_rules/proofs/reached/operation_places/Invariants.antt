use Rattle.std.proofs.Common.{◌≡◌, take}
use Rattle.std.specs.List.{filter_map, enumerate_from}
use Rattle.check_model.specs.DocumentRules.{operation_place}
use Rattle.fragment_rules.proofs.reached.operation_places.Given as goal

abbrev pub invariant-definitions : goal.invariant-definitions
invariant-definitions l = l.places ≡ filter_map operation_place (enumerate_from 0 (take l.place l.definitions))
