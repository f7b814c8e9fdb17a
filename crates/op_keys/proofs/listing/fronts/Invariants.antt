use Rattle.std.proofs.Common.{◌≡◌, take}
use Rattle.std.specs.List.{flat_map}
use Rattle.execution_model.specs.Fronts.{definition_fronts}
use Rattle.op_keys.proofs.listing.fronts.Given as goal

abbrev pub invariant-definitions : goal.invariant-definitions
invariant-definitions l = l.fronts ≡ flat_map (definition_fronts l.lister.schema.now l.lister.subscribes) (take l.definition-index l.definition-items)
