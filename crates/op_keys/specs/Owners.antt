-- What a selection set belongs to, as the code tells it.
use Rattle.execution_model.specs.Fronts as fronts
use Rattle.op_keys.specs.declared.owner.Owner.{Owner}
use Rattle.op_keys.specs.declared.owner.Owner.TheVariants as owner

-- the same owner as `execution_model` tells it: an operation, a field or a fragment
abbrev pub owner_of : Owner → fronts.Owner
owner_of owner.Operation = fronts.OfOperation
owner_of owner.Field = fronts.OfField
owner_of owner.Fragment = fronts.OfFragment
