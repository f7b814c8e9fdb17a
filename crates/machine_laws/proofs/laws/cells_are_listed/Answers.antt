use Rattle.machine_laws.proofs.ListingLaws.{cells_are_listed, one_listing}
use Rattle.machine_laws.proofs.laws.cells_are_listed.Goals as goal

pub returns-clause-cells : goal.returns-clause-cells
returns-clause-cells c = cells_are_listed

pub returns-clause-one : goal.returns-clause-one
returns-clause-one c = one_listing
