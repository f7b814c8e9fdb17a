use Rattle.op_keys.proofs.Numbers.{equal_numbers}
use Rattle.op_keys.proofs.laws.equal_numbers_for_equal_identities.Goals as goal

pub returns : goal.returns
returns c = equal_numbers
