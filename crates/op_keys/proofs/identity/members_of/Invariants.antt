use Rattle.std.proofs.Common.{◌≡◌, take}
use Rattle.op_keys.proofs.identity.members_of.Given as goal

abbrev pub invariant-loop-name : goal.invariant-loop-name
invariant-loop-name l = l.members ≡ take l.name-index l.name-items
