use Rattle.std.proofs.Common.{◌≡◌, drop}
use Rattle.entity_keys.specs.Objects.{member}
use Rattle.entity_keys.proofs.objects.member.Given as goal

abbrev pub invariant-loop-pair : goal.invariant-loop-pair
invariant-loop-pair g l = member l.pairs l.name ≡ member (drop l.pair-index l.pairs) l.name
