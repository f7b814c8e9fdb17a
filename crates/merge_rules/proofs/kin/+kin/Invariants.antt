use Rattle.std.proofs.Common.{ℕ, ◌+◌, ◌*◌}
use Rattle.std.specs.Option.{option_map_or}
use Rattle.merge_rules.proofs.kin.+kin.Given as goal

abbrev pub decreases-kin : goal.decreases-kin
decreases-kin l = 2 * option_map_or (λ (i : ℕ). i + 1) l.a 0

abbrev pub decreases-kin_at : goal.decreases-kin_at
decreases-kin_at l = 2 * l.a + 1
