use Rattle.std.proofs.Common.{ℕ, ◌+◌, ◌*◌}
use Rattle.std.specs.Option.{option_map_or}
use Rattle.merge_rules.proofs.alike.+stand.Given as goal

abbrev pub decreases-stand_alike : goal.decreases-stand_alike
decreases-stand_alike l = 2 * option_map_or (λ (i : ℕ). i + 1) l.a 0

abbrev pub decreases-rows_stand_alike : goal.decreases-rows_stand_alike
decreases-rows_stand_alike l = 2 * l.a + 1
