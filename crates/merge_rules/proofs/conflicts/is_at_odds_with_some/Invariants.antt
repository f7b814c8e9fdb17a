use Rattle.std.proofs.Common.{◌≡◌, drop}
use Rattle.std.specs.Prelude.{Some, slice_get}
use Rattle.std.specs.List.{list_any}
use Rattle.check_model.specs.Fields.{Placed, PlacedFields}
use Rattle.merge_rules.specs.Kept.{at_odds_with}
use Rattle.merge_rules.specs.Rows.{Stands}
use Rattle.merge_rules.proofs.conflicts.is_at_odds_with_some.Given as goal

abbrev pub invariant-others : goal.invariant-others
invariant-others l =
    (fields : PlacedFields) (x : Placed) → Stands l.scope.schema.now l.rows fields → slice_get fields l.place ≡ Some x
    → list_any (at_odds_with l.scope.schema.now fields x) l.others ≡ list_any (at_odds_with l.scope.schema.now fields x) (drop l.other-index l.others)
