use Rattle.check_model.specs.Fields.{PlacedFields}
use Rattle.merge_rules.specs.Kept.{Represents}
use Rattle.merge_rules.specs.Paths.{AreNumbered}
use Rattle.merge_rules.specs.Rows.{Stands}
use Rattle.merge_rules.proofs.conflicts.some_conflict.Given as goal

abbrev pub invariant-rows : goal.invariant-rows
invariant-rows l =
    (fields : PlacedFields) → Stands l.scope.schema.now l.rows fields → AreNumbered fields l.number-items
    → Represents l.scope.schema.now fields l.number-items l.kept l.place
