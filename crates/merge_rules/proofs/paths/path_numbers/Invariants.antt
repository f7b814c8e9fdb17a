use Rattle.std.proofs.Common.{◌≡◌, length}
use Rattle.schema_model.specs.declared.schema.Schema.{Schema}
use Rattle.check_model.specs.Fields.{PlacedFields}
use Rattle.merge_rules.specs.Paths.{AreTold}
use Rattle.merge_rules.specs.Rows.{Stands}
use Rattle.merge_rules.proofs.paths.path_numbers.Given as goal

abbrev pub invariant-rows : goal.invariant-rows
invariant-rows l = record {
  long : length l.numbers.items ≡ l.row-index;
  told : (schema : Schema) (fields : PlacedFields) → Stands schema l.rows fields → AreTold fields l.known l.numbers.items;
}
