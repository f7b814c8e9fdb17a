use Rattle.std.proofs.Common.{◌≡◌, ◌++◌}
use Rattle.std.specs.List.{AllByRecursion}
use Rattle.std.specs.Map.{keys_of}
use Rattle.std.specs.List.Sorted.{IsStrictlySortedBy}
use Rattle.text_types.specs.Texts.{text_cmp}
use Rattle.layer_store.specs.Rows.{rows_by, AreFieldsOrdered}
use Rattle.layer_store.proofs.listing.list.Given as goal

abbrev pub invariant-turn : goal.invariant-turn
invariant-turn l = record {
  rows : l.cells ++ rows_by l.entity-iterator ≡ rows_by l.fn.changes.entities.entries;
  entities : IsStrictlySortedBy text_cmp (keys_of l.fn.changes.entities.entries);
  fields : AllByRecursion AreFieldsOrdered l.entity-iterator → AllByRecursion AreFieldsOrdered l.fn.changes.entities.entries;
}
