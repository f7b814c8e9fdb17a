use Rattle.std.proofs.Common.{◌≡◌, ◌++◌}
use Rattle.std.specs.Map.{keys_of}
use Rattle.std.specs.List.Sorted.{IsStrictlySortedBy}
use Rattle.text_types.specs.Texts.{text_cmp}
use Rattle.layer_store.specs.Rows.{rows_in}
use Rattle.layer_store.proofs.listing.push_fields.Given as goal

abbrev pub invariant-turn : goal.invariant-turn
invariant-turn l = record {
  rows : l.cells ++ rows_in l.entity l.field-iterator ≡ l.fn.cells ++ rows_in l.entity l.fn.fields.entries;
  ordered : IsStrictlySortedBy text_cmp (keys_of l.fn.fields.entries);
}
