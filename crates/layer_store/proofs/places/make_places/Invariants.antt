use Rattle.std.proofs.Common.{◌≡◌, ℕ, List, true, false}
use Rattle.std.specs.Prelude.{is_some}
use Rattle.std.specs.BTreeMap.{get, is_at}
use Rattle.std.specs.Map.{lookup}
use Rattle.text_types.specs.Texts.{text_cmp}
use Rattle.layer_store.specs.Bases.{cell_of, is_cell}
use Rattle.layer_store.proofs.places.make_places.Given as goal

abbrev pub invariant-turn : goal.invariant-turn
invariant-turn l = record {
  same : (f : List ℕ) → cell_of (get text_cmp l.places f) ≡ cell_of (get text_cmp l.fn.places f);
  kept : (f : List ℕ) → is_some (get text_cmp l.fn.places f) ≡ true → is_some (get text_cmp l.places f) ≡ true;
  room : (f : List ℕ) → is_cell (get text_cmp l.fields.cells f) ≡ true → is_cell (lookup (is_at (text_cmp f)) l.field-iterator) ≡ false → is_some (get text_cmp l.places f) ≡ true;
}
