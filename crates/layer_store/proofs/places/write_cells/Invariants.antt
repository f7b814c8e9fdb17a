use Rattle.std.proofs.Common.{◌≡◌, ℕ, List, unwrap_or, true}
use Rattle.std.specs.Prelude.{is_some}
use Rattle.std.specs.BTreeMap.{get, btree_map_len}
use Rattle.text_types.specs.Texts.{text_cmp}
use Rattle.layer_store.specs.Bases.{cell_of, is_cell}
use Rattle.layer_store.proofs.places.write_cells.Given as goal

abbrev pub invariant-turn : goal.invariant-turn
invariant-turn l = record {
  said : (f : List ℕ) → unwrap_or (get text_cmp l.left f) (cell_of (get text_cmp l.places f)) ≡ unwrap_or (get text_cmp l.fn.cells f) (cell_of (get text_cmp l.fn.places f));
  room : (f : List ℕ) → is_cell (get text_cmp l.left f) ≡ true → is_some (get text_cmp l.places f) ≡ true;
}

abbrev pub decreases-turn : goal.decreases-turn
decreases-turn l = btree_map_len l.left
