use Rattle.std.proofs.Common.{◌≡◌, ◌∙◌, sym, ap, subst, take, List, Option, arith}
use Rattle.std.proofs.lemmas.List.{take_all}
use Rattle.std.specs.List.Sorted.{IsStrictlySortedBy}
use Rattle.cache_model.specs.declared.cell.Cell.{Cell}
use Rattle.cache_model.specs.Maps.{or_else}
use Rattle.cache_model.specs.Listing.{Row, cell_of_rows, place_cmp}
use Rattle.layer_store.specs.declared.layer.Layer.{Layer}
use Rattle.layer_store.specs.Layers.{found_through}
use Rattle.layer_store.specs.Bases.{cell_of, place_at, base_at}
use Rattle.layer_store.proofs.StoreLaws.{flattened_at}
use Rattle.layer_store.proofs.RowLaws.{rows_by_sorted, rows_by_found, found_cell, cell_over}
use Rattle.layer_store.proofs.store.Store.flat.Goals as goal

pub returns-clause-ok : goal.returns-clause-ok
returns-clause-ok g c h s =
    let store = c.args.self.now in
    let layers = store.layers.items in
    let changes = c.put_base.new.self in
    let entries = changes.entities.entries in
    let whole : take c.len.result layers ≡ layers = take_all c.len.result layers (omega arith) in
    record {
      sorted = subst (λ (rows : List Row). IsStrictlySortedBy place_cmp rows) (sym c.in_ok-cells.ensures.rows) (rows_by_sorted entries c.in_ok-cells.ensures.ordered);
      found = λ e f.
          ap (λ (rows : List Row). cell_of_rows rows e f) c.in_ok-cells.ensures.rows
          ∙ rows_by_found entries e f c.in_ok-cells.ensures.ordered
          ∙ sym (found_cell changes e f)
          ∙ ap cell_of (c.in_ok-put_base.ensures e f ∙ ap (λ (a : Option (Option Cell)). or_else a (place_at store.base e f)) (c.in_ok-changes.ensures e f ∙ ap (λ (ls : List Layer). found_through ls e f) whole))
          ∙ cell_over (found_through layers e f) (place_at store.base e f)
          ∙ sym (flattened_at (base_at store.base) store.base_len layers h e f s);
    }
