use Rattle.std.proofs.Common.{List, ℕ}
use Rattle.std.specs.Prelude.{bytes_eq}
use Rattle.std.specs.List.{list_any}
use Rattle.std.specs.BTreeMap.{get}
use Rattle.text_types.specs.Texts.{text_cmp}
use Rattle.cache_model.specs.Keys.{field_name_of}
use Rattle.layer_store.specs.Layers.{found_in}
use Rattle.layer_store.proofs.CellLaws.{all_below}
use Rattle.layer_store.proofs.fields.Fields.put_fields.Goals as goal

pub returns : goal.returns
returns c f =
    let own = c.args.self.now in
    let older = c.args.older.now in
    rw (c.put_drop.ensures f, c.in_ok-put_names.ensures f, c.in_ok-put_cells.ensures f, c.deref.ensures.value)
    (all_below (found_in own f) (get text_cmp older.cells f) (list_any (λ (name : List ℕ). bytes_eq name (field_name_of f)) older.names.items) older.dropped)
