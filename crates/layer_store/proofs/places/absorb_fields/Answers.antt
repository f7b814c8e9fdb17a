use Rattle.std.specs.BTreeMap.{get}
use Rattle.text_types.specs.Texts.{text_cmp}
use Rattle.layer_store.specs.Layers.{is_buried}
use Rattle.layer_store.proofs.PlaceLaws.{absorbed, unburied_room}
use Rattle.layer_store.proofs.places.absorb_fields.Goals as goal

pub write_cells-requires : goal.write_cells-requires
write_cells-requires c f cell = rw (c.bury.ensures f) (unburied_room (get text_cmp c.args.fields.cells f) (get text_cmp c.args.places.now f) (is_buried c.args.fields f) cell (c.requires f cell))

pub returns : goal.returns
returns c f = rw (c.write_cells.ensures f, c.bury.ensures f) (absorbed (get text_cmp c.args.fields.cells f) (is_buried c.args.fields f) (get text_cmp c.args.places.now f))
