-- What a layer says of a cell: nothing, that it is gone, or what stands there.
use Rattle.std.specs.Prelude.{◌≡◌, ℕ, suc, Bool, ◌||◌, cond, List, [], ◌∷◌, Option, Some, None, bytes_eq}
use Rattle.std.specs.List.{list_any}
use Rattle.std.specs.BTreeMap.{get}
use Rattle.text_types.specs.Texts.{text_cmp}
use Rattle.cache_model.specs.declared.cell.Cell.{Cell}
use Rattle.cache_model.specs.Keys.{field_name_of}
use Rattle.cache_model.specs.Maps.{or_else}
use Rattle.layer_store.specs.declared.fields.Fields.{Fields}
use Rattle.layer_store.specs.declared.fields.Found.{Found}
use Rattle.layer_store.specs.declared.fields.Found.TheVariants as Found
use Rattle.layer_store.specs.declared.changes.Changes.{Changes}
use Rattle.layer_store.specs.declared.layer.Layer.{Layer}

-- a tombstone says that nothing stands there
abbrev pub gone_if : Bool → Option (Option Cell)
gone_if buried = cond buried (Some None) None

-- a tombstone of the object, or of the field's name, covers the field
abbrev pub is_buried : Fields → List ℕ → Bool
is_buried fields field = fields.dropped || list_any (λ name. bytes_eq name (field_name_of field)) fields.names.items

-- what is said of a field: its own cell or tombstone first, then those of its name and its object
abbrev pub found_in : Fields → List ℕ → Option (Option Cell)
found_in fields field = or_else (get text_cmp fields.cells field) (gone_if (is_buried fields field))

-- the same where something is kept of the object at all
abbrev pub found_at : Option Fields → List ℕ → Option (Option Cell)
found_at None field = None
found_at (Some fields) field = found_in fields field

-- what some changes say of a cell
abbrev pub found_by : Changes → List ℕ → List ℕ → Option (Option Cell)
found_by changes entity field = found_at (get text_cmp changes.entities entity) field

-- what some layers say of a cell: what the newest says that says something
abbrev pub found_through : List Layer → List ℕ → List ℕ → Option (Option Cell)
found_through [] entity field = None
found_through (layer ∷ layers) entity field = or_else (found_through layers entity field) (found_by layer.changes entity field)

-- how many layers stand before the first that isn't finished
abbrev pub finished_count : List Layer → ℕ
finished_count [] = 0
finished_count (layer ∷ layers) = cond layer.finished (suc (finished_count layers)) 0

-- a look-up's answer is what was said
abbrev pub IsFound : Found → Option (Option Cell) → Type 0
IsFound (Found.Cell cell) said = said ≡ Some (Some cell.now)
IsFound Found.Gone said = said ≡ Some None
IsFound Found.Nothing said = said ≡ None
