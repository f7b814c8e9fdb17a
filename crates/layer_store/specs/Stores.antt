-- What a store stands for.
use Rattle.std.specs.Prelude.{◌≡◌, ℕ, ◌+◌, ◌-◌, ◌<◌, ◌≤◌, false, map, length, Option, unwrap_or, slice_get, IfSome}
use Rattle.cache_model.specs.Maps.{CellMap}
use Rattle.cache_model.specs.History.{History, Kept, Layered, StandsForHistory, is_optimistic}
use Rattle.layer_store.specs.declared.layer.Layer.{Layer}
use Rattle.layer_store.specs.declared.store.Store.{Store}
use Rattle.layer_store.specs.Layers.{found_by, found_through}
use Rattle.layer_store.specs.Bases.{base_at}

-- a layer as what is kept of a content
abbrev pub kept_of : Layer → Kept
kept_of layer = record { kind = layer.kind; finished = layer.finished; says = found_by layer.changes }

-- how many contents are squashed into the base
abbrev pub base_len_of : Store → ℕ
base_len_of store = store.base_len

-- how many contents are kept above the base
abbrev pub kept_len_of : Store → ℕ
kept_len_of store = length store.layers.items

-- how many tickets were drawn
abbrev pub tickets_of : Store → ℕ
tickets_of store = base_len_of store + kept_len_of store

-- a store as a base map, the number of contents in it, and what is kept of the others
abbrev pub layered_of : Store → Layered
layered_of store = record { base = base_at store.base; base_len = base_len_of store; kept = map kept_of store.layers.items }

-- the store stands for a history of contents by ticket
abbrev pub Stands : Store → History → Type 0
Stands store history = StandsForHistory (layered_of store) history

-- the map that look-ups show: what the newest layer says that says something of the cell, else the base's cell
abbrev pub cells_of : Store → CellMap
cells_of store entity field = unwrap_or (found_through store.layers.items entity field) (base_at store.base entity field)

-- the same base map, the same number of contents in it, and the same kept of each other content
abbrev pub IsUnchanged : Store → Store → Type 0
IsUnchanged old new = layered_of new ≡ layered_of old

-- the ticket's content is kept above the base
pub record IsKept (store : Store) (ticket : ℕ) : Type 0 where
  pub above : base_len_of store < ticket
  pub drawn : ticket ≤ tickets_of store

-- the layer of a ticket that is kept
abbrev pub layer_of : Store → ℕ → Option Layer
layer_of store ticket = slice_get store.layers.items (ticket - base_len_of store - 1)

-- the ticket was drawn and isn't finished
pub record IsOpen (store : Store) (ticket : ℕ) : Type 0 where
  pub kept : IsKept store ticket
  pub mark : IfSome (layer_of store ticket) (λ layer. layer.finished ≡ false)

-- and its content isn't Optimistic
pub record CanFinish (store : Store) (ticket : ℕ) : Type 0 where
  pub still_open : IsOpen store ticket
  pub kind : IfSome (layer_of store ticket) (λ layer. is_optimistic layer.kind ≡ false)
