-- Laws of what a store stands for, which the layers above cite.
use Rattle.std.specs.Prelude.{◌≡◌, ℕ, false, List, length}
use Rattle.cache_model.specs.History.{History, IsUnfinished, content_of, is_optimistic, flattened}
use Rattle.layer_store.specs.declared.store.Store.{Store}
use Rattle.layer_store.specs.Stores.{Stands, IsUnchanged, IsOpen, CanFinish, cells_of, tickets_of}

-- look-ups show the flattened map of each history that the store stands for
abbrev pub ShowsFlattened : Type 0
ShowsFlattened = (store : Store) (h : History) → Stands store h → (entity field : List ℕ) → cells_of store entity field ≡ flattened h entity field

-- a history has as many contents as tickets were drawn
abbrev pub CountsTickets : Type 0
CountsTickets = (store : Store) (h : History) → Stands store h → length h ≡ tickets_of store

-- a ticket that isn't finished in the history is open in the store
abbrev pub OpensUnfinished : Type 0
OpensUnfinished = (store : Store) (h : History) (ticket : ℕ) → Stands store h → IsUnfinished h ticket → IsOpen store ticket

-- and a ticket that is open in the store isn't finished in the history
abbrev pub UnfinishedWhereOpen : Type 0
UnfinishedWhereOpen = (store : Store) (h : History) (ticket : ℕ) → Stands store h → IsOpen store ticket → IsUnfinished h ticket

-- a ticket that isn't finished in the history can be finished where its content there isn't Optimistic
abbrev pub FinishesSettled : Type 0
FinishesSettled = (store : Store) (h : History) (ticket : ℕ) → Stands store h → IsUnfinished h ticket → is_optimistic (content_of h ticket).kind ≡ false → CanFinish store ticket

-- a store that is unchanged stands for what it stood for
abbrev pub StandsUnchanged : Type 0
StandsUnchanged = (old new : Store) (h : History) → IsUnchanged old new → Stands old h → Stands new h
