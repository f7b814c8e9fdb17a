-- The answer to `flat`: all cells of the cache.
use Rattle.std.specs.Prelude.{◌≡◌, List}
use Rattle.cache_model.specs.Maps.{CellMap}
use Rattle.cache_model.specs.History.{History, flattened}
use Rattle.cache_model.specs.Listing.{Row, ListsMap}
use Rattle.machine_model.specs.Inspection.{cells_of}

-- it lists the flattened map: its cells and no others, each once, in the order of their places
abbrev pub CellsAreListed : Type 0
CellsAreListed = (history : History) → ListsMap (cells_of history) (flattened history)

-- a map has one listing, so whatever lists the flattened map gives out the same
abbrev pub OneListing : Type 0
OneListing = (cells : CellMap) (rows others : List Row) → ListsMap rows cells → ListsMap others cells → rows ≡ others
