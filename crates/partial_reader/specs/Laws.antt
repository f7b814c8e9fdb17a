-- That a reading depends on the cells that it looks at alone.
use Rattle.std.specs.Prelude.{◌≡◌}
use Rattle.std.specs.List.{AllByRecursion}
use Rattle.cache_model.specs.Maps.{CellMap}
use Rattle.execution_model.specs.Asked.{Execution}
use Rattle.answer_model.specs.Reading.{Visits, read_from}

-- two maps have the same cells at these places
abbrev pub AgreeOn : CellMap → CellMap → Visits → Type 0
AgreeOn cells other visits = AllByRecursion (λ v. other v.0 v.1 ≡ cells v.0 v.1) visits

-- two maps that agree on the cells that a reading of one looks at give the same reading, with the same visits
abbrev pub ReadsLocally : Type 0
ReadsLocally = (execution : Execution) (cells other : CellMap) → AgreeOn cells other (read_from execution cells).1 → read_from execution other ≡ read_from execution cells
