-- What a selection reads in a map of cells: a value where each field asked has a fitting cell, and
-- else nothing (after ExecuteSelectionSet of GraphQL October 2021, 6.3, over cells).
use Rattle.std.specs.Prelude.{ℕ, Bool, true, false, if◌then◌else◌, List, [], ◌∷◌, map, Option, Some, None, option_map, option_and_then}
use Rattle.gql_value.specs.declared.value.Value.{Value, fold-Value}
use Rattle.gql_value.specs.declared.value.Value.TheOpen.{Value-F}
use Rattle.gql_value.specs.declared.value.Value.TheViews.{roll-Value}
use Rattle.plain_queries.specs.declared.selection.Selection.{Selection, fold-Selection}
use Rattle.plain_queries.specs.declared.selection.Selection.TheOpen.{Selection-F}
use Rattle.gate_machine.specs.declared.key.EntityKey.{EntityKey}
use Rattle.gate_machine.specs.declared.cell.Cell.{Cell}
use Rattle.gate_machine.specs.declared.cell.Cell.TheVariants.{Leaf, Link}
use Rattle.gate_machine.specs.Cells.{CellMap}
use Rattle.gate_machine.specs.Keys.{query_root}

-- one level of a value is null, whatever is known of the values inside
abbrev pub null_step : Value-F Bool → Bool
null_step Value-F.Null = true
null_step (Value-F.Bool b) = false
null_step (Value-F.Int n) = false
null_step (Value-F.Text s) = false
null_step (Value-F.List vs) = false
null_step (Value-F.Obj ms) = false

-- whether a value is null
abbrev pub is_null : Value → Bool
is_null = fold-Value Bool null_step

-- the null value
abbrev pub null_value : Value
null_value = roll-Value Value-F.Null

-- the object with these members
abbrev pub object_value : List (List ℕ × Value) → Value
object_value members = roll-Value (Value-F.Obj members)

-- the value of a field of an object of the map
abbrev pub Reading : Type 0
Reading = CellMap → EntityKey → List ℕ → Option Value

-- the members of an object, in the order asked, where each field has a value
abbrev pub members_read : CellMap → EntityKey → List (List ℕ × Reading) → Option (List (List ℕ × Value))
members_read cells entity [] = Some []
members_read cells entity (field ∷ fields) =
    option_and_then (λ v. option_map (λ more. (field.0, v) ∷ more) (members_read cells entity fields)) (field.1 cells entity field.0)

-- the value of a cell that is asked for as it is: a link is none
abbrev pub leaf_read : Cell → Option Value
leaf_read (Leaf v) = Some v
leaf_read (Link entity) = None

-- the value of a cell of which fields are asked: a null, or the object behind a link
abbrev pub object_read : CellMap → List (List ℕ × Reading) → Cell → Option Value
object_read cells fields (Leaf v) = if is_null v then Some v else None
object_read cells fields (Link entity) = option_map object_value (members_read cells entity fields)

-- one level of a selection: a field without a set reads a leaf, a field with one reads null or the object behind a link
abbrev pub reading_step : Selection-F Reading → Reading
reading_step Selection-F.Leaf cells entity field = option_and_then leaf_read (cells entity field)
reading_step (Selection-F.Set fields) cells entity field = option_and_then (object_read cells fields) (cells entity field)

-- what a field's selection reads
abbrev pub field_reading : Selection → Reading
field_reading = fold-Selection Reading reading_step

-- the fields of a selection, each with what it reads
abbrev pub readings_of : List (List ℕ × Selection) → List (List ℕ × Reading)
readings_of selection = map (λ field. (field.0, field_reading field.1)) selection

-- the answer to a query, where it is a hit
abbrev pub query_reading : CellMap → List (List ℕ × Selection) → Option Value
query_reading cells selection = option_map object_value (members_read cells query_root (readings_of selection))
