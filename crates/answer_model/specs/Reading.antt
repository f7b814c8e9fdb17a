-- The reading of an operation from a map of cells (GraphQL October 2021, 6.4.4, Handling Field Errors;
-- partial results after urql's Graphcache; which readings are a miss is this project's own).
use Rattle.std.specs.Prelude.{ℕ, zero, suc, Bool, true, false, not, ◌&&◌, ◌||◌, List, [], ◌∷◌, map, Option, Some, None, cond, codes, is_some}
use Rattle.std.specs.List.{list_any, list_all, flat_map, zip}
use Rattle.std.specs.Option.{option_map, option_map_or, option_and_then}
use Rattle.std.specs.Result.{result_ok}
use Rattle.gql_model.specs.declared.type_ref.TypeRef.{TypeRef, fold-TypeRef}
use Rattle.gql_model.specs.declared.type_ref.TypeRef.TheOpen.{TypeRef-F}
use Rattle.gql_value.specs.declared.value.Value.{Value, out-Value}
use Rattle.gql_value.specs.declared.value.Value.TheOpen.{Value-F}
use Rattle.schema_model.specs.declared.schema.Schema.{Schema}
use Rattle.schema_model.specs.declared.schema.TypeId.{TypeId}
use Rattle.schema_rules.specs.TypeRefs.{is_non_null}
use Rattle.check_model.specs.FieldTypes.{is_typename, parent_below}
use Rattle.cache_model.specs.declared.cell.Cell.{Cell}
use Rattle.cache_model.specs.declared.cell.Cell.TheVariants as cell
use Rattle.cache_model.specs.declared.cell.Link.{Link, out-Link}
use Rattle.cache_model.specs.declared.cell.Link.TheOpen.{Link-F}
use Rattle.cache_model.specs.Keys.{root_text}
use Rattle.cache_model.specs.Maps.{CellMap}
use Rattle.execution_model.specs.Values.{null_value, text_value, list_value, object_value, all_of}
use Rattle.execution_model.specs.Collection.{SetId, deepest}
use Rattle.execution_model.specs.Asked.{Execution, Asked, asked_by_client, root_type, root_sets}
use Rattle.answer_model.specs.declared.cache_reading.Reading.{Reading}
use Rattle.answer_model.specs.declared.cache_reading.Reading.TheVariants.{Hit, Partial, Miss}
use Rattle.answer_model.specs.Keys.{field_key}
use Rattle.answer_model.specs.Fits.{fitted}
use Rattle.answer_model.specs.Types.{ObjectType, type_told, with_name}

-- the places of the cells that were looked at, in order
abbrev pub Visits : Type 0
Visits = List (List ℕ × List ℕ)

-- what is at a position: a value, or nothing where it is absent; whether something in it was absent; and what was looked at
pub record Found : Type 0 where
  pub value : Option Value
  pub partial : Bool
  pub visited : Visits

-- this value is there, nothing in it is absent, and no cell was looked at
abbrev pub present : Value → Found
present value = record { value = Some value; partial = false; visited = [] }

-- nothing is there, and no cell was looked at
abbrev pub absent : Found
absent = record { value = None; partial = false; visited = [] }

-- a value, or nothing
abbrev pub found_if : Option Value → Found
found_if value = record { value = value; partial = false; visited = [] }

-- with a look at a cell before
abbrev pub looked : List ℕ → List ℕ → Found → Found
looked entity field found = record found { visited = (entity, field) ∷ found.visited }

-- an absent position of nullable type is null, and makes the reading partial
abbrev pub or_null : Bool → Found → Found
or_null required found =
    cond (is_some found.value || required) found (record { value = Some null_value; partial = true; visited = found.visited })

-- several positions together: absent where one of them is, whatever the others
abbrev pub together : (List Value → Value) → List Found → Found
together value founds = record {
  value = option_map value (all_of (map (λ f. f.value) founds));
  partial = list_any (λ f. f.partial) founds;
  visited = flat_map (λ f. f.visited) founds;
}

-- ---- links

-- at a named type a link leads to one object, or is null where the type is nullable
abbrev pub has_named_shape : Bool → Link-F Link → Bool
has_named_shape required Link-F.Null = not required
has_named_shape required (Link-F.Entity entity) = true
has_named_shape required (Link-F.List links) = false

-- at a list type a link is a list whose links all have the item type's shape, or is null where the type is nullable
abbrev pub has_list_shape : (Link → Bool) → Bool → Link-F Link → Bool
has_list_shape has_shape required Link-F.Null = not required
has_list_shape has_shape required (Link-F.Entity entity) = false
has_list_shape has_shape required (Link-F.List links) = list_all has_shape links

-- one level of a type: a named type, or a list type, where it is known which links have the shape of its item type
abbrev pub shape_step : TypeRef-F (Link → Bool) → Link → Bool
shape_step (TypeRef-F.Named name required) link = has_named_shape required (out-Link link)
shape_step (TypeRef-F.List item required) link = has_list_shape item required (out-Link link)

-- whether a link has the shape of a type, with nulls at nullable types alone
abbrev pub has_shape : TypeRef → Link → Bool
has_shape = fold-TypeRef (Link → Bool) shape_step

-- ---- objects

-- what is found of an object of a type, by its key
abbrev pub FieldsFound : Type 0
FieldsFound = SetId → ObjectType → List ℕ → Found

-- an object's type is what the cell of its `__typename` tells
abbrev pub type_in_cell : Schema → TypeId → Option Cell → Option ObjectType
type_in_cell schema parent None = None
type_in_cell schema parent (Some (cell.Leaf value)) = type_told schema parent value
type_in_cell schema parent (Some (cell.Link link)) = None

-- an object below the root is looked at by its `__typename` first; without the name of a possible type it is absent,
-- and nothing more of it is looked at
abbrev pub entity_found : FieldsFound → Schema → CellMap → SetId → TypeId → List ℕ → Found
entity_found follow schema cells sets parent entity =
    looked entity (codes "__typename")
    (option_map_or (λ type. follow sets type entity) (type_in_cell schema parent (cells entity (codes "__typename"))) absent)

-- whether a position is Non-Null, and what is found there by a link
abbrev pub Linked : Type 0
Linked = Bool × (Link → Found)

-- at a named type a null link is null, a link to an object is what `entity` finds by its key, and a list is absent
abbrev pub named_found : (List ℕ → Found) → Link-F Link → Found
named_found entity Link-F.Null = present null_value
named_found entity (Link-F.Entity key) = entity key
named_found entity (Link-F.List links) = absent

-- an item of a list, by its link: one that is absent is null where the item type is nullable, and makes the reading partial
abbrev pub item_found : Linked → Link → Found
item_found item link = or_null item.0 (item.1 link)

-- at a list type a null link is null, a list is all its items together, and a link to an object is absent
abbrev pub list_found : Linked → Link-F Link → Found
list_found item Link-F.Null = present null_value
list_found item (Link-F.Entity key) = absent
list_found item (Link-F.List links) = together list_value (map (item_found item) links)

-- one level of a type: whether it is Non-Null, and what is found there by a link, where `entity` finds objects by their keys
abbrev pub link_step : (List ℕ → Found) → TypeRef-F Linked → Linked
link_step entity (TypeRef-F.Named name required) = (required, λ link. named_found entity (out-Link link))
link_step entity (TypeRef-F.List item required) = (required, λ link. list_found item (out-Link link))

-- what is found by a link at a type, item by item; an absent item is null, or makes its list absent
abbrev pub link_found : (List ℕ → Found) → TypeRef → Link → Found
link_found entity type link = (fold-TypeRef Linked (link_step entity) type).1 link

-- ---- fields

-- a null at a nullable type; nothing for a null at a Non-Null type, and nothing for any other value
abbrev pub null_leaf : TypeRef → Value-F Value → Option Value
null_leaf type Value-F.Null = cond (is_non_null type) None (Some null_value)
null_leaf type _ = None

-- the cell of a field of composite type: a null at a nullable type, or a link of the type's shape; any other counts as none
abbrev pub composite_found : (List ℕ → Found) → TypeRef → Option Cell → Found
composite_found entity type None = absent
composite_found entity type (Some (cell.Leaf value)) = found_if (null_leaf type (out-Value value))
composite_found entity type (Some (cell.Link link)) = cond (has_shape type link) (link_found entity type link) absent

-- the cell of a field of leaf type: a leaf that fits; any other counts as none
abbrev pub leaf_found : Schema → TypeRef → Option Cell → Found
leaf_found schema type None = absent
leaf_found schema type (Some (cell.Leaf value)) = found_if (result_ok (fitted schema type value))
leaf_found schema type (Some (cell.Link link)) = absent

-- a field's cell read by the field's type: as a null or a link where the type is composite, and as a leaf otherwise
abbrev pub cell_found : FieldsFound → Schema → CellMap → Asked → TypeRef → Option Cell → Found
cell_found follow schema cells asked type at =
    option_map_or (λ parent. composite_found (entity_found follow schema cells asked.sets parent) type at) (parent_below schema type) (leaf_found schema type at)

-- a field: its cell is looked at by the field's key and read by the field's type; without a type it is absent
abbrev pub field_found : FieldsFound → Schema → CellMap → List ℕ → Asked → Found
field_found follow schema cells entity asked =
    looked entity (field_key asked)
    (option_map_or (λ type. cell_found follow schema cells asked type (cells entity (field_key asked))) asked.type absent)

-- `__typename` is the type's name, and looks at no cell
abbrev pub position_found : FieldsFound → Schema → CellMap → ObjectType → List ℕ → Asked → Found
position_found follow schema cells type entity asked =
    cond (is_typename asked.name) (present (text_value type.1)) (field_found follow schema cells entity asked)

-- whether a collected field has a type that null doesn't fit; `__typename` is never absent
abbrev pub is_required : Asked → Bool
is_required asked = option_map_or is_non_null asked.type true

-- a collected field, and what is at its position
abbrev pub Position : Type 0
Position = Asked × Found

-- a field that is asked of an object, with what is found at its position
abbrev pub position_of : FieldsFound → Schema → CellMap → ObjectType → List ℕ → Asked → Position
position_of follow schema cells type entity asked = (asked, position_found follow schema cells type entity asked)

-- what a position adds to its object: a field that is absent is null where its type is nullable, and makes the reading partial
abbrev pub member_found : Position → Found
member_found position = or_null (is_required position.0) position.1

-- values under the response keys
abbrev pub under_keys : List Position → List Value → Value
under_keys positions values = object_value (zip (map (λ p. p.0.key) positions) values)

-- an object of all its fields: absent where a field of Non-Null type is
abbrev pub of_positions : List Position → Found
of_positions positions = together (under_keys positions) (map member_found positions)

-- what sets ask of an object of a type, by its key, position by position
abbrev pub PositionsFound : Type 0
PositionsFound = SetId → ObjectType → List ℕ → List Position

-- what is found of an object, where `positions` tells what is at each position that sets ask of it
abbrev pub found_by : PositionsFound → FieldsFound
found_by positions sets type entity = of_positions (positions sets type entity)

-- what the client's own selection asks of an object, objects so deep, and nothing below
abbrev pub positions_within : ℕ → Execution → CellMap → PositionsFound
positions_within zero execution cells sets type entity = []
positions_within (suc n) execution cells sets type entity =
    map (position_of (found_by (positions_within n execution cells)) execution.schema cells type entity) (asked_by_client execution type.0 sets)

-- ---- the whole reading

-- a root field that isn't absent, but for `__typename`
abbrev pub has_something : Position → Bool
has_something position = not (is_typename position.0.name) && is_some position.1.value

-- a value in which something is absent: a partial reading where some root field but `__typename` is there, and else a miss
abbrev pub partial_reading : List Position → Value → Reading
partial_reading positions value = cond (list_any has_something positions) (Partial value) Miss

-- a miss where the root is absent, and where the reading is partial and its root has nothing in it
abbrev pub reading_of : List Position → Found → Reading
reading_of positions found =
    option_map_or (λ value. cond found.partial (partial_reading positions value) (Hit value)) found.value Miss

-- a reading, and the places of the cells that were looked at, in order
abbrev pub ReadAll : Type 0
ReadAll = Reading × Visits

-- the reading that the positions of the root give, and the cells that were looked at for them
abbrev pub read_positions : List Position → ReadAll
read_positions positions = (reading_of positions (of_positions positions), (of_positions positions).visited)

-- the reading of the operation's own set at its root, whose key is the name of the root's type
abbrev pub read_root : Execution → CellMap → ObjectType → ReadAll
read_root execution cells type = read_positions (positions_within deepest execution cells (root_sets execution) type (root_text type.1))

-- the reading of an operation from a map of cells
abbrev pub read_from : Execution → CellMap → ReadAll
read_from execution cells =
    option_map_or (read_root execution cells) (option_and_then (with_name execution.schema) (root_type execution)) (Miss, [])
