-- The reading of an operation from a map of cells.
use Rattle.std.specs.Prelude.{ℕ, Bool, true, false, not, ◌||◌, if◌then◌else◌, List, [], ◌∷◌, ◌++◌, map, flat_map, codes, Option, Some, None, is_some}
use Rattle.std.specs.List.{list_any}
use Rattle.std.specs.Option.{option_map}
use Rattle.gql_value.specs.declared.value.Value.{Value}
use Rattle.cache_model.specs.declared.cell.Cell.{Cell}
use Rattle.cache_model.specs.declared.cell.Cell.TheVariants as cell
use Rattle.cache_model.specs.declared.cell.Link.{Link, out-Link}
use Rattle.cache_model.specs.declared.cell.Link.TheOpen.{Link-F}
use Rattle.cache_model.specs.Maps.{CellMap}
use Rattle.send_rules.specs.declared.policy.ReadingKind.{ReadingKind}
use Rattle.send_rules.specs.declared.policy.ReadingKind.TheVariants.{Hit, Partial, Miss}
use Rattle.machine_model.specs.Operations.{Reading, Places}
use Rattle.machine_rows.specs.Values.{null, list, object}
use Rattle.machine_rows.specs.Operations.{Operation, Leaf, Asked, asked_by}

-- what is at a position: a value, or nothing where it is absent; whether something in it was absent; and what was looked at
pub record Found : Type 0 where
  pub value : Option Value
  pub partial : Bool
  pub visited : Places

-- a position with this value, for which no cell was looked at
abbrev pub present : Value → Found
present value = record { value = Some value; partial = false; visited = [] }

-- a position without a value, for which no cell was looked at
abbrev pub absent : Found
absent = record { value = None; partial = false; visited = [] }

-- with a look at a cell before
abbrev pub looked : List ℕ → List ℕ → Found → Found
looked entity field found = record found { visited = (entity, field) ∷ found.visited }

-- an absent position of nullable type is null, and makes the reading partial
abbrev pub or_null : Bool → Found → Found
or_null required found =
    if is_some found.value || required then found else record { value = Some null; partial = true; visited = found.visited }

-- a value before the values of further positions; none where one of them is absent
abbrev pub before_all : Option Value → Option (List Value) → Option (List Value)
before_all (Some value) (Some values) = Some (value ∷ values)
before_all _ _ = None

-- the values of several positions, in order; none where one of them is absent
abbrev pub all_present : List Found → Option (List Value)
all_present [] = Some []
all_present (found ∷ more) = before_all found.value (all_present more)

-- several positions as one value: absent where one is, partial where one is, with all that they looked at
abbrev pub together : (List Value → Value) → List Found → Found
together value founds = record {
  value = option_map value (all_present founds);
  partial = list_any (λ found. found.partial) founds;
  visited = flat_map (λ found. found.visited) founds;
}

-- names with values, in order
abbrev pub named : List (List ℕ) → List Value → List (List ℕ × Value)
named (name ∷ names) (value ∷ values) = (name, value) ∷ named names values
named _ _ = []

-- the value in a cell; no cell is absent, and so is one with a link
abbrev pub leaf_in : Option Cell → Found
leaf_in (Some (cell.Leaf value)) = present value
leaf_in _ = absent

-- a leaf of an object, after a look at its cell: one that is absent and nullable is null
abbrev pub leaf_found : CellMap → List ℕ → Leaf → Found
leaf_found cells entity leaf = or_null leaf.required (looked entity leaf.name (leaf_in (cells entity leaf.name)))

-- an object is looked at by its `__typename` first, and without that nothing more of it is looked at
abbrev pub where_typed : Option Cell → Found → Found
where_typed (Some (cell.Leaf value)) found = found
where_typed _ found = absent

-- an object of these fields with what was found at each, after a look at its `__typename`; absent where that or a field is
abbrev pub object_found : CellMap → List ℕ → List (List ℕ) → List Found → Found
object_found cells entity names fields =
    looked entity (codes "__typename")
    (where_typed (cells entity (codes "__typename")) (together (λ values. object (named names values)) fields))

-- an item of a list of links, where `follow` reads an object; null and a list inside a list are absent
abbrev pub item_found : (List ℕ → Found) → Link-F Link → Found
item_found follow (Link-F.Entity entity) = follow entity
item_found follow _ = absent

-- what a link leads to: null, an object that `follow` reads, or a list of such objects
abbrev pub linked : (List ℕ → Found) → Link-F Link → Found
linked follow Link-F.Null = present null
linked follow (Link-F.Entity entity) = follow entity
linked follow (Link-F.List links) = together list (map (λ link. item_found follow (out-Link link)) links)

-- what the cell of a field with fields of its own leads to; a plain value, which is null, stands as it is, and no cell is absent
abbrev pub link_in : (List ℕ → Found) → Option Cell → Found
link_in follow (Some (cell.Link link)) = linked follow (out-Link link)
link_in follow (Some (cell.Leaf value)) = present value
link_in follow None = absent

-- the names of these leaves
abbrev pub leaf_names : List Leaf → List (List ℕ)
leaf_names leaves = map (λ leaf. leaf.name) leaves

-- the object of this key, of which leaves alone are asked
abbrev pub plain_found : CellMap → List Leaf → List ℕ → Found
plain_found cells leaves entity = object_found cells entity (leaf_names leaves) (map (leaf_found cells entity) leaves)

-- an author is nullable
abbrev pub author_found : CellMap → List Leaf → List ℕ → Found
author_found cells leaves entity =
    or_null false (looked entity (codes "author") (link_in (plain_found cells leaves) (cells entity (codes "author"))))

-- the object of this key, of which leaves are asked, and its author behind them where `Some` leaves of that are asked
abbrev pub entity_found : CellMap → List Leaf → Option (List Leaf) → List ℕ → Found
entity_found cells leaves None entity = plain_found cells leaves entity
entity_found cells leaves (Some inner) entity =
    object_found cells entity (leaf_names leaves ++ codes "author" ∷ []) (map (leaf_found cells entity) leaves ++ author_found cells inner entity ∷ [])

-- a root that is absent is a miss, one with something absent in it that may be null is partial, and any other is a hit
abbrev pub kind_found : Found → ReadingKind
kind_found found = if not (is_some found.value) then Miss else (if found.partial then Partial else Hit)

-- the data of a reading: the root field of this name with its value, and null where that is absent
abbrev pub data_found : List ℕ → Option Value → Value
data_found name None = null
data_found name (Some value) = object ((name, value) ∷ [])

-- the reading of a root field of this name at which this was found
abbrev pub reading_found : List ℕ → Found → Reading
reading_found name found = record { kind = kind_found found; value = data_found name found.value; visited = found.visited }

-- the reading of what is asked: from the cell of the root field on, which is looked at first
abbrev pub read_asked : CellMap → Asked → Reading
read_asked cells asked =
    reading_found asked.name
    (looked (codes "Query") asked.field (link_in (entity_found cells asked.leaves asked.author) (cells (codes "Query") asked.field)))

-- what an operation reads over these cells
abbrev pub read_by : Operation → CellMap → Reading
read_by operation cells = read_asked cells (asked_by operation)
