-- A reading depends on the cells that it looks at alone: definition by definition.
use Rattle.std.proofs.Common.{◌≡◌, ℕ, zero, suc, List, [], ◌∷◌, ◌++◌, map, refl, sym, ap, ◌∙◌, subst, Bool, true, false, cond}
use Rattle.std.specs.Prelude.{Option, None, Some, codes}
use Rattle.std.specs.List.{flat_map}
use Rattle.std.specs.Option.{option_map_or, option_and_then}
use Rattle.gql_model.specs.declared.type_ref.TypeRef.{TypeRef, map-TypeRef, fold-roll-TypeRef, ind-TypeRef}
use Rattle.gql_model.specs.declared.type_ref.TypeRef.TheOpen.{TypeRef-F}
use Rattle.schema_model.specs.declared.schema.Schema.{Schema}
use Rattle.schema_model.specs.declared.schema.TypeId.{TypeId}
use Rattle.check_model.specs.FieldTypes.{is_typename, parent_below}
use Rattle.cache_model.specs.declared.cell.Cell.{Cell}
use Rattle.cache_model.specs.declared.cell.Cell.TheVariants as cell
use Rattle.cache_model.specs.declared.cell.Link.{Link, out-Link}
use Rattle.cache_model.specs.declared.cell.Link.TheOpen.{Link-F}
use Rattle.cache_model.specs.Maps.{CellMap}
use Rattle.execution_model.specs.Values.{list_value}
use Rattle.execution_model.specs.Collection.{SetId, deepest}
use Rattle.execution_model.specs.Asked.{Execution, Asked, asked_by_client, root_type}
use Rattle.answer_model.specs.Keys.{field_key}
use Rattle.answer_model.specs.Types.{ObjectType, with_name}
use Rattle.answer_model.specs.declared.cache_reading.Reading.TheVariants.{Miss}
use Rattle.answer_model.specs.Reading as reading
use Rattle.answer_model.specs.Reading.{Found, FieldsFound, Linked, Position, Visits, or_null, together, type_in_cell, entity_found, item_found, link_step, link_found, composite_found, cell_found, field_found, position_found, position_of, member_found, of_positions, found_by, positions_within, read_positions, read_root, read_from}
use Rattle.partial_reader.specs.Walks.{linked}
use Rattle.partial_reader.specs.Laws.{AgreeOn, ReadsLocally}
use Rattle.partial_reader.proofs.FoundLaws.{or_null_visited, required_is}

-- where both maps have the cells that the first looks at, both find the same
abbrev Same : CellMap → CellMap → Found → Found → Type 0
Same cells other found again = AgreeOn cells other found.visited → again ≡ found

abbrev SameFields : CellMap → CellMap → FieldsFound → FieldsFound → Type 0
SameFields cells other follow again = (sets : List ℕ) (type : ObjectType) (entity : List ℕ) → Same cells other (follow sets type entity) (again sets type entity)

abbrev SameEntities : CellMap → CellMap → (List ℕ → Found) → (List ℕ → Found) → Type 0
SameEntities cells other entity again = (key : List ℕ) → Same cells other (entity key) (again key)

agree_first : (cells other : CellMap) (xs ys : Visits) → AgreeOn cells other (xs ++ ys) → AgreeOn cells other xs
agree_first cells other [] ys agree = tt
agree_first cells other (x ∷ xs) ys agree = (agree.0, agree_first cells other xs ys agree.1)

agree_second : (cells other : CellMap) (xs ys : Visits) → AgreeOn cells other (xs ++ ys) → AgreeOn cells other ys
agree_second cells other [] ys agree = agree
agree_second cells other (x ∷ xs) ys agree = agree_second cells other xs ys agree.1

-- ---- several positions

same_all : {X : Type 0} (cells other : CellMap) (f g : X → Found) → ((x : X) → Same cells other (f x) (g x)) → (xs : List X)
    → AgreeOn cells other (flat_map (λ y. y.visited) (map f xs)) → map g xs ≡ map f xs
same_all cells other f g same [] agree = refl
same_all cells other f g same (x ∷ xs) agree =
    let rest = flat_map (λ y. y.visited) (map f xs) in
    ap (λ y. y ∷ map g xs) (same x (agree_first cells other (f x).visited rest agree))
    ∙ ap (λ ys. f x ∷ ys) (same_all cells other f g same xs (agree_second cells other (f x).visited rest agree))

-- ---- objects

typed_case : (cells other : CellMap) (follow again : FieldsFound) → SameFields cells other follow again → (sets : SetId) (entity : List ℕ) (type : Option ObjectType)
    → Same cells other (option_map_or (λ t. follow sets t entity) type reading.absent) (option_map_or (λ t. again sets t entity) type reading.absent)
typed_case cells other follow again same sets entity None agree = refl
typed_case cells other follow again same sets entity (Some type) agree = same sets type entity agree

same_entity : (cells other : CellMap) (follow again : FieldsFound) → SameFields cells other follow again → (schema : Schema) (sets : SetId) (parent : TypeId)
    → SameEntities cells other (entity_found follow schema cells sets parent) (entity_found again schema other sets parent)
same_entity cells other follow again same schema sets parent entity agree =
    ap (λ at. reading.looked entity (codes "__typename") (option_map_or (λ t. again sets t entity) (type_in_cell schema parent at) reading.absent)) agree.0
    ∙ ap (reading.looked entity (codes "__typename"))
    (typed_case cells other follow again same sets entity (type_in_cell schema parent (cells entity (codes "__typename"))) agree.1)

-- ---- links

named_case : (cells other : CellMap) (entity again : List ℕ → Found) → SameEntities cells other entity again → (link : Link-F Link)
    → Same cells other (reading.named_found entity link) (reading.named_found again link)
named_case cells other entity again same Link-F.Null agree = refl
named_case cells other entity again same (Link-F.Entity key) agree = same key agree
named_case cells other entity again same (Link-F.List links) agree = refl

-- by links at a type both find the same
abbrev SameAt : CellMap → CellMap → (List ℕ → Found) → (List ℕ → Found) → TypeRef → Type 0
SameAt cells other entity again type = (link : Link) → Same cells other ((linked entity type).1 link) ((linked again type).1 link)

same_item : (cells other : CellMap) (entity again : List ℕ → Found) (type : TypeRef) → SameAt cells other entity again type
    → (link : Link) → Same cells other (item_found (linked entity type) link) (item_found (linked again type) link)
same_item cells other entity again type same link agree =
    ap (λ r. or_null r ((linked again type).1 link)) (required_is again type ∙ sym (required_is entity type))
    ∙ ap (or_null (linked entity type).0) (same link (subst (AgreeOn cells other) (or_null_visited (linked entity type).0 ((linked entity type).1 link)) agree))

list_case : (cells other : CellMap) (entity again : List ℕ → Found) (type : TypeRef) → SameAt cells other entity again type → (link : Link-F Link)
    → Same cells other (reading.list_found (linked entity type) link) (reading.list_found (linked again type) link)
list_case cells other entity again type same Link-F.Null agree = refl
list_case cells other entity again type same (Link-F.Entity key) agree = refl
list_case cells other entity again type same (Link-F.List links) agree =
    ap (together list_value) (same_all cells other (item_found (linked entity type)) (item_found (linked again type)) (same_item cells other entity again type same) links agree)

-- a type inside, with the claim
abbrev Inner : CellMap → CellMap → (List ℕ → Found) → (List ℕ → Found) → Type 0
Inner cells other entity again = (type : TypeRef) × SameAt cells other entity again type

abbrev SameOpen : CellMap → CellMap → (List ℕ → Found) → (List ℕ → Found) → TypeRef-F TypeRef → Type 0
SameOpen cells other entity again level = (link : Link)
    → Same cells other ((link_step entity (map-TypeRef TypeRef Linked (linked entity) level)).1 link) ((link_step again (map-TypeRef TypeRef Linked (linked again) level)).1 link)

layer : (cells other : CellMap) (entity again : List ℕ → Found) → SameEntities cells other entity again → (level : TypeRef-F (Inner cells other entity again))
    → SameOpen cells other entity again (map-TypeRef (Inner cells other entity again) TypeRef (λ i. i.0) level)
layer cells other entity again same (TypeRef-F.Named name required) link agree = named_case cells other entity again same (out-Link link) agree
layer cells other entity again same (TypeRef-F.List inner required) link agree = list_case cells other entity again inner.0 inner.1 (out-Link link) agree

same_link : (cells other : CellMap) (entity again : List ℕ → Found) → SameEntities cells other entity again → (type : TypeRef) → SameAt cells other entity again type
same_link cells other entity again same = ind-TypeRef (SameAt cells other entity again) (λ x y is link agree.
    let here : SameOpen cells other entity again x = subst (SameOpen cells other entity again) is (layer cells other entity again same y) in
    let first = fold-roll-TypeRef Linked (link_step entity) x in
    let second = fold-roll-TypeRef Linked (link_step again) x in
    ap (λ (l : Linked). l.1 link) second
    ∙ here link (subst (λ (l : Linked). AgreeOn cells other (l.1 link).visited) first agree)
    ∙ sym (ap (λ (l : Linked). l.1 link) first))

-- ---- fields

shaped_case : (cells other : CellMap) (found again : Found) (b : Bool) → Same cells other found again → Same cells other (cond b found reading.absent) (cond b again reading.absent)
shaped_case cells other found again true same agree = same agree
shaped_case cells other found again false same agree = refl

same_composite : (cells other : CellMap) (entity again : List ℕ → Found) → SameEntities cells other entity again → (type : TypeRef) (at : Option Cell)
    → Same cells other (composite_found entity type at) (composite_found again type at)
same_composite cells other entity again same type None agree = refl
same_composite cells other entity again same type (Some (cell.Leaf value)) agree = refl
same_composite cells other entity again same type (Some (cell.Link link)) agree =
    shaped_case cells other (link_found entity type link) (link_found again type link) (reading.has_shape type link) (same_link cells other entity again same type link) agree

below_case : (cells other : CellMap) (follow again : FieldsFound) → SameFields cells other follow again → (schema : Schema) (asked : Asked) (type : TypeRef) (at : Option Cell) (parent : Option TypeId)
    → Same cells other
    (option_map_or (λ p. composite_found (entity_found follow schema cells asked.sets p) type at) parent (reading.leaf_found schema type at))
    (option_map_or (λ p. composite_found (entity_found again schema other asked.sets p) type at) parent (reading.leaf_found schema type at))
below_case cells other follow again same schema asked type at None agree = refl
below_case cells other follow again same schema asked type at (Some parent) agree =
    same_composite cells other (entity_found follow schema cells asked.sets parent) (entity_found again schema other asked.sets parent)
    (same_entity cells other follow again same schema asked.sets parent) type at agree

type_case : (cells other : CellMap) (follow again : FieldsFound) → SameFields cells other follow again → (schema : Schema) (asked : Asked) (at : Option Cell) (type : Option TypeRef)
    → Same cells other
    (option_map_or (λ t. cell_found follow schema cells asked t at) type reading.absent)
    (option_map_or (λ t. cell_found again schema other asked t at) type reading.absent)
type_case cells other follow again same schema asked at None agree = refl
type_case cells other follow again same schema asked at (Some type) agree = below_case cells other follow again same schema asked type at (parent_below schema type) agree

same_field : (cells other : CellMap) (follow again : FieldsFound) → SameFields cells other follow again → (schema : Schema) (entity : List ℕ) (asked : Asked)
    → Same cells other (field_found follow schema cells entity asked) (field_found again schema other entity asked)
same_field cells other follow again same schema entity asked agree =
    ap (λ at. reading.looked entity (field_key asked) (option_map_or (λ t. cell_found again schema other asked t at) asked.type reading.absent)) agree.0
    ∙ ap (reading.looked entity (field_key asked)) (type_case cells other follow again same schema asked (cells entity (field_key asked)) asked.type agree.1)

typename_case : (cells other : CellMap) (itself found again : Found) (b : Bool) → Same cells other found again → Same cells other (cond b itself found) (cond b itself again)
typename_case cells other itself found again true same agree = refl
typename_case cells other itself found again false same agree = same agree

same_position : (cells other : CellMap) (follow again : FieldsFound) → SameFields cells other follow again → (schema : Schema) (type : ObjectType) (entity : List ℕ) (asked : Asked)
    → Same cells other (position_found follow schema cells type entity asked) (position_found again schema other type entity asked)
same_position cells other follow again same schema type entity asked agree =
    typename_case cells other _ (field_found follow schema cells entity asked) (field_found again schema other entity asked) (is_typename asked.name)
    (same_field cells other follow again same schema entity asked) agree

-- ---- objects of all their fields

same_positions : (cells other : CellMap) (follow again : FieldsFound) → SameFields cells other follow again → (schema : Schema) (type : ObjectType) (entity : List ℕ) (fields : List Asked)
    → AgreeOn cells other (flat_map (λ y. y.visited) (map member_found (map (position_of follow schema cells type entity) fields)))
    → map (position_of again schema other type entity) fields ≡ map (position_of follow schema cells type entity) fields
same_positions cells other follow again same schema type entity [] agree = refl
same_positions cells other follow again same schema type entity (f ∷ fs) agree =
    let found = position_found follow schema cells type entity f in
    let rest = flat_map (λ y. y.visited) (map member_found (map (position_of follow schema cells type entity) fs)) in
    let own = agree_first cells other (member_found (f, found)).visited rest agree in
    ap (λ y. (f, y) ∷ map (position_of again schema other type entity) fs)
    (same_position cells other follow again same schema type entity f (subst (AgreeOn cells other) (or_null_visited (reading.is_required f) found) own))
    ∙ ap (λ ys. (f, found) ∷ ys)
    (same_positions cells other follow again same schema type entity fs (agree_second cells other (member_found (f, found)).visited rest agree))

same_within : (n : ℕ) (execution : Execution) (cells other : CellMap) (sets : SetId) (type : ObjectType) (entity : List ℕ)
    → AgreeOn cells other (of_positions (positions_within n execution cells sets type entity)).visited
    → positions_within n execution other sets type entity ≡ positions_within n execution cells sets type entity
same_within zero execution cells other sets type entity agree = refl
same_within (suc n) execution cells other sets type entity agree =
    same_positions cells other (found_by (positions_within n execution cells)) (found_by (positions_within n execution other))
    (λ ss t e a. ap of_positions (same_within n execution cells other ss t e a))
    execution.schema type entity (asked_by_client execution type.0 sets) agree

-- ---- the whole reading

root_case : (execution : Execution) (cells other : CellMap) (type : Option ObjectType)
    → AgreeOn cells other (option_map_or (read_root execution cells) type (Miss, [])).1
    → option_map_or (read_root execution other) type (Miss, []) ≡ option_map_or (read_root execution cells) type (Miss, [])
root_case execution cells other None agree = refl
root_case execution cells other (Some type) agree = ap read_positions (same_within deepest execution cells other _ type _ agree)

pub reads_locally : ReadsLocally
reads_locally execution cells other agree = root_case execution cells other (option_and_then (with_name execution.schema) (root_type execution)) agree
