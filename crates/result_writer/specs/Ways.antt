-- The ways through the lists of a field to its objects, found before these objects are written.
use Rattle.std.specs.Prelude.{ℕ, zero, suc, ◌+◌, Bool, List, [], ◌∷◌, ◌++◌, cond}
use Rattle.std.specs.Option.{option_map_or}
use Rattle.std.specs.Result.{result_map_both}
use Rattle.std.specs.declared.result.Result.{Result}
use Rattle.std.specs.declared.result.Result.TheVariants.{Ok, Err}
use Rattle.gql_model.specs.declared.type_ref.TypeRef.{TypeRef, fold-TypeRef}
use Rattle.gql_model.specs.declared.type_ref.TypeRef.TheOpen.{TypeRef-F}
use Rattle.gql_value.specs.declared.value.Value.{Value, out-Value}
use Rattle.gql_value.specs.declared.value.Value.TheOpen.{Value-F}
use Rattle.cache_model.specs.declared.cell.Link.{Link}
use Rattle.cache_model.specs.declared.cell.Link.TheVariants as link
use Rattle.cache_model.specs.declared.cell.Cell.TheVariants as cell
use Rattle.cache_model.specs.declared.write.Write.{Write}
use Rattle.execution_model.specs.Values.{Pairs}
use Rattle.execution_model.specs.Asked.{Asked, asked_as_sent}
use Rattle.answer_model.specs.Paths.{Path, at_places, path_text}
use Rattle.answer_model.specs.Types.{ObjectType, type_of_members}
use Rattle.answer_model.specs.Writing as spec
use Rattle.result_writer.specs.Results.{told}

-- an object that was found, and what is asked of it
pub record Found : Type 0 where
  pub object : spec.Object
  pub asked : List Asked

-- where a way leads, or the first place on it that doesn't fit, as it is told; and the objects that were found so far
pub record Way : Type 0 where
  pub link : Result Link (List ℕ)
  pub found : List Found

-- on from these indexes by a value, where these objects were found before
abbrev pub Going : Type 0
Going = List ℕ → Value → List Found → Way

-- ---- single values

-- the place of a field's value
abbrev pub place_of : spec.Field → List ℕ → Path
place_of field places = at_places (spec.path_of field.object field.asked) places

-- a way that ends at a place that doesn't fit, with the objects that were found before
abbrev pub misfit_way : Path → List Found → Way
misfit_way path found = record { link = Err (path_text path); found = found }

-- a null in a field's lists: a null link, or no fit where the type is Non-Null (`required`)
abbrev pub null_way : spec.Field → List ℕ → Bool → List Found → Way
null_way field places required found = record { link = cond required (Err (path_text (place_of field places))) (Ok link.Null); found = found }

-- the object of this type at these indexes of a field's lists, with what the operation as it is sent asks of it
abbrev pub found_at : spec.Answered → spec.Field → List ℕ → Pairs → ObjectType → Found
found_at answered field places members type = record {
  object = spec.object_of answered field type places members;
  asked = asked_as_sent answered.execution type.0 field.asked.sets;
}

-- a way that leads to an object of this type: a link to its key, and the object behind those that were found before
abbrev pub object_way : spec.Answered → spec.Field → List ℕ → Pairs → List Found → ObjectType → Way
object_way answered field places members found type = record {
  link = Ok (link.Entity (spec.entity_of answered field type places members));
  found = found ++ found_at answered field places members type ∷ [];
}

-- an object of the type that its `__typename` names; without the name of a type possible at the field the `__typename` doesn't fit
abbrev pub members_way : spec.Answered → spec.Field → List ℕ → Pairs → List Found → Way
members_way answered field places members found =
    option_map_or (object_way answered field places members found) (type_of_members answered.execution.schema field.parent members)
    (misfit_way (spec.typename_path field places) found)

-- at a named type null leads to a null link where it may stand, an object to a link to it, and any other value doesn't fit
abbrev pub named_way : spec.Answered → spec.Field → Bool → List ℕ → Value-F Value → List Found → Way
named_way answered field required places Value-F.Null found = null_way field places required found
named_way answered field required places (Value-F.Obj members) found = members_way answered field places members found
named_way answered field required places _ found = misfit_way (place_of field places) found

-- ---- lists

-- on behind an item, unless it doesn't fit
abbrev pub behind_item : (List Link → List Found → Way) → List Link → List Found → Result Link (List ℕ) → Way
behind_item more links found (Ok link) = more (links ++ link ∷ []) found
behind_item more links found (Err path) = record { link = Err path; found = found }

-- the items from an index on, where these links lead to the ones before
abbrev pub items_way : Going → List ℕ → ℕ → List Value → List Link → List Found → Way
items_way item places at [] links found = record { link = Ok (link.List links); found = found }
items_way item places at (value ∷ values) links found =
    behind_item (items_way item places (at + 1) values) links (item (places ++ at ∷ []) value found).found (item (places ++ at ∷ []) value found).link

-- at a list type null leads to a null link where it may stand, a list on to its items, and any other value doesn't fit
abbrev pub list_way : Going → spec.Field → Bool → List ℕ → Value-F Value → List Found → Way
list_way item field required places Value-F.Null found = null_way field places required found
list_way item field required places (Value-F.List values) found = items_way item places 0 values [] found
list_way item field required places _ found = misfit_way (place_of field places) found

-- one level of a composite field's type: the named type, or a list type, where it is known how it goes on at an item
abbrev pub way_step : spec.Answered → spec.Field → TypeRef-F Going → Going
way_step answered field (TypeRef-F.Named name required) places value found = named_way answered field required places (out-Value value) found
way_step answered field (TypeRef-F.List item required) places value found = list_way item field required places (out-Value value) found

-- the way by a value at a composite field's type, list by list down to the objects
abbrev pub way : spec.Answered → spec.Field → TypeRef → Going
way answered field = fold-TypeRef Going (way_step answered field)

-- ---- what is written on a way

-- what is asked of an object writes this, objects so deep, and nothing below
abbrev pub asked_written : ℕ → spec.Answered → spec.Object → List Asked → spec.Writes
asked_written zero answered object asked = Ok []
asked_written (suc n) answered object asked = spec.written_of_each (spec.field_written (spec.fields_written_within n answered) answered object) asked

-- an object that was found sets its `__typename` before its fields
abbrev pub found_written : ℕ → spec.Answered → Found → spec.Writes
found_written n answered found =
    result_map_both (λ writes. spec.typename_write found.object ∷ writes) (λ path. path) (asked_written n answered found.object found.asked)

-- where a way leads, with the writes of its objects, unless one of these doesn't fit
abbrev pub with_link : Result Link (List ℕ) → Result (List Write) (List ℕ) → Result spec.Linked (List ℕ)
with_link (Ok link) (Ok writes) = Ok (record { link = link; writes = writes })
with_link (Err path) (Ok writes) = Err path
with_link _ (Err path) = Err path

-- where a way leads, with what `write` gives for its objects; of places that don't fit, one in an object that was found
-- is told before the one at which the way ends
abbrev pub walked : (Found → spec.Writes) → Way → Result spec.Linked (List ℕ)
walked write way = with_link way.link (told (spec.written_of_each write way.found))

-- the writes of a field with such links, behind those before them
abbrev pub linked_behind : List Write → spec.Object → Asked → Result spec.Linked (List ℕ) → Result (List Write) (List ℕ)
linked_behind before object asked linked =
    result_map_both (λ l. before ++ (spec.set_cell object asked (cell.Link l.link) ++ l.writes)) (λ path. path) linked
