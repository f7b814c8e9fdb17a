-- What a walk over cells has so far, and what one position more adds.
use Rattle.std.specs.Prelude.{◌≡◌, ℕ, ◌+◌, ◌≤◌, length, Bool, true, false, ◌||◌, List, [], ◌∷◌, ◌++◌, Option, Some, None, cond, is_some, ⊤}
use Rattle.std.specs.List.{AllByRecursion}
use Rattle.std.specs.Option.{option_map, option_map_or, option_copied}
use Rattle.text_types.specs.Names.{Lacks}
use Rattle.gql_value.specs.declared.value.Value.{Value}
use Rattle.gql_model.specs.declared.type_ref.TypeRef.{TypeRef, fold-TypeRef}
use Rattle.schema_model.specs.declared.schema.Schema.{Schema}
use Rattle.cache_model.specs.Maps.{CellMap}
use Rattle.execution_model.specs.Values.{Pairs, null_value, object_value}
use Rattle.execution_model.specs.Collection.{deepest}
use Rattle.execution_model.specs.Asked.{Execution, root_sets}
use Rattle.cache_model.specs.Keys.{root_text}
use Rattle.answer_model.specs.Types.{ObjectType}
use Rattle.checked_operation.specs.Acceptance.{IsWhole}
use Rattle.answer_model.specs.declared.cache_reading.Reading.{Reading}
use Rattle.answer_model.specs.declared.cache_reading.Reading.TheVariants.{Hit, Partial, Miss}
use Rattle.answer_model.specs.Reading.{Found, FieldsFound, Linked, Position, found_by, positions_within, has_something, member_found, link_step}
use Rattle.answer_parts.specs.Heights.{height, type_height}
use Rattle.field_asking.specs.declared.asking.Asking.{Asking}
use Rattle.field_asking.specs.declared.field.AskedField.{AskedField}
use Rattle.partial_reader.specs.declared.trail.Trail.{Trail}
use Rattle.partial_reader.specs.declared.object.Object.{Object}

-- where a walk stands once it has found something
abbrev pub after : Trail → Found → Trail
after trail found = record { visited = trail.visited ++ found.visited; partial = trail.partial || found.partial }

-- how many cells were looked at for all of these
abbrev pub looks : List Found → ℕ
looks [] = 0
looks (found ∷ founds) = length found.visited + looks founds

-- where a walk stands once it has found all of these
abbrev pub after_all : Trail → List Found → Trail
after_all trail [] = trail
after_all trail (found ∷ founds) = after_all (after trail found) founds

-- one value more, where each so far is there
abbrev pub with_value : Option (List Value) → Option Value → Option (List Value)
with_value (Some values) (Some value) = Some (values ++ value ∷ [])
with_value _ _ = None

-- the values of all that was found behind those so far, where each of them is there
abbrev pub with_values : Option (List Value) → List Found → Option (List Value)
with_values values [] = values
with_values values (found ∷ founds) = with_values (with_value values found.value) founds

-- one member more, where each so far is there
abbrev pub with_member : Option Pairs → List ℕ → Option Value → Option Pairs
with_member (Some members) key (Some value) = Some (members ++ (key, value) ∷ [])
with_member _ key _ = None

-- none of the members has this name
abbrev pub LacksMember : Option Pairs → List ℕ → Type 0
LacksMember (Some members) key = Lacks members key
LacksMember None key = ⊤

-- what is found of an object, objects so deep
abbrev pub found_within : ℕ → Execution → CellMap → FieldsFound
found_within n execution cells = found_by (positions_within n execution cells)

-- what is at the positions of the root
abbrev pub root_positions : Execution → CellMap → ObjectType → List Position
root_positions execution cells type = positions_within deepest execution cells (root_sets execution) type (root_text type.1)

-- a position of nullable type where nothing is found is null
abbrev pub value_or_null : Bool → Option Value → Option Value
value_or_null required value = cond (is_some value || required) value (Some null_value)

-- and makes the reading partial
abbrev pub trail_or_null : Bool → Option Value → Trail → Trail
trail_or_null required value trail = cond (is_some value || required) trail (record trail { partial = true })

-- one field more
abbrev pub with_position : Object → Position → Object
with_position object position = record {
  members = with_member object.members position.0.key (member_found position).value;
  something = object.something || has_something position;
}

-- one field more for each of these positions, in order
abbrev pub with_positions : Object → List Position → Object
with_positions object [] = object
with_positions object (position ∷ positions) = with_positions (with_position object position) positions

-- the object without fields
abbrev pub no_fields : Object
no_fields = record { members = Some []; something = false }

-- the value of an object, where no field of Non-Null type is absent
abbrev pub object_of : Object → Option Value
object_of object = option_map object_value object.members

-- what is found by a link at a type, and whether the type is Non-Null
abbrev pub linked : (List ℕ → Found) → TypeRef → Linked
linked entity = fold-TypeRef Linked (link_step entity)

-- a miss where there is no value, and where something is absent and nothing else is there
abbrev pub told : Option Value → Bool → Bool → Reading
told value something partial = option_map_or (λ v. cond partial (cond something (Partial v) Miss) (Hit v)) value Miss

-- no field has a higher type than the schema's fields
abbrev pub AreLow : Schema → List AskedField → Type 0
AreLow schema fields = AllByRecursion (λ f. type_height (option_copied f.field_type) ≤ height schema) fields

-- the operation is whole, and asks what the client asks
pub record IsReady (asking : Asking) : Type 0 where
  pub whole : IsWhole asking.operation.now
  pub own : asking.fronts.now ≡ []
