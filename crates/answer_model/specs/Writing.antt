-- The writes of an answer (GraphQL October 2021, 6.4 and 7.1, after urql's Graphcache), or the first place
-- where it doesn't fit what was asked, depth first.
use Rattle.std.specs.Prelude.{ℕ, zero, suc, Bool, true, false, List, [], ◌∷◌, ◌++◌, map, Option, None, cond, codes, bytes_eq, unwrap_or}
use Rattle.std.specs.List.{enumerate_from, filter_map, flat_map}
use Rattle.std.specs.Option.{option_map, option_map_or, option_and_then}
use Rattle.std.specs.Result.{result_map_both}
use Rattle.std.specs.declared.result.Result.{Result}
use Rattle.std.specs.declared.result.Result.TheVariants.{Ok, Err}
use Rattle.gql_model.specs.Documents.{is_none_of}
use Rattle.gql_model.specs.declared.executable.OperationKind.{OperationKind}
use Rattle.gql_model.specs.declared.executable.OperationKind.TheVariants as kind
use Rattle.gql_model.specs.declared.type_ref.TypeRef.{TypeRef, fold-TypeRef}
use Rattle.gql_model.specs.declared.type_ref.TypeRef.TheOpen.{TypeRef-F}
use Rattle.gql_value.specs.declared.value.Value.{Value, out-Value}
use Rattle.gql_value.specs.declared.value.Value.TheOpen.{Value-F}
use Rattle.schema_model.specs.declared.schema.Schema.{Schema}
use Rattle.schema_model.specs.declared.schema.TypeId.{TypeId}
use Rattle.schema_model.specs.Tables.{entry}
use Rattle.schema_rules.specs.TypeRefs.{is_non_null}
use Rattle.check_model.specs.FieldTypes.{is_typename, parent_below}
use Rattle.cache_model.specs.declared.cell.Cell.{Cell}
use Rattle.cache_model.specs.declared.cell.Cell.TheVariants as cell
use Rattle.cache_model.specs.declared.cell.Link.{Link}
use Rattle.cache_model.specs.declared.cell.Link.TheVariants as link
use Rattle.cache_model.specs.declared.write.Write.{Write}
use Rattle.cache_model.specs.declared.write.Write.TheVariants as write
use Rattle.cache_model.specs.Keys.{embedded_text, root_text}
use Rattle.entity_keys.specs.Objects.{object_key}
use Rattle.execution_model.specs.Values.{Pairs, null_value, text_value}
use Rattle.execution_model.specs.Collection.{SetId, deepest}
use Rattle.execution_model.specs.Asked.{Execution, Asked, asked_as_sent, chosen_kind, root_type, root_sets}
use Rattle.answer_model.specs.declared.step.Step.TheVariants.{Key}
use Rattle.answer_model.specs.Paths.{Path, at_places, each, is_above_error, error_paths}
use Rattle.answer_model.specs.Keys.{field_key}
use Rattle.answer_model.specs.Fits.{fitted}
use Rattle.answer_model.specs.Types.{ObjectType, text_of, type_of_members, with_name}

-- an operation that was answered: what was executed, the key fields that are set for types, and the paths of the errors
pub record Answered : Type 0 where
  pub execution : Execution
  pub keys : List (List ℕ × Option (List ℕ))
  pub errors : List (List Value)

-- writes in order, or the first place that doesn't fit
abbrev pub Writes : Type 0
Writes = Result (List Write) Path

-- an object of the answer: its type, its key, its members, the place where it is, and whether its fields have cells of their own
pub record Object : Type 0 where
  pub type : ObjectType
  pub entity : List ℕ
  pub members : Pairs
  pub path : Path
  pub keeps : Bool

-- what the fields of an object write
abbrev pub FieldsWrites : Type 0
FieldsWrites = SetId → Object → Writes

-- the writes of all of these, one behind another
abbrev pub written_of_each : {X : Type 0} → (X → Writes) → List X → Writes
written_of_each writes xs = result_map_both (flat_map (λ ws. ws)) (λ path. path) (each writes xs)

-- the place of a field of an object
abbrev pub path_of : Object → Asked → Path
path_of object asked = object.path ++ Key asked.key ∷ []

-- a write to the field's own cell, which the root of a mutation or a subscription doesn't have
abbrev pub own_write : Object → Write → List Write
own_write object write = cond object.keeps (write ∷ []) []

-- sets the field's own cell to this value or link
abbrev pub set_cell : Object → Asked → Cell → List Write
set_cell object asked value = own_write object (write.Set object.entity (field_key asked) value)

-- empties the field's own cell, whatever was written there before
abbrev pub drop_cell : Object → Asked → List Write
drop_cell object asked = own_write object (write.Drop object.entity (field_key asked))

-- ---- nulls, leaves and `__typename`

-- a null that an error explains isn't kept, another one is
abbrev pub null_write : Answered → Object → Asked → List Write
null_write answered object asked = cond (is_above_error answered.errors (path_of object asked)) (drop_cell object asked) (set_cell object asked (cell.Leaf null_value))

-- a null stands at a nullable type alone
abbrev pub null_written : Answered → Object → Asked → TypeRef → Writes
null_written answered object asked type = cond (is_non_null type) (Err (path_of object asked)) (Ok (null_write answered object asked))

-- a leaf: its cell is set to what the value becomes at the type, or the place of the value or of the item in it that doesn't fit
abbrev pub leaf_written : Schema → Object → Asked → TypeRef → Value → Writes
leaf_written schema object asked type value =
    result_map_both (λ v. set_cell object asked (cell.Leaf v)) (at_places (path_of object asked)) (fitted schema type value)

-- whether a value is this text
abbrev pub is_text : List ℕ → Value → Bool
is_text text value = option_map_or (bytes_eq text) (text_of value) false

-- a `__typename` is the name of the object's type, and gives no write of its own
abbrev pub typename_written : Object → Asked → Value → Writes
typename_written object asked value = cond (is_text object.type.1 value) (Ok []) (Err (path_of object asked))

-- ---- objects

-- where objects are: at a field of this composite type, of an object
pub record Field : Type 0 where
  pub object : Object
  pub asked : Asked
  pub parent : TypeId

-- what a value leads to, and what the objects in it write
pub record Linked : Type 0 where
  pub link : Link
  pub writes : List Write

-- at the place in a field's lists that these indexes lead to
abbrev pub Linking : Type 0
Linking = List ℕ → Value → Result Linked Path

-- the member of a field that was asked without arguments, under its name
abbrev pub plain_member : Pairs → Asked → Option (List ℕ × Value)
plain_member members asked = cond (is_none_of asked.arguments) (option_map (λ value. (asked.name, value)) (entry members asked.key)) None

-- the members of the fields without arguments, under their names
abbrev pub plain_members : Answered → ObjectType → SetId → Pairs → Pairs
plain_members answered type sets members = filter_map (plain_member members) (asked_as_sent answered.execution type.0 sets)

-- the key of an object: by its id, or else by the way that leads to it
abbrev pub entity_of : Answered → Field → ObjectType → List ℕ → Pairs → List ℕ
entity_of answered field type places members =
    unwrap_or (object_key answered.keys type.1 (plain_members answered type field.asked.sets members))
    (embedded_text field.object.entity (field_key field.asked) places type.1)

-- the object at these indexes of a field's lists; its fields have cells of their own
abbrev pub object_of : Answered → Field → ObjectType → List ℕ → Pairs → Object
object_of answered field type places members = record {
  type = type;
  entity = entity_of answered field type places members;
  members = members;
  path = at_places (path_of field.object field.asked) places;
  keeps = true;
}

-- an object sets its `__typename` before its fields
abbrev pub typename_write : Object → Write
typename_write object = write.Set object.entity (codes "__typename") (cell.Leaf (text_value object.type.1))

-- a link to an object, with the writes of its `__typename` and then of its fields, or the first place in it that doesn't fit
abbrev pub object_linked : FieldsWrites → SetId → Object → Result Linked Path
object_linked follow sets object =
    result_map_both (λ writes. record { link = link.Entity object.entity; writes = typename_write object ∷ writes }) (λ path. path) (follow sets object)

-- the place of an object's `__typename`
abbrev pub typename_path : Field → List ℕ → Path
typename_path field places = at_places (path_of field.object field.asked) places ++ Key (codes "__typename") ∷ []

-- an object has a `__typename` that names an object type possible at its field; that is tested first
abbrev pub members_linked : FieldsWrites → Answered → Field → List ℕ → Pairs → Result Linked Path
members_linked follow answered field places members =
    option_map_or (λ type. object_linked follow field.asked.sets (object_of answered field type places members))
    (type_of_members answered.execution.schema field.parent members) (Err (typename_path field places))

-- a null inside a list is kept as it is, at a nullable type
abbrev pub null_linked : Field → List ℕ → Bool → Result Linked Path
null_linked field places required =
    cond required (Err (at_places (path_of field.object field.asked) places)) (Ok (record { link = link.Null; writes = [] }))

-- at a named type null leads to a null link where it may stand, an object to a link to it, and any other value doesn't fit
abbrev pub named_linked : FieldsWrites → Answered → Field → List ℕ → Bool → Value-F Value → Result Linked Path
named_linked follow answered field places required Value-F.Null = null_linked field places required
named_linked follow answered field places required (Value-F.Obj members) = members_linked follow answered field places members
named_linked follow answered field places required _ = Err (at_places (path_of field.object field.asked) places)

-- an item of a list, where its own index is put behind those that lead to the list
abbrev pub item_linked : Linking → List ℕ → ℕ × Value → Result Linked Path
item_linked item places value = item (places ++ value.0 ∷ []) value.1

-- links in a list, and the writes of all their objects
abbrev pub in_list : List Linked → Linked
in_list items = record { link = link.List (map (λ l. l.link) items); writes = flat_map (λ l. l.writes) items }

-- at a list type null leads to a null link where it may stand, a list to the links of its items, and any other value doesn't fit
abbrev pub list_linked : Linking → Field → List ℕ → Bool → Value-F Value → Result Linked Path
list_linked item field places required Value-F.Null = null_linked field places required
list_linked item field places required (Value-F.List values) = result_map_both in_list (λ path. path) (each (item_linked item places) (enumerate_from 0 values))
list_linked item field places required _ = Err (at_places (path_of field.object field.asked) places)

-- one level of a composite field's type: the named type, or a list type, where it is known what its items lead to
abbrev pub link_step : FieldsWrites → Answered → Field → TypeRef-F Linking → Linking
link_step follow answered field (TypeRef-F.Named name required) places value = named_linked follow answered field places required (out-Value value)
link_step follow answered field (TypeRef-F.List item required) places value = list_linked item field places required (out-Value value)

-- what a value at a composite type leads to, list by list
abbrev pub linked : FieldsWrites → Answered → Field → TypeRef → Linking
linked follow answered field = fold-TypeRef Linking (link_step follow answered field)

-- a link is set before the writes of its objects
abbrev pub link_written : Object → Asked → Result Linked Path → Writes
link_written object asked result = result_map_both (λ l. set_cell object asked (cell.Link l.link) ++ l.writes) (λ path. path) result

-- ---- fields

-- a value that isn't null, at a field of the composite type `parent` in its wrappers: it writes a link, and then the objects in it
abbrev pub composite_written : FieldsWrites → Answered → Object → Asked → TypeRef → Value → TypeId → Writes
composite_written follow answered object asked type value parent =
    link_written object asked (linked follow answered (record { object = object; asked = asked; parent = parent }) type [] value)

-- a value that isn't null, at a type: a link and its objects where the type is composite, and a leaf otherwise
abbrev pub filled_written : FieldsWrites → Answered → Object → Asked → TypeRef → Value → Writes
filled_written follow answered object asked type value =
    option_map_or (composite_written follow answered object asked type value) (parent_below answered.execution.schema type)
    (leaf_written answered.execution.schema object asked type value)

-- a value at a type: null by whether it may stand there and an error explains it, any other value by what it holds
abbrev pub typed_written : FieldsWrites → Answered → Object → Asked → TypeRef → Value → Value-F Value → Writes
typed_written follow answered object asked type value Value-F.Null = null_written answered object asked type
typed_written follow answered object asked type value _ = filled_written follow answered object asked type value

-- a field that the object's type doesn't define fits nothing; no such field is asked of a checked operation
abbrev pub value_written : FieldsWrites → Answered → Object → Asked → Value → Writes
value_written follow answered object asked value =
    option_map_or (λ type. typed_written follow answered object asked type value (out-Value value)) asked.type (Err (path_of object asked))

-- the member of a field that is asked: for `__typename` the name of the object's type, for others a value at the field's type
abbrev pub member_written : FieldsWrites → Answered → Object → Asked → Value → Writes
member_written follow answered object asked value =
    cond (is_typename asked.name) (typename_written object asked value) (value_written follow answered object asked value)

-- a field that is asked must be a member; others aren't read
abbrev pub field_written : FieldsWrites → Answered → Object → Asked → Writes
field_written follow answered object asked =
    option_map_or (member_written follow answered object asked) (entry object.members asked.key) (Err (path_of object asked))

-- what the fields of an object write, objects so deep, and none below
abbrev pub fields_written_within : ℕ → Answered → FieldsWrites
fields_written_within zero answered sets object = Ok []
fields_written_within (suc n) answered sets object =
    written_of_each (field_written (fields_written_within n answered) answered object) (asked_as_sent answered.execution object.type.0 sets)

-- ---- the whole answer

-- whether the root fields of an operation have cells of their own
abbrev pub keeps_root : OperationKind → Bool
keeps_root kind.Query = true
keeps_root kind.Mutation = false
keeps_root kind.Subscription = false

-- the root of an answer: its key is the name of its type, and its fields have cells of their own in a query alone
abbrev pub root_object : Execution → ObjectType → Pairs → Object
root_object execution type members = record {
  type = type;
  entity = root_text type.1;
  members = members;
  path = [];
  keeps = option_map_or keeps_root (chosen_kind execution) false;
}

-- objects nest as deep as the sets that ask for them
abbrev pub root_written : Answered → Pairs → ObjectType → Writes
root_written answered members type = fields_written_within deepest answered (root_sets answered.execution) (root_object answered.execution type members)

-- the writes of the members of `data`; where the schema has no root type for the operation, `data` itself doesn't fit
abbrev pub root_members_written : Answered → Pairs → Writes
root_members_written answered members =
    option_map_or (root_written answered members) (option_and_then (with_name answered.execution.schema) (root_type answered.execution)) (Err [])

-- the writes of `data`: null has none, an object those of its members, and anything else doesn't fit
abbrev pub data_written : Answered → Value-F Value → Writes
data_written answered Value-F.Null = Ok []
data_written answered (Value-F.Obj members) = root_members_written answered members
data_written answered _ = Err []

-- the writes of an answer with these errors, or the first place that doesn't fit; a null answer writes nothing
abbrev pub written : Execution → List (List ℕ × Option (List ℕ)) → Value → Value → Writes
written execution keys answer errors = data_written (record { execution = execution; keys = keys; errors = error_paths (out-Value errors) }) (out-Value answer)
