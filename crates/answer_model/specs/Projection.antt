-- An answer cut to the client's own selection (GraphQL October 2021, 6.3): what was asked, in the order of asking, with the values as they came.
use Rattle.std.specs.Prelude.{ℕ, zero, suc, List, [], map, Option}
use Rattle.std.specs.List.{filter_map}
use Rattle.std.specs.Option.{option_map, option_map_or}
use Rattle.gql_model.specs.declared.type_ref.TypeRef.{TypeRef, fold-TypeRef}
use Rattle.gql_model.specs.declared.type_ref.TypeRef.TheOpen.{TypeRef-F}
use Rattle.gql_value.specs.declared.value.Value.{Value, out-Value}
use Rattle.gql_value.specs.declared.value.Value.TheOpen.{Value-F}
use Rattle.schema_model.specs.declared.schema.Schema.{Schema}
use Rattle.schema_model.specs.declared.schema.TypeId.{TypeId}
use Rattle.schema_model.specs.Tables.{entry}
use Rattle.check_model.specs.FieldTypes.{parent_below}
use Rattle.execution_model.specs.Values.{Pairs, list_value, object_value}
use Rattle.execution_model.specs.Collection.{SetId, deepest}
use Rattle.execution_model.specs.Asked.{Execution, Asked, asked_by_client, root_type, root_sets}
use Rattle.answer_model.specs.Types.{type_of_members}

-- the members of an object of a type that sets ask for
abbrev pub Cutting : Type 0
Cutting = SetId → TypeId → Pairs → Pairs

-- an object of the type that its `__typename` tells; an answer that fits tells one
abbrev pub members_cut : Cutting → Schema → SetId → TypeId → Pairs → Value
members_cut cut schema sets parent members =
    object_value (option_map_or (λ type. cut sets type.0 members) (type_of_members schema parent members) [])

-- at a named type an object is cut by `object`, and any other value, such as null, stays as it came
abbrev pub named_cut : (Pairs → Value) → Value → Value-F Value → Value
named_cut object value (Value-F.Obj members) = object members
named_cut object value _ = value

-- at a list type each item of a list is cut by `item`, and any other value, such as null, stays as it came
abbrev pub list_cut : (Value → Value) → Value → Value-F Value → Value
list_cut item value (Value-F.List items) = list_value (map item items)
list_cut item value _ = value

-- one level of a type: a named type, or a list type, where it is known how its items are cut
abbrev pub cut_step : (Pairs → Value) → TypeRef-F (Value → Value) → Value → Value
cut_step object (TypeRef-F.Named name required) value = named_cut object value (out-Value value)
cut_step object (TypeRef-F.List item required) value = list_cut item value (out-Value value)

-- a value at a composite type, list by list
abbrev pub value_cut : (Pairs → Value) → TypeRef → Value → Value
value_cut object = fold-TypeRef (Value → Value) (cut_step object)

-- a value at a type: the objects in it are cut by the field's own sets where the type is composite, and a leaf stays as it came
abbrev pub typed_cut : Cutting → Schema → Asked → Value → TypeRef → Value
typed_cut cut schema asked value type =
    option_map_or (λ parent. value_cut (members_cut cut schema asked.sets parent) type value) (parent_below schema type) value

-- the value of a field, cut by the field's type; `__typename`, for which the object's type defines none, stays as it came
abbrev pub field_cut : Cutting → Schema → Asked → Value → Value
field_cut cut schema asked value = option_map_or (typed_cut cut schema asked value) asked.type value

-- a field's member under its response key, with its value cut, where the object has such a member
abbrev pub member_cut : Cutting → Schema → Pairs → Asked → Option (List ℕ × Value)
member_cut cut schema members asked = option_map (λ value. (asked.key, field_cut cut schema asked value)) (entry members asked.key)

-- objects so deep, and nothing below
abbrev pub cut_within : ℕ → Execution → Cutting
cut_within zero execution sets type members = []
cut_within (suc n) execution sets type members =
    filter_map (member_cut (cut_within n execution) execution.schema members) (asked_by_client execution type sets)

-- `data` at a root of this type: an object is cut to the operation's own set, and anything else, such as null, stays as it came
abbrev pub data_cut : Execution → Value → Value-F Value → TypeId → Value
data_cut execution answer (Value-F.Obj members) type = object_value (cut_within deepest execution (root_sets execution) type members)
data_cut execution answer _ type = answer

-- the answer cut to the client's own selection
abbrev pub projected : Execution → Value → Value
projected execution answer = option_map_or (data_cut execution answer (out-Value answer)) (root_type execution) answer
