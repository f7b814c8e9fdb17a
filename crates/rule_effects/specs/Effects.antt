-- What rules write to the cache (after the updates and optimistic results of urql's Graphcache). No rule reads the cache.
use Rattle.std.specs.Prelude.{ℕ, nat_lt, Bool, false, List, [], ◌∷◌, ◌++◌, map, Option, Some, None, is_some, cond, codes, bytes_eq}
use Rattle.std.specs.List.{find, filter_map, flat_map, list_any}
use Rattle.std.specs.Option.{option_map, option_map_or, option_and_then}
use Rattle.gql_value.specs.declared.value.Value.{Value, out-Value}
use Rattle.schema_model.specs.declared.schema.Schema.{Schema}
use Rattle.schema_model.specs.declared.schema.SchemaField.{SchemaField}
use Rattle.schema_model.specs.declared.schema.InputValue.{InputValue}
use Rattle.schema_model.specs.declared.schema.TypeId.{TypeId}
use Rattle.schema_model.specs.Schemas.{type_at}
use Rattle.schema_model.specs.Tables.{entry}
use Rattle.check_model.specs.FieldTypes.{parent_below}
use Rattle.cache_model.specs.declared.cell.Cell.{Cell}
use Rattle.cache_model.specs.declared.cell.Cell.TheVariants as cell
use Rattle.cache_model.specs.declared.cell.Link.TheVariants as link
use Rattle.cache_model.specs.declared.write.Write.{Write}
use Rattle.cache_model.specs.declared.write.Write.TheVariants as write
use Rattle.cache_model.specs.Keys.{keyed_text, root_text}
use Rattle.entity_keys.specs.Fields.{field_key_text}
use Rattle.entity_keys.specs.Objects.{id_of}
use Rattle.execution_model.specs.Values.{Pairs, depth, null_value, text_value}
use Rattle.execution_model.specs.declared.given.Given.{Given}
use Rattle.execution_model.specs.declared.given.Given.TheVariants.{Absent}
use Rattle.execution_model.specs.Inputs.{Defaults, or_default, members_into}
use Rattle.execution_model.specs.Arguments.{argument_default}
use Rattle.execution_model.specs.Offers.{offered}
use Rattle.execution_model.specs.Asked.{Execution, Asked, asked_as_sent, root_type, root_sets}
use Rattle.answer_model.specs.Paths.{members_in}
use Rattle.answer_model.specs.Types.{ObjectType, type_of_members}
use Rattle.answer_model.specs.Writing.{plain_members}
use Rattle.rules_model.specs.declared.term.Term.{Term}
use Rattle.rules_model.specs.declared.term.Term.TheVariants.{Argument, Member, Literal}
use Rattle.rules_model.specs.declared.updater.Updater.{Updater}
use Rattle.rules_model.specs.declared.updater.Action.{Action}
use Rattle.rules_model.specs.declared.updater.Action.TheVariants as action
use Rattle.rules_model.specs.declared.updater.Target.{Target}
use Rattle.rules_model.specs.declared.updater.LinkedEntity.{LinkedEntity}
use Rattle.rules_model.specs.declared.optimistic.Optimistic.{Optimistic}
use Rattle.rules_model.specs.declared.rules.Rules.{Rules}
use Rattle.rules_model.specs.Terms.{NamedTerms}
use Rattle.rules_model.specs.RootFields.{field_behind, field_named}
use Rattle.rules_model.specs.Keys.{KeySettings, listed_key_field}

-- ---- terms

-- what terms name: the values of the root field's arguments, and the members of its object
pub record Scope : Type 0 where
  pub arguments : Pairs
  pub members : Pairs

-- the deepest that a kept value nests, so that its text can be read again; this project's own bound
unfoldable pub deepest_kept : ℕ
deepest_kept = 126

-- a value, unless it nests lists and objects too deep
abbrev pub kept_value : Value → Option Value
kept_value value = cond (nat_lt deepest_kept (depth value)) None (Some value)

-- what a term stands for: an argument's value, a member of the object, or the literal; none where the name has no value
abbrev pub named_value : Scope → Term → Option Value
named_value scope (Argument name) = entry scope.arguments name
named_value scope (Member name) = entry scope.members name
named_value scope (Literal value) = Some value

-- the value of a term, where it has one
abbrev pub term_value : Scope → Term → Option Value
term_value scope term = option_and_then kept_value (named_value scope term)

-- the id that a term gives: a text, or the decimal text of a whole number
abbrev pub term_id : Scope → Term → Option (List ℕ)
term_id scope term = option_and_then id_of (term_value scope term)

-- the values so far, and those of the terms that are left, where each has one
abbrev pub values_onto : Scope → Pairs → NamedTerms → Option Pairs
values_onto scope values [] = Some values
values_onto scope values (t ∷ ts) = option_and_then (λ value. values_onto scope (values ++ (t.0, value) ∷ []) ts) (term_value scope t.1)

-- ---- arguments of a rule's field

-- what these values give of an argument, coerced as a client's values are (GraphQL October 2021, 6.4.1)
abbrev pub argument_given : Defaults → Schema → Pairs → List ℕ × InputValue → Given
argument_given defaults schema values defined =
    option_map_or (λ value. offered defaults schema value (Some defined.1.input_type.type_ref)) (entry values defined.0) Absent

-- an argument's name, with what these values give of it, or its default where they give nothing
abbrev pub argument_member : Defaults → Schema → Pairs → List ℕ × InputValue → List ℕ × Given
argument_member defaults schema values defined =
    (defined.0, or_default defined.1 (argument_default defaults schema defined.1) (argument_given defaults schema values defined))

-- the arguments of a field by these values, in the order of their definition; none where one doesn't take its value, or is required and absent
abbrev pub coerced_values : Defaults → Schema → List (List ℕ × InputValue) → Pairs → Option Pairs
coerced_values defaults schema defined values = members_into [] (map (argument_member defaults schema values) defined)

-- ---- updaters

-- where an updater runs: in an execution, with what its terms name
pub record Running : Type 0 where
  pub execution : Execution
  pub scope : Scope

-- the coerced arguments of the field that an action changes; none where a term has no value or the values don't coerce
abbrev pub target_arguments : Running → NamedTerms → SchemaField → Option Pairs
target_arguments running args field =
    option_and_then (coerced_values running.execution.defaults running.execution.schema field.arguments) (values_onto running.scope [] args)

-- the key of the field that an action changes, on an object of this type
abbrev pub target_key : Running → List ℕ → Target → Option (List ℕ)
target_key running named target =
    option_map (field_key_text target.field)
    (option_and_then (target_arguments running target.args) (field_named running.execution.schema named target.field))

-- the field holds this cell
abbrev pub set_target : Running → List ℕ → List ℕ → Target → Cell → Option Write
set_target running named entity target value = option_map (λ field. write.Set entity field value) (target_key running named target)

-- the cell that leads to another object
abbrev pub linked_cell : Running → LinkedEntity → Option Cell
linked_cell running linked = option_map (λ id. cell.Link (link.Entity (keyed_text linked.to_type id))) (term_id running.scope linked.to_id)

-- what an action writes on an object of this type and key; nothing where a term has no value, an id is of another kind, or arguments don't coerce
abbrev pub action_write : Running → List ℕ → Action → List ℕ → Option Write
action_write running named (action.Write target value) entity =
    option_and_then (λ v. set_target running named entity target (cell.Leaf v)) (term_value running.scope value)
action_write running named (action.Clear target) entity = set_target running named entity target (cell.Leaf null_value)
action_write running named (action.Link target linked) entity = option_and_then (set_target running named entity target) (linked_cell running linked)
action_write running named action.Invalidate entity = Some (write.DropAll entity)
action_write running named (action.InvalidateField field) entity = Some (write.DropName entity field)

-- the key of the object that an updater changes: the query root's, or that of an object by its id
abbrev pub updated_entity : Scope → Updater → Option (List ℕ)
updated_entity scope updater = option_map_or (λ id. option_map (keyed_text updater.named) (term_id scope id)) updater.id (Some (root_text updater.named))

-- what an updater writes
abbrev pub updater_write : Running → Updater → Option Write
updater_write running updater = option_and_then (action_write running updater.named updater.action) (updated_entity running.scope updater)

-- whether a rule is on this field of the root type of this name
abbrev pub is_on : List ℕ → List ℕ → List ℕ → Bool
is_on root field on = option_map_or (bytes_eq field) (field_behind root on) false

-- what an updater writes where it is on this root field; an updater on another one writes nothing
abbrev pub write_if_on : Running → List ℕ → List ℕ → Updater → Option Write
write_if_on running root field updater = cond (is_on root field updater.on) (updater_write running updater) None

-- what the updaters of a root field write, in the order of the file
abbrev pub updates : Rules → List ℕ → Execution → Asked → Pairs → List Write
updates rules root execution asked members =
    filter_map (write_if_on (record { execution = execution; scope = record { arguments = asked.arguments; members = members } }) root asked.name) rules.updaters

-- ---- on an answer

-- of a root field's object of this type, the members of the fields without arguments, under the names of these fields
abbrev pub typed_members : Execution → Asked → Pairs → ObjectType → Pairs
typed_members execution asked members type = plain_members (record { execution = execution; keys = []; errors = [] }) type asked.sets members

-- the same of an object whose `__typename` tells its type; none where that type isn't possible at this composite type
abbrev pub object_members : Execution → Asked → TypeId → Pairs → Pairs
object_members execution asked parent members = option_map_or (typed_members execution asked members) (type_of_members execution.schema parent members) []

-- the same of whatever a root field has; none where it has no object, as with null, a list or a leaf
abbrev pub result_members : Execution → Asked → Value → Pairs
result_members execution asked value =
    option_map_or (λ parent. option_map_or (object_members execution asked parent) (members_in (out-Value value)) [])
    (option_and_then (parent_below execution.schema) asked.type) []

-- the members that a root field has in the data of an answer; none where it has no object
abbrev pub answered_members : Execution → Value → Asked → Pairs
answered_members execution answer asked =
    option_map_or (result_members execution asked) (option_and_then (λ members. entry members asked.key) (members_in (out-Value answer))) []

-- the root fields of an operation, in collected order
abbrev pub root_fields : Execution → List Asked
root_fields execution = option_map_or (λ type. asked_as_sent execution type (root_sets execution)) (root_type execution) []

-- the name of the operation's root type
abbrev pub root_type_name : Execution → List ℕ
root_type_name execution = option_map_or (λ t. t.0) (option_and_then (type_at execution.schema) (root_type execution)) []

-- what updaters write on an answer for one root field of it
abbrev pub field_updates : Rules → Execution → Value → Asked → List Write
field_updates rules execution answer asked = updates rules (root_type_name execution) execution asked (answered_members execution answer asked)

-- what updaters write on an answer: root field by root field in collected order, and for each in the order of the file
abbrev pub updater_writes_of : Rules → Execution → Value → List Write
updater_writes_of rules execution answer = flat_map (field_updates rules execution answer) (root_fields execution)

-- ---- before an answer

-- the optimistic rule of a root field
abbrev pub optimistic_on : Rules → List ℕ → List ℕ → Option Optimistic
optimistic_on rules root field = find (λ rule. is_on root field rule.on) rules.optimistic

-- the arguments alone: a term of `fields` that names a member has no value
abbrev pub arguments_alone : Pairs → Scope
arguments_alone arguments = record { arguments = arguments; members = [] }

-- a field that an optimistic rule lists, with its value by these arguments; none where its term has no value
abbrev pub listed_value : Pairs → List ℕ × Term → Option (List ℕ × Value)
listed_value arguments field = option_map (λ value. (field.0, value)) (term_value (arguments_alone arguments) field.1)

-- the members of an optimistic object; one without value is left out
abbrev pub optimistic_members : Optimistic → Pairs → Pairs
optimistic_members rule arguments = filter_map (listed_value arguments) rule.fields

-- the id of an optimistic object: that of its member under the key field
abbrev pub optimistic_id : KeySettings → Optimistic → Pairs → Option (List ℕ)
optimistic_id keys rule members = option_and_then (λ field. option_and_then id_of (entry members field)) (listed_key_field keys rule.named rule.fields)

-- an object sets its type's name before its members
abbrev pub object_writes : List ℕ → Pairs → List ℕ → List Write
object_writes named members entity =
    write.Set entity (codes "__typename") (cell.Leaf (text_value named)) ∷ map (λ m. write.Set entity m.0 (cell.Leaf m.1)) members

-- an object without an id writes nothing of itself
abbrev pub own_writes : KeySettings → Optimistic → Pairs → List Write
own_writes keys rule members =
    option_map_or (object_writes rule.named members) (option_map (keyed_text rule.named) (optimistic_id keys rule members)) []

-- what a rule writes on a root field: its object, and then what updaters write over that object
abbrev pub declared_with : Rules → Execution → Asked → Optimistic → Pairs → List Write
declared_with rules execution asked rule members = own_writes rules.keys rule members ++ updates rules (root_type_name execution) execution asked members

-- the same, with the members that the rule gives by the values of the root field's arguments
abbrev pub declared_writes : Rules → Execution → Asked → Optimistic → List Write
declared_writes rules execution asked rule = declared_with rules execution asked rule (optimistic_members rule asked.arguments)

-- what is written for one root field before an answer; nothing where it has no optimistic rule
abbrev pub field_declared : Rules → Execution → Asked → List Write
field_declared rules execution asked =
    option_map_or (declared_writes rules execution asked) (optimistic_on rules (root_type_name execution) asked.name) []

-- what is written before an answer: root field by root field in collected order, for those that have an optimistic rule
abbrev pub optimistic_writes_of : Rules → Execution → List Write
optimistic_writes_of rules execution = flat_map (field_declared rules execution) (root_fields execution)

-- whether a root field has an optimistic rule
abbrev pub has_optimistic : Rules → Execution → Asked → Bool
has_optimistic rules execution asked = is_some (optimistic_on rules (root_type_name execution) asked.name)

-- whether some collected root field has an optimistic rule
abbrev pub is_optimistic_operation : Rules → Execution → Bool
is_optimistic_operation rules execution = list_any (has_optimistic rules execution) (root_fields execution)
