-- When a rule that has its form breaks a code, one definition for each of U3 to U8. Each may assume that the codes before it aren't broken.
use Rattle.std.specs.Prelude.{ℕ, Bool, true, false, ◌&&◌, not, List, Option, Some, None, is_some, cond, bytes_eq}
use Rattle.std.specs.List.{list_all}
use Rattle.std.specs.Option.{option_map_or}
use Rattle.gql_model.specs.declared.executable.OperationKind.TheVariants as kind
use Rattle.schema_model.specs.declared.schema.Schema.{Schema}
use Rattle.schema_model.specs.declared.schema.SchemaField.{SchemaField}
use Rattle.schema_model.specs.declared.schema.InputValue.{InputValue}
use Rattle.schema_model.specs.Schemas.{id_named}
use Rattle.schema_model.specs.Possible.{is_object, is_possible_of}
use Rattle.schema_model.specs.Tables.{entry}
use Rattle.schema_rules.specs.TypeRefs.{named_type}
use Rattle.rules_model.specs.declared.term.Term.{Term}
use Rattle.rules_model.specs.declared.term.Term.TheVariants.{Argument, Member, Literal}
use Rattle.rules_model.specs.declared.updater.Updater.{Updater}
use Rattle.rules_model.specs.declared.updater.Action.{Action}
use Rattle.rules_model.specs.declared.updater.Action.TheVariants as action
use Rattle.rules_model.specs.declared.updater.Target.{Target}
use Rattle.rules_model.specs.declared.optimistic.Optimistic.{Optimistic}
use Rattle.rules_model.specs.Terms.{NamedTerms, every_named}
use Rattle.rules_model.specs.RootFields.{field_named, root_field, updated_field}
use Rattle.rules_model.specs.Keys.{KeySettings, has_arguments, listed_key_field}

-- the least code that is broken: this one where its test fails, else what the tests behind it come to
abbrev pub first_broken : Bool → ℕ → Option ℕ → Option ℕ
first_broken is_met code more = cond is_met more (Some code)

-- ---- U4: each type is an object type of the schema

-- whether the schema has an object type of this name
abbrev pub is_object_named : Schema → List ℕ → Bool
is_object_named schema name = option_map_or (λ t. is_object t.form) (entry schema.types name) false

-- whether a `link` leads to an object type; no other action names a type
abbrev pub action_has_types : Schema → Action → Bool
action_has_types schema (action.Link target linked) = is_object_named schema linked.to_type
action_has_types schema _ = true

-- whether the type of an updater is an object type, and also the one that its link leads to
abbrev pub updater_has_types : Schema → Updater → Bool
updater_has_types schema updater = is_object_named schema updater.named && action_has_types schema updater.action

-- whether the object type of a name is possible at the type of a name (GraphQL October 2021, 5.5.2.3)
abbrev pub is_possible_named : Schema → List ℕ → List ℕ → Bool
is_possible_named schema object named =
    option_map_or (λ o. option_map_or (is_possible_of schema o) (id_named schema named) false) (id_named schema object) false

-- an optimistic rule's type is also possible for its root field's type, under all lists
abbrev pub optimistic_has_type : Schema → SchemaField → Optimistic → Bool
optimistic_has_type schema root rule = is_object_named schema rule.named && is_possible_named schema rule.named (named_type root.field_type.type_ref)

-- ---- U5: each field is defined on its type, and a key field has no arguments

-- whether the type of this name has this field; only object types and interfaces have fields
abbrev pub has_field : Schema → List ℕ → List ℕ → Bool
has_field schema named field = is_some (field_named schema named field)

-- whether the field that an action changes is one of this type; `invalidate` names no field
abbrev pub action_has_field : Schema → List ℕ → Action → Bool
action_has_field schema named (action.Write target value) = has_field schema named target.field
action_has_field schema named (action.Clear target) = has_field schema named target.field
action_has_field schema named (action.Link target linked) = has_field schema named target.field
action_has_field schema named action.Invalidate = true
action_has_field schema named (action.InvalidateField field) = has_field schema named field

-- whether the field that an updater changes is one of its type
abbrev pub updater_has_field : Schema → Updater → Bool
updater_has_field schema updater = action_has_field schema updater.named updater.action

-- whether the key field of an optimistic rule has no arguments; a type without a key passes here
abbrev pub has_plain_key : Schema → KeySettings → Optimistic → Bool
has_plain_key schema keys rule = option_map_or (λ field. not (has_arguments schema rule.named field)) (listed_key_field keys rule.named rule.fields) true

-- whether each of these names is that of a field of the type
abbrev pub are_fields : Schema → List ℕ → NamedTerms → Bool
are_fields schema named fields = list_all (λ f. has_field schema named f.0) fields

-- whether an optimistic rule lists fields of its type alone, and its key field has no arguments
abbrev pub optimistic_has_fields : Schema → KeySettings → Optimistic → Bool
optimistic_has_fields schema keys rule = are_fields schema rule.named rule.fields && has_plain_key schema keys rule

-- ---- the terms of a rule

-- whether each term of an action passes a test
abbrev pub every_in_action : (Term → Bool) → Action → Bool
every_in_action is_good (action.Write target value) = every_named is_good target.args && is_good value
every_in_action is_good (action.Clear target) = every_named is_good target.args
every_in_action is_good (action.Link target linked) = every_named is_good target.args && is_good linked.to_id
every_in_action is_good action.Invalidate = true
every_in_action is_good (action.InvalidateField field) = true

-- whether each term of an updater passes a test
abbrev pub every_in_updater : (Term → Bool) → Updater → Bool
every_in_updater is_good updater = option_map_or is_good updater.id true && every_in_action is_good updater.action

-- ---- U6: each `$` names an argument of the root field, and each member of `args` one of its field

-- whether `$` names an argument of this root field; any other term passes
abbrev pub is_known_argument : SchemaField → Term → Bool
is_known_argument root (Argument name) = is_some (entry root.arguments name)
is_known_argument root (Member name) = true
is_known_argument root (Literal value) = true

-- whether each member of `args` names one of the defined arguments
abbrev pub are_arguments : List (List ℕ × InputValue) → NamedTerms → Bool
are_arguments defined args = list_all (λ a. is_some (entry defined a.0)) args

-- whether each member of `args` is an argument of its field; a field that isn't on the type passes here
abbrev pub target_has_arguments : Schema → List ℕ → Target → Bool
target_has_arguments schema named target = option_map_or (λ f. are_arguments f.arguments target.args) (field_named schema named target.field) true

-- whether each member of an action's `args` is an argument of its field; invalidations have no `args`
abbrev pub action_has_arguments : Schema → List ℕ → Action → Bool
action_has_arguments schema named (action.Write target value) = target_has_arguments schema named target
action_has_arguments schema named (action.Clear target) = target_has_arguments schema named target
action_has_arguments schema named (action.Link target linked) = target_has_arguments schema named target
action_has_arguments schema named action.Invalidate = true
action_has_arguments schema named (action.InvalidateField field) = true

-- whether each `$` of an updater names an argument of its root field, and each member of `args` one of the field there
abbrev pub updater_has_arguments : Schema → SchemaField → Updater → Bool
updater_has_arguments schema root updater =
    every_in_updater (is_known_argument root) updater && action_has_arguments schema updater.named updater.action

-- ---- U7: each `@` names a field of the root field's type, where that is an object type or an interface

-- whether `@` names a field of the root field's type, under all lists; any other term passes
abbrev pub is_known_member : Schema → SchemaField → Term → Bool
is_known_member schema root (Argument name) = true
is_known_member schema root (Member name) = is_some (field_named schema (named_type root.field_type.type_ref) name)
is_known_member schema root (Literal value) = true

-- ---- U8: an optimistic rule lists its key field, and is the first on its root field

-- whether an optimistic rule lists the key field of its type; false where the type has no key
abbrev pub lists_key : KeySettings → Optimistic → Bool
lists_key keys rule = option_map_or (λ field. is_some (entry rule.fields field)) (listed_key_field keys rule.named rule.fields) false

-- whether no earlier optimistic rule is on this root field
abbrev pub is_first_on : List Optimistic → List ℕ → Bool
is_first_on earlier on = list_all (λ rule. not (bytes_eq on rule.on)) earlier

-- ---- the least code

-- the least code from U4 on that an updater on this root field breaks
abbrev pub updater_fault_at : Schema → Updater → SchemaField → Option ℕ
updater_fault_at schema updater root =
    first_broken (updater_has_types schema updater) 4
    (first_broken (updater_has_field schema updater) 5
    (first_broken (updater_has_arguments schema root updater) 6
    (first_broken (every_in_updater (is_known_member schema root) updater) 7 None)))

-- the least code that an updater breaks; U3 where it is on no root field of a mutation or a subscription
abbrev pub updater_fault : Schema → Updater → Option ℕ
updater_fault schema updater = option_map_or (updater_fault_at schema updater) (updated_field schema updater.on) (Some 3)

-- the least code from U6 on that an optimistic rule on this root field breaks
abbrev pub optimistic_term_fault : Schema → KeySettings → List Optimistic → Optimistic → SchemaField → Option ℕ
optimistic_term_fault schema keys earlier rule root =
    first_broken (every_named (is_known_argument root) rule.fields) 6
    (first_broken (every_named (is_known_member schema root) rule.fields) 7
    (first_broken (lists_key keys rule && is_first_on earlier rule.on) 8 None))

-- the least code from U4 on that an optimistic rule on this root field breaks, behind these earlier ones
abbrev pub optimistic_fault_at : Schema → KeySettings → List Optimistic → Optimistic → SchemaField → Option ℕ
optimistic_fault_at schema keys earlier rule root =
    first_broken (optimistic_has_type schema root rule) 4
    (first_broken (optimistic_has_fields schema keys rule) 5
    (optimistic_term_fault schema keys earlier rule root))

-- the least code that an optimistic rule behind these breaks; U3 where it is on no root field of a mutation
abbrev pub optimistic_fault : Schema → KeySettings → List Optimistic → Optimistic → Option ℕ
optimistic_fault schema keys earlier rule =
    option_map_or (optimistic_fault_at schema keys earlier rule) (root_field schema kind.Mutation rule.on) (Some 3)
