-- Which tables have the form of a rule, with known members that are there and have their forms; a table without it breaks U2.
-- The actions follow the updaters of urql's Graphcache.
use Rattle.std.specs.Prelude.{ℕ, Bool, false, ◌||◌, List, [], Option, Some, None, cond, codes, bytes_eq, is_none}
use Rattle.std.specs.Option.{option_map, option_map_or, option_and_then}
use Rattle.gql_model.specs.declared.executable.OperationKind.TheVariants as operation
use Rattle.schema_model.specs.declared.schema.Schema.{Schema}
use Rattle.schema_model.specs.Schemas.{root_name}
use Rattle.toml.specs.Data.{Data, Members, get_member, as_table}
use Rattle.rules_model.specs.declared.term.Term.{Term}
use Rattle.rules_model.specs.declared.updater.Updater.{Updater}
use Rattle.rules_model.specs.declared.updater.Action.{Action}
use Rattle.rules_model.specs.declared.updater.Action.TheVariants as action
use Rattle.rules_model.specs.declared.updater.ActionKind.{ActionKind}
use Rattle.rules_model.specs.declared.updater.ActionKind.TheVariants as kind
use Rattle.rules_model.specs.declared.updater.Target.{Target}
use Rattle.rules_model.specs.declared.updater.LinkedEntity.{LinkedEntity}
use Rattle.rules_model.specs.declared.optimistic.Optimistic.{Optimistic}
use Rattle.rules_model.specs.Toml.{has_only, text_under}
use Rattle.rules_model.specs.Terms.{NamedTerms, term_under, terms_of}

-- ---- members

-- the members of each updater
abbrev pub is_updater_key : List ℕ → Bool
is_updater_key key = bytes_eq key (codes "on") || bytes_eq key (codes "action") || bytes_eq key (codes "type") || bytes_eq key (codes "id")

-- those of an updater that changes a field by its arguments
abbrev pub is_target_key : List ℕ → Bool
is_target_key key = is_updater_key key || bytes_eq key (codes "field") || bytes_eq key (codes "args")

-- the members of an updater with an action of this kind
abbrev pub is_action_key : ActionKind → List ℕ → Bool
is_action_key kind.Write key = is_target_key key || bytes_eq key (codes "value")
is_action_key kind.Clear key = is_target_key key
is_action_key kind.Link key = is_target_key key || bytes_eq key (codes "to_type") || bytes_eq key (codes "to_id")
is_action_key kind.Invalidate key = is_updater_key key
is_action_key kind.InvalidateField key = is_updater_key key || bytes_eq key (codes "field")

-- the members of an optimistic rule
abbrev pub is_optimistic_key : List ℕ → Bool
is_optimistic_key key = bytes_eq key (codes "on") || bytes_eq key (codes "type") || bytes_eq key (codes "fields")

-- ---- actions

-- the kind of action that a word names
abbrev pub kind_named : List ℕ → Option ActionKind
kind_named word =
    cond (bytes_eq word (codes "write")) (Some kind.Write)
    (cond (bytes_eq word (codes "clear")) (Some kind.Clear)
    (cond (bytes_eq word (codes "link")) (Some kind.Link)
    (cond (bytes_eq word (codes "invalidate")) (Some kind.Invalidate)
    (cond (bytes_eq word (codes "invalidate-field")) (Some kind.InvalidateField) None))))

-- the arguments under `args`; none are given where it is absent
abbrev pub args_of : Members → Option NamedTerms
args_of table = option_map_or terms_of (get_member (codes "args") table) (Some [])

-- this field with the arguments under `args`; none where these have another form
abbrev pub with_field : Members → List ℕ → Option Target
with_field table field = option_map (λ args. record { field = field; args = args }) (args_of table)

-- the field under `field`, with the arguments under `args`
abbrev pub target_of : Members → Option Target
target_of table = option_and_then (with_field table) (text_under (codes "field") table)

-- the action `write` of the term under `value` to a field
abbrev pub write_to : Members → Target → Option Action
write_to table target = option_map (action.Write target) (term_under (codes "value") table)

-- the object of this type whose id is the term under `to_id`
abbrev pub with_to_type : Members → List ℕ → Option LinkedEntity
with_to_type table name = option_map (λ id. record { to_type = name; to_id = id }) (term_under (codes "to_id") table)

-- the object that a link leads to, by `to_type` and `to_id`
abbrev pub linked_of : Members → Option LinkedEntity
linked_of table = option_and_then (with_to_type table) (text_under (codes "to_type") table)

-- the action `link` from a field to the object by `to_type` and `to_id`
abbrev pub link_from : Members → Target → Option Action
link_from table target = option_map (action.Link target) (linked_of table)

-- the action of a kind, with its members
abbrev pub action_in : ActionKind → Members → Option Action
action_in kind.Write table = option_and_then (write_to table) (target_of table)
action_in kind.Clear table = option_map action.Clear (target_of table)
action_in kind.Link table = option_and_then (link_from table) (target_of table)
action_in kind.Invalidate table = Some action.Invalidate
action_in kind.InvalidateField table = option_map action.InvalidateField (text_under (codes "field") table)

-- the action of a kind, where the table has no further keys
abbrev pub action_alone : Members → ActionKind → Option Action
action_alone table kind = cond (has_only (is_action_key kind) table) (action_in kind table) None

-- the action that this word names, where the table has its members and no others
abbrev pub action_named : Members → List ℕ → Option Action
action_named table word = option_and_then (action_alone table) (kind_named word)

-- the action of an updater
abbrev pub action_of : Members → Option Action
action_of table = option_and_then (action_named table) (text_under (codes "action") table)

-- ---- rules

-- whether a type is that of the query root (GraphQL October 2021, 3.3.1)
abbrev pub is_query_root : Schema → List ℕ → Bool
is_query_root schema name = option_map_or (λ root. bytes_eq root.text name) (root_name schema.roots operation.Query) false

-- no id, as of the query root, where nothing stands under `id`; else the table hasn't the form
abbrev pub no_id_under : Members → Option (Option Term)
no_id_under table = cond (is_none (get_member (codes "id") table)) (Some None) None

-- the term under `id`, which must be there
abbrev pub own_id_under : Members → Option (Option Term)
own_id_under table = option_map Some (term_under (codes "id") table)

-- the id of an object of this type: none exactly for the query root
abbrev pub id_under : Schema → List ℕ → Members → Option (Option Term)
id_under schema named table = cond (is_query_root schema named) (no_id_under table) (own_id_under table)

-- the updater of an object of this type, by its id
abbrev pub with_object : Schema → List ℕ → Action → Members → List ℕ → Option Updater
with_object schema on action table named =
    option_map (λ id. record { on = on; named = named; id = id; action = action }) (id_under schema named table)

-- the updater with this root field and action, of an object by `type` and `id`
abbrev pub with_action : Schema → List ℕ → Members → Action → Option Updater
with_action schema on table action = option_and_then (with_object schema on action table) (text_under (codes "type") table)

-- the updater that a table is, by `on`, its action, `type` and `id`
abbrev pub updater_in : Schema → Members → Option Updater
updater_in schema table = option_and_then (λ on. option_and_then (with_action schema on table) (action_of table)) (text_under (codes "on") table)

-- the updater that TOML data is
abbrev pub updater_of : Schema → Data → Option Updater
updater_of schema d = option_and_then (updater_in schema) (as_table d)

-- the terms by name under `fields`, which must be there
abbrev pub fields_of : Members → Option NamedTerms
fields_of table = option_and_then terms_of (get_member (codes "fields") table)

-- the optimistic rule with this root field and type, and with the terms under `fields`
abbrev pub with_fields : List ℕ → Members → List ℕ → Option Optimistic
with_fields on table named = option_map (λ fields. record { on = on; named = named; fields = fields }) (fields_of table)

-- the optimistic rule by `on`, `type` and `fields`, whatever other members the table has
abbrev pub optimistic_members : Members → Option Optimistic
optimistic_members table = option_and_then (λ on. option_and_then (with_fields on table) (text_under (codes "type") table)) (text_under (codes "on") table)

-- the optimistic rule that a table is, without any other members
abbrev pub optimistic_in : Members → Option Optimistic
optimistic_in table = cond (has_only is_optimistic_key table) (optimistic_members table) None

-- the optimistic rule that TOML data is
abbrev pub optimistic_of : Data → Option Optimistic
optimistic_of d = option_and_then optimistic_in (as_table d)
