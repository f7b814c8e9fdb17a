-- Which root field a rule is on: `on` has the name of the root type, a dot and the name of the field, as a schema coordinate has
-- them (GraphQL RFC on schema coordinates).
use Rattle.std.specs.Prelude.{ℕ, ◌==◌, List, [], ◌∷◌, Option, Some, None, cond}
use Rattle.std.specs.Option.{option_and_then, option_or}
use Rattle.gql_model.specs.declared.executable.OperationKind.{OperationKind}
use Rattle.gql_model.specs.declared.executable.OperationKind.TheVariants as kind
use Rattle.schema_model.specs.declared.schema.Schema.{Schema}
use Rattle.schema_model.specs.declared.schema.SchemaField.{SchemaField}
use Rattle.schema_model.specs.Schemas.{root_name, field_in}
use Rattle.schema_model.specs.Tables.{entry}
use Rattle.rules_model.specs.Terms.{behind_mark}

-- what stands behind a front of a text
abbrev pub behind : List ℕ → List ℕ → Option (List ℕ)
behind [] text = Some text
behind (b ∷ bs) [] = None
behind (b ∷ bs) (c ∷ cs) = cond (c == b) (behind bs cs) None

-- the name of a field behind the name of its type and a dot, which is byte 46
abbrev pub field_behind : List ℕ → List ℕ → Option (List ℕ)
field_behind name on = option_and_then (behind_mark 46) (behind name on)

-- a field of the type of a name
abbrev pub field_named : Schema → List ℕ → List ℕ → Option SchemaField
field_named schema named field = option_and_then (λ t. field_in t.form field) (entry schema.types named)

-- the field that `on` names on the root type of this name; none where `on` doesn't begin with that name and a dot
abbrev pub field_at : Schema → List ℕ → List ℕ → Option SchemaField
field_at schema root on = option_and_then (field_named schema root) (field_behind root on)

-- the field of the root of a kind of operations that `on` names
abbrev pub root_field : Schema → OperationKind → List ℕ → Option SchemaField
root_field schema kind on = option_and_then (λ root. field_at schema root.text on) (root_name schema.roots kind)

-- the root field of an updater: a mutation's or a subscription's
abbrev pub updated_field : Schema → List ℕ → Option SchemaField
updated_field schema on = option_or (root_field schema kind.Mutation on) (root_field schema kind.Subscription on)
