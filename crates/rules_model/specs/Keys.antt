-- The key field of a type, as rules set it and use it (after the option `keys` of urql's Graphcache).
use Rattle.std.specs.Prelude.{ℕ, ◌==◌, Bool, false, not, List, length, Option, Some, is_some, unwrap_or, cond, codes}
use Rattle.std.specs.Option.{option_map_or}
use Rattle.schema_model.specs.declared.schema.Schema.{Schema}
use Rattle.entity_keys.specs.Objects.{member}
use Rattle.rules_model.specs.Terms.{NamedTerms}
use Rattle.rules_model.specs.RootFields.{field_named}

-- the key fields that are set: the name of a field, or that the type's objects have no key
abbrev pub KeySettings : Type 0
KeySettings = List (List ℕ × Option (List ℕ))

-- whether a field of a type has arguments
abbrev pub has_arguments : Schema → List ℕ → List ℕ → Bool
has_arguments schema named field = option_map_or (λ f. not (length f.arguments == 0)) (field_named schema named field) false

-- `id` where it is listed, else `_id`
abbrev pub default_listed : NamedTerms → List ℕ
default_listed fields = cond (is_some (member fields (codes "id"))) (codes "id") (codes "_id")

-- the key field of an object with these listed fields: the one that is set for its type, else the default
abbrev pub listed_key_field : KeySettings → List ℕ → NamedTerms → Option (List ℕ)
listed_key_field keys named fields = unwrap_or (member keys named) (Some (default_listed fields))
