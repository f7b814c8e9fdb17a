-- What makes a conflict of two fields, part by part (after GraphQL October 2021, 5.3.2).
use Rattle.std.specs.Prelude.{ℕ, Bool, false, ◌&&◌, ◌||◌, not, List, Option, bytes_eq}
use Rattle.std.specs.Option.{option_map_or}
use Rattle.gql_model.specs.declared.selection.Argument.{Argument}
use Rattle.gql_model.specs.declared.type_ref.TypeRef.{TypeRef}
use Rattle.schema_model.specs.declared.schema.Schema.{Schema}
use Rattle.check_model.specs.Shapes.{same_shape}
use Rattle.check_model.specs.SameValues.{same_arguments}
use Rattle.check_model.specs.FieldTypes.{selected_type}
use Rattle.merge_rules.specs.declared.rows.Row.{Row}

-- two types, where both are known, differ in shape
abbrev pub differ : Schema → Option TypeRef → Option TypeRef → Bool
differ schema a b = option_map_or (λ t. option_map_or (λ u. not (same_shape schema t u)) b false) a false

-- different names, or different arguments
abbrev pub asks : List ℕ → List Argument → List ℕ → List Argument → Bool
asks a xs b ys = not (bytes_eq a b && same_arguments xs ys)

-- two rows of one path can't be merged, given whether their chains may overlap
abbrev pub clash : Schema → Row → Row → Bool → Bool
clash schema x y meet =
    differ schema (selected_type schema x.parent x.name.now) (selected_type schema y.parent y.name.now)
    || (asks x.name.now x.arguments.now y.name.now y.arguments.now && meet)
