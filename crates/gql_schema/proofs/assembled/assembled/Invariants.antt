use Rattle.std.proofs.Common.{◌≡◌}
use Rattle.std.specs.List.{flat_map}
use Rattle.schema_model.specs.Tables.{tabled}
use Rattle.gql_schema.specs.Meaning.{types_of, directive_entries, stated_roots}
use Rattle.gql_schema.proofs.assembled.assembled.Given as goal

abbrev pub invariant-forms : goal.invariant-forms
invariant-forms l =
    (l.draft.types ≡ types_of l.yielded)
    × (l.draft.directives ≡ tabled (flat_map directive_entries l.yielded))
    × (l.draft.roots ≡ stated_roots l.yielded)
