-- The schema that a draft becomes.
use Rattle.std.specs.Option.{unwrap_or}
use Rattle.schema_model.specs.declared.schema.Schema.{Schema}
use Rattle.gql_schema.specs.declared.draft.Draft.{Draft}
use Rattle.gql_schema.specs.Meaning.{default_roots}

-- the draft's types and directives, with the roots that `schema` names, or the default ones where there is no `schema`
abbrev pub finished : Draft → Schema
finished draft = record {
  types = draft.types;
  directives = draft.directives;
  roots = unwrap_or draft.roots (default_roots draft.types);
}
