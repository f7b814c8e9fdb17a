use Rattle.std.proofs.Common.{List, ◌++◌, take}
use Rattle.std.specs.List.{flat_map}
use Rattle.gql_schema.specs.Marks.{Mark}
use Rattle.gql_schema.specs.Repeated.{marks_of}
use Rattle.schema_defaults.specs.Seen.{Saw}
use Rattle.gql_schema.proofs.definitions.note_all.Given as goal

abbrev pub invariant-forms : goal.invariant-forms
invariant-forms l = (marks : List Mark) → Saw l.fn.seen marks → Saw l.all (marks ++ flat_map (marks_of l.class) (take l.form-index l.forms))
