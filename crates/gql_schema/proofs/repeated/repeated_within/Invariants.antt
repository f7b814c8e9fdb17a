use Rattle.std.proofs.Common.{◌≡◌, take}
use Rattle.schema_rules.specs.Lines.{least_by}
use Rattle.gql_schema.specs.Repeated.{repeated_in}
use Rattle.gql_schema.proofs.repeated.repeated_within.Given as goal

abbrev pub invariant-forms : goal.invariant-forms
invariant-forms l = l.least ≡ least_by repeated_in (take l.form-index l.forms)
