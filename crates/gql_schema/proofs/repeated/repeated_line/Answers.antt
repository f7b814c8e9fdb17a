use Rattle.std.proofs.Common.{◌≡◌, [], ◌++◌, ap, ◌∙◌}
use Rattle.std.specs.List.{flat_map}
use Rattle.schema_rules.specs.Lines.{earlier}
use Rattle.gql_schema.specs.Repeated.{scalar_marks}
use Rattle.gql_schema.proofs.repeated.repeated_line.Goals as goal

pub returns : goal.returns
returns c =
    let types = c.repeated_line.ensures _ (c.in_ok-types.ensures scalar_marks c.in_ok-seen_scalars.ensures) in
    let directives = c.repeated_line-2.ensures _ (c.in_ok-directives.ensures [] c.new.ensures) in
    let schemas = c.repeated_line-3.ensures _ (c.in_ok-schemas.ensures [] c.new-2.ensures) in
    let within = c.in_ok-within.ensures in
    cc (types, directives, schemas, within)
