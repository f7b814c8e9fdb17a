use Rattle.std.proofs.Common.{ap, ◌∙◌, map, arith}
use Rattle.schema_defaults.specs.Repetitions.{repeated}
use Rattle.gql_schema.specs.Repeated.{input_mark, repeated_arguments}
use Rattle.schema_defaults.proofs.LeastLaws.{least_more}
use Rattle.gql_schema.proofs.repeated.repeated_argument.Goals as goal

pub fields-preserved : goal.fields-preserved
fields-preserved c =
    c.earlier-least.ensures
    ∙ least_more repeated_arguments c.args.fields.now c.fields.field-index c.field-item.result _ _ (omega arith) c.field-item.is c.fields.invariant
    (c.in_ok-repeated_name.ensures ∙ ap (λ xs. repeated (map input_mark xs)) c.as_slice.ensures)
