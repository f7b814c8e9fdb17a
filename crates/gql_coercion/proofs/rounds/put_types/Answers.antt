use Rattle.std.proofs.Common.{ap, sym}
use Rattle.std.specs.List.{fold, filter_map}
use Rattle.schema_model.specs.Tables.{put}
use Rattle.execution_model.specs.Defaults.{type_values}
use Rattle.gql_coercion.proofs.rounds.put_types.Goals as goal

pub types-init : goal.types-init
types-init c = ap (λ vs. fold put vs (filter_map (type_values c.args.inputs.now.defaults.now c.args.inputs.now.schema.now) c.args.types.now)) (sym c.new-values.ensures)
