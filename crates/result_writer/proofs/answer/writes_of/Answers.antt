use Rattle.std.proofs.Common.{◌≡◌, ℕ, List, [], map, ap, ◌∙◌}
use Rattle.gql_value.specs.declared.value.Value.{Value, out-Value}
use Rattle.answer_model.specs.Writing as spec
use Rattle.field_asking.specs.Asking.{executed}
use Rattle.result_writer.specs.Results.{told_behind}
use Rattle.result_writer.proofs.WriteLaws.{tells_at, tells_written, tells_misfit}
use Rattle.result_writer.proofs.answer.writes_of.Goals as goal

pub returns-clause-written : goal.returns-clause-written
returns-clause-written c =
    tells_written c.write_data.result _
    (tells_at c.write_data.result _ _
    (ap (λ (errors : List (List Value)). told_behind [] (spec.data_written (record { execution = executed c.args.asking.now; keys = c.args.keys.now; errors = errors }) (out-Value c.args.answer.now)))
    (ap (map (λ path. path.now)) c.as_slice.ensures ∙ c.in_ok-errors.ensures))
    c.write_data.ensures)

pub returns-clause-misfit : goal.returns-clause-misfit
returns-clause-misfit c =
    tells_misfit c.write_data.result _
    (tells_at c.write_data.result _ _
    (ap (λ (errors : List (List Value)). told_behind [] (spec.data_written (record { execution = executed c.args.asking.now; keys = c.args.keys.now; errors = errors }) (out-Value c.args.answer.now)))
    (ap (map (λ path. path.now)) c.as_slice.ensures ∙ c.in_ok-errors.ensures))
    c.write_data.ensures)
