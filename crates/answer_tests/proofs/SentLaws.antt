-- What is asked with the fronts of its own document is asked as it is sent.
use Rattle.std.proofs.Common.{◌≡◌, List, Bool, ap, sym, subst, ◌∙◌}
use Rattle.schema_model.specs.declared.schema.Schema.{Schema}
use Rattle.execution_model.specs.Values.{Pairs}
use Rattle.execution_model.specs.Inputs.{Defaults}
use Rattle.execution_model.specs.Asked.{Execution}
use Rattle.execution_model.specs.Fronts.{fronts_of}
use Rattle.checked_operation.specs.declared.checked.Checked.{Checked}
use Rattle.checked_operation.specs.Acceptance.{IsWhole, execution_of}
use Rattle.field_asking.specs.declared.asking.Asking.{Asking}
use Rattle.field_asking.specs.Asking.{executed}
use Rattle.result_writer.specs.Views.{IsAsSent}

-- what is executed tells the schema and the document
pub sent : (asking : Asking) (schema : Schema) (defaults : Defaults) (variables : Pairs) (operation : Checked) (fronts : List Bool)
    → executed asking ≡ execution_of schema defaults variables operation
    → asking.operation.now ≡ operation → asking.fronts.now ≡ fronts
    → IsWhole operation → fronts ≡ fronts_of schema operation.document → IsAsSent asking
sent asking schema defaults variables operation fronts is same are whole own = record {
  whole = subst IsWhole (sym same) whole;
  fronts = are ∙ own ∙ sym (ap (λ (e : Execution). fronts_of e.schema e.document) is);
}
