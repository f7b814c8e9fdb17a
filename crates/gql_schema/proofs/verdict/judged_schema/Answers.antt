use Rattle.std.proofs.Common.{◌≡◌, sym, ap, ◌∙◌, subst}
use Rattle.schema_model.specs.declared.schema.Schema.{Schema}
use Rattle.gql_schema.specs.declared.error.SchemaError.{SchemaError}
use Rattle.gql_schema.specs.Meaning.{schema_of}
use Rattle.gql_schema.specs.Judged.{schema_refusal, IsRefusal}
use Rattle.gql_schema.proofs.verdict.judged_schema.Goals as goal

pub returns-in-Some-clause-refused : goal.returns-in-Some-clause-refused
returns-in-Some-clause-refused c =
    let told : schema_refusal (schema_of c.args.forms.items) ≡ c.in_ok-refusal.field-0 =
    ap (λ (s : Schema). schema_refusal s) (sym c.in_ok-schema.ensures) ∙ sym c.in_ok-refusal.ensures in
    subst (λ (e : SchemaError). IsRefusal (schema_refusal (schema_of c.args.forms.items)) e) (sym c.into_error.ensures) (told ∙ c.in-Some.is)

pub returns-in-None-clause-valid : goal.returns-in-None-clause-valid
returns-in-None-clause-valid c =
    ap (λ (s : Schema). schema_refusal s) (sym c.in_ok-schema.ensures) ∙ sym c.in_ok-refusal.ensures ∙ c.in-None.is
