use Rattle.std.proofs.Common.{◌≡◌, List, sym, ap, ◌∙◌, subst}
use Rattle.std.specs.Prelude.{Option, None, OnOk, IfErr}
use Rattle.std.specs.Option.{option_or}
use Rattle.gql_model.specs.declared.type_system.TypeSystemForm.{TypeSystemForm}
use Rattle.gql_schema.specs.declared.error.Refusal.{Refusal}
use Rattle.gql_schema.specs.Ignored.{considered}
use Rattle.gql_schema.specs.Meaning.{schema_of}
use Rattle.gql_schema.specs.Judged.{definitions_refusal, schema_refusal, refusal_of, IsRefusal}
use Rattle.gql_schema.proofs.verdict.judged.Goals as goal

-- where the definitions break nothing, the first refusal is that of the schema
later : (all kept : List TypeSystemForm) → kept ≡ considered all → definitions_refusal kept ≡ None
    → schema_refusal (schema_of kept) ≡ refusal_of (considered all)
later all kept same none =
    ap (λ (o : Option Refusal). option_or o (schema_refusal (schema_of kept))) (sym none)
    ∙ ap (λ (fs : List TypeSystemForm). refusal_of fs) same

pub returns-in-None-clause-valid : goal.returns-in-None-clause-valid
returns-in-None-clause-valid c =
    let none : definitions_refusal c.leave_out_ignored.new.forms.items ≡ None =
    ap (λ (fs : List TypeSystemForm). definitions_refusal fs) (sym c.as_slice.ensures.value) ∙ sym c.in_ok-refusal.ensures ∙ c.in-None.is in
    subst (λ (x : Option Refusal). OnOk c.judged_schema.result (x ≡ None))
    (later c.args.forms.items c.leave_out_ignored.new.forms.items c.leave_out_ignored.ensures none)
    c.judged_schema.ensures.valid

pub returns-in-None-clause-refused : goal.returns-in-None-clause-refused
returns-in-None-clause-refused c =
    let none : definitions_refusal c.leave_out_ignored.new.forms.items ≡ None =
    ap (λ (fs : List TypeSystemForm). definitions_refusal fs) (sym c.as_slice.ensures.value) ∙ sym c.in_ok-refusal.ensures ∙ c.in-None.is in
    subst (λ (x : Option Refusal). IfErr c.judged_schema.result (IsRefusal x))
    (later c.args.forms.items c.leave_out_ignored.new.forms.items c.leave_out_ignored.ensures none)
    c.judged_schema.ensures.refused
