-- The code of a refusal, of definitions without their places and in another order.
use Rattle.std.proofs.Common.{◌≡◌, List, map, sym, ap, ◌∙◌}
use Rattle.gql_model.specs.declared.type_system.TypeSystemForm.{TypeSystemForm}
use Rattle.schema_model.specs.declared.schema.Schema.{Schema}
use Rattle.gql_schema.specs.Judged.{coded, schema_refusal, refusal_of}
use Rattle.gql_schema.specs.Meaning.{schema_of}
use Rattle.gql_schema.specs.Repeated.{repeated_line}
use Rattle.gql_schema.specs.Reserved.{reserved_line}
use Rattle.gql_printing.specs.Places.{bare_form}
use Rattle.digraph.specs.Laws.{WalksAreDecided}
use Rattle.schema_order.specs.Verdict.{code_of, PlacesAreFree}
use Rattle.schema_order.proofs.TabledLaws.{or_assoc}
use Rattle.schema_order.proofs.RuleLaws.{either_same}
use Rattle.schema_order.proofs.VerdictLaws.{code_more, code_last, verdict_is_free}
use Rattle.schema_order.proofs.BareTables.{blank}
use Rattle.schema_order.proofs.BareRules.{blank_unknown, blank_misplaced, blank_unsatisfied, blank_root_fault, blank_empty, blank_unfit, blank_needs, blank_fills}
use Rattle.schema_order.proofs.BareSchemas.{blank_same}
use Rattle.schema_order.proofs.BareRepeats.{repeated_bare, reserved_bare}

-- a blank schema is refused with the code of the schema
blank_code : (s : Schema) → code_of (schema_refusal (blank s)) ≡ code_of (schema_refusal s)
blank_code s =
    code_more 5 _ _ _ _ (blank_unknown s) (λ l5 r5.
    code_more 6 _ _ _ _ (blank_misplaced s) (λ l6 r6.
    code_more 7 _ _ _ _ (blank_unsatisfied s) (λ l7 r7.
    code_more 8 _ _ _ _ (blank_root_fault s) (λ l8 r8.
    code_last 9 _ _ (either_same _ _ _ _ (blank_empty s) (either_same _ _ _ _ (blank_unfit s) (either_same _ _ _ _ (blank_needs s) (blank_fills s))))))))

schema_code : (ds : List TypeSystemForm) → code_of (schema_refusal (schema_of (map bare_form ds))) ≡ code_of (schema_refusal (schema_of ds))
schema_code ds =
    sym (blank_code (schema_of (map bare_form ds)))
    ∙ ap (λ (s : Schema). code_of (schema_refusal s)) (blank_same ds)
    ∙ blank_code (schema_of ds)

-- definitions without their places are refused with the same code
bare_code : (ds : List TypeSystemForm) → code_of (refusal_of (map bare_form ds)) ≡ code_of (refusal_of ds)
bare_code ds =
    let es = map bare_form ds in
    ap code_of (or_assoc (coded 3 (repeated_line es)) (coded 4 (reserved_line es)) (schema_refusal (schema_of es)))
    ∙ code_more 3 (repeated_line es) (repeated_line ds) _ _ (repeated_bare ds) (λ l3 r3.
    code_more 4 (reserved_line es) (reserved_line ds) _ _ (reserved_bare ds) (λ l4 r4. schema_code ds))
    ∙ sym (ap code_of (or_assoc (coded 3 (repeated_line ds)) (coded 4 (reserved_line ds)) (schema_refusal (schema_of ds))))

pub places_are_free : WalksAreDecided → PlacesAreFree
places_are_free decided forms others shuffled =
    sym (bare_code forms) ∙ verdict_is_free decided (map bare_form forms) (map bare_form others) shuffled ∙ bare_code others
