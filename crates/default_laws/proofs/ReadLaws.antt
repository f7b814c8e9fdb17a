-- What is known of a schema that a text gives.
use Rattle.std.proofs.Common.{◌≡◌, ℕ, ◌+◌, Bool, true, false, List, [], ◌∷◌, ◌++◌, map, refl, ap, ◌∙◌, subst, cond, bytes_eq}
use Rattle.std.specs.Prelude.{Option, None, Some, Ok, Err, Result, is_some, not, if◌then◌else◌}
use Rattle.std.specs.List.{AllByRecursion, fold, flat_map, position_from}
use Rattle.std.specs.Option.{option_or}
use Rattle.std.specs.Cmp.Lexicographic.{nat_list_eq_equiv}
use Rattle.text_types.specs.Names.{HasDistinctNames, Lacks}
use Rattle.text_types.proofs.NameLaws.{HasDistinctNames-push, HasDistinctNames-nil}
use Rattle.gql_model.specs.declared.type_system.TypeSystemForm.{TypeSystemForm}
use Rattle.gql_model.specs.declared.type_system.TypeSystemForm.TheVariants as definition
use Rattle.gql_model.specs.declared.type_system.InputDefinition.{InputDefinition}
use Rattle.schema_model.specs.declared.schema.Schema.{Schema}
use Rattle.schema_model.specs.declared.schema.InputValue.{InputValue}
use Rattle.schema_model.specs.Tables.{place_of, put, tabled}
use Rattle.schema_rules.specs.Lines.{earlier}
use Rattle.schema_rules.specs.Unknown.{unknown_line}
use Rattle.schema_rules.specs.Misplaced.{misplaced_line}
use Rattle.schema_rules.specs.Unsatisfied.{unsatisfied_line}
use Rattle.schema_rules.specs.Roots.{root_line}
use Rattle.schema_defaults.specs.Empty.{empty_line}
use Rattle.schema_defaults.specs.Defaults.{unfit_line}
use Rattle.schema_circles.specs.Needs.{needs_itself_line}
use Rattle.schema_circles.specs.Fillings.{fills_itself_line}
use Rattle.schema_text.specs.declared.error.Flaw.{Flaw}
use Rattle.schema_text.specs.Texts.{forms_of}
use Rattle.gql_schema.specs.declared.error.Refusal.{Refusal}
use Rattle.gql_schema.specs.Ignored.{scalars, is_ignored, considered}
use Rattle.gql_schema.specs.Meaning.{input_entry, type_entries, scalar_entry, types_of, schema_of}
use Rattle.gql_schema.specs.Judged.{coded, definitions_refusal, schema_refusal, invalid_line, circle_line, refusal_of}
use Rattle.gql_schema.specs.Texts.{unless_refused, schema_of_forms}
use Rattle.default_laws.specs.Constants.{is_constant_default}
use Rattle.default_laws.specs.Settling.{HasConstantDefaults, IsPlain, IsSettling, ReadSchemasSettle}
use Rattle.default_laws.proofs.GraphLaws.{neither_line}
use Rattle.default_laws.proofs.ConstantForms.{HasConstantDefault, IsConstantForm}
use Rattle.default_laws.proofs.ParseLaws.{text_constant}

-- ---- tables

lacks_case : {X : Type 0} (name : List ℕ) (i : ℕ) (p : List ℕ × X) (ps : List (List ℕ × X)) (b : Bool) → bytes_eq name p.0 ≡ b
    → (position_from (λ (q : List ℕ × X). bytes_eq name q.0) (i + 1) ps ≡ None → Lacks ps name)
    → cond b (Some i) (position_from (λ (q : List ℕ × X). bytes_eq name q.0) (i + 1) ps) ≡ None → Lacks (p ∷ ps) name
lacks_case name i p ps true is later none = absurd (cc)
lacks_case name i p ps false is later none = (nat_list_eq_equiv.symm p.0 name ∙ is, later none)

lacks_from : {X : Type 0} (name : List ℕ) (i : ℕ) (ps : List (List ℕ × X)) → position_from (λ (q : List ℕ × X). bytes_eq name q.0) i ps ≡ None → Lacks ps name
lacks_from name i [] none = tt
lacks_from name i (p ∷ ps) none = lacks_case name i p ps (bytes_eq name p.0) refl (lacks_from name (i + 1) ps) none

put_case : {X : Type 0} (Q : List (List ℕ × X) → Type 0) (ps : List (List ℕ × X)) (p : List ℕ × X) (o : Option ℕ) → place_of ps p.0 ≡ o → Q ps → (place_of ps p.0 ≡ None → Q (ps ++ p ∷ []))
    → Q (if is_some o then ps else ps ++ p ∷ [])
put_case Q ps p None is old new = new is
put_case Q ps p (Some k) is old new = old

distinct_puts : {X : Type 0} (qs ps : List (List ℕ × X)) → HasDistinctNames ps → HasDistinctNames (fold put ps qs)
distinct_puts [] ps distinct = distinct
distinct_puts (q ∷ qs) ps distinct =
    distinct_puts qs (put ps q)
    (put_case HasDistinctNames ps q (place_of ps q.0) refl distinct (λ none. HasDistinctNames-push ps q distinct (lacks_from q.0 0 ps none)))

pub tabled_distinct : {X : Type 0} (ps : List (List ℕ × X)) → HasDistinctNames (tabled ps)
tabled_distinct ps = distinct_puts ps [] HasDistinctNames-nil

all_joined : {X : Type 0} (P : X → Type 0) (xs ys : List X) → AllByRecursion P xs → AllByRecursion P ys → AllByRecursion P (xs ++ ys)
all_joined P [] ys first second = second
all_joined P (x ∷ xs) ys (here, more) second = (here, all_joined P xs ys more second)

all_puts : {X : Type 0} (P : List ℕ × X → Type 0) (qs ps : List (List ℕ × X)) → AllByRecursion P ps → AllByRecursion P qs → AllByRecursion P (fold put ps qs)
all_puts P [] ps all more = all
all_puts P (q ∷ qs) ps all (here, more) =
    all_puts P qs (put ps q) (put_case (AllByRecursion P) ps q (place_of ps q.0) refl all (λ none. all_joined P ps (q ∷ []) all (here, tt))) more

pub all_tabled : {X : Type 0} (P : List ℕ × X → Type 0) (qs : List (List ℕ × X)) → AllByRecursion P qs → AllByRecursion P (tabled qs)
all_tabled P qs all = all_puts P qs [] tt all

-- ---- types

constant_fields : (inputs : List InputDefinition) → AllByRecursion HasConstantDefault inputs → AllByRecursion (λ (f : List ℕ × InputValue). is_constant_default f.1.default ≡ true) (map input_entry inputs)
constant_fields [] all = tt
constant_fields (i ∷ inputs) (here, more) = (here, constant_fields inputs more)

no_fields : HasDistinctNames {X = InputValue} [] × HasConstantDefaults []
no_fields = (HasDistinctNames-nil, tt)

plain_entries : (f : TypeSystemForm) → IsConstantForm f → AllByRecursion IsPlain (type_entries f)
plain_entries (definition.Input d) constants =
    ((tabled_distinct (map input_entry d.fields), all_tabled (λ (f : List ℕ × InputValue). is_constant_default f.1.default ≡ true) (map input_entry d.fields) (constant_fields d.fields constants)), tt)
plain_entries (definition.Scalar d) constants = (no_fields, tt)
plain_entries (definition.Object d) constants = (no_fields, tt)
plain_entries (definition.Interface d) constants = (no_fields, tt)
plain_entries (definition.Union d) constants = (no_fields, tt)
plain_entries (definition.Enum d) constants = (no_fields, tt)
plain_entries (definition.Schema d) constants = tt
plain_entries (definition.Directive d) constants = tt

plain_scalars : (names : List (List ℕ)) → AllByRecursion IsPlain (map scalar_entry names)
plain_scalars [] = tt
plain_scalars (name ∷ names) = (no_fields, plain_scalars names)

plain_defined : (forms : List TypeSystemForm) → AllByRecursion IsConstantForm forms → AllByRecursion IsPlain (flat_map type_entries forms)
plain_defined [] all = tt
plain_defined (f ∷ forms) (here, more) = all_joined IsPlain (type_entries f) (flat_map type_entries forms) (plain_entries f here) (plain_defined forms more)

plain_types : (forms : List TypeSystemForm) → AllByRecursion IsConstantForm forms → AllByRecursion IsPlain (types_of forms)
plain_types forms all =
    all_tabled IsPlain (map scalar_entry scalars ++ flat_map type_entries forms)
    (all_joined IsPlain (map scalar_entry scalars) (flat_map type_entries forms) (plain_scalars scalars) (plain_defined forms all))

-- ---- what isn't refused

last_none : (a b : Option Refusal) → option_or a b ≡ None → b ≡ None
last_none None b e = e
last_none (Some r) b e = absurd (cc)

uncoded : (code : ℕ) (line : Option ℕ) → coded code line ≡ None → line ≡ None
uncoded code None e = refl
uncoded code (Some line) e = absurd (cc)

invalid_none : (schema : Schema) → schema_refusal schema ≡ None → invalid_line schema ≡ None
invalid_none schema e =
    uncoded 9 (invalid_line schema)
    (last_none (coded 8 (root_line schema)) (coded 9 (invalid_line schema))
    (last_none (coded 7 (unsatisfied_line schema)) _
    (last_none (coded 6 (misplaced_line schema)) _
    (last_none (coded 5 (unknown_line schema)) _ e))))

accepted_settles : (forms : List TypeSystemForm) → AllByRecursion IsConstantForm forms → refusal_of forms ≡ None → IsSettling (schema_of forms)
accepted_settles forms constants e =
    let schema = schema_of forms in
    let parts = neither_line (empty_line schema) (earlier (unfit_line schema) (circle_line schema)) (invalid_none schema (last_none (definitions_refusal forms) (schema_refusal schema) e)) in
    let circles = neither_line (unfit_line schema) (circle_line schema) parts.1 in
    record {
      types = tabled_distinct (map scalar_entry scalars ++ flat_map type_entries forms);
      plain = plain_types forms constants;
      filled = parts.0;
      circles = (neither_line (needs_itself_line schema) (fills_itself_line schema) circles.1).1;
    }

-- ---- texts

kept_case : (f : TypeSystemForm) (forms : List TypeSystemForm) (b : Bool) → IsConstantForm f → AllByRecursion IsConstantForm forms → AllByRecursion IsConstantForm (cond b (f ∷ forms) forms)
kept_case f forms true here more = (here, more)
kept_case f forms false here more = more

considered_constant : (forms : List TypeSystemForm) → AllByRecursion IsConstantForm forms → AllByRecursion IsConstantForm (considered forms)
considered_constant [] all = tt
considered_constant (f ∷ forms) (here, more) = kept_case f (considered forms) (not (is_ignored f)) here (considered_constant forms more)

abbrev schema_or : Schema → Result Schema Refusal → Schema
schema_or other (Ok schema) = schema
schema_or other (Err refusal) = other

refused_case : (forms : List TypeSystemForm) (refusal : Option Refusal) (schema : Schema) → refusal_of forms ≡ refusal → AllByRecursion IsConstantForm forms → unless_refused forms refusal ≡ Ok schema → IsSettling schema
refused_case forms None schema is constants e = subst IsSettling (ap (schema_or (schema_of forms)) e) (accepted_settles forms constants is)
refused_case forms (Some refusal) schema is constants e = absurd (cc)

forms_case : (read : Result (List TypeSystemForm) Flaw) (schema : Schema) → ((forms : List TypeSystemForm) → read ≡ Ok forms → AllByRecursion IsConstantForm forms) → schema_of_forms read ≡ Ok schema → IsSettling schema
forms_case (Ok forms) schema constants e =
    refused_case (considered forms) (refusal_of (considered forms)) schema refl (considered_constant forms (constants forms refl)) e
forms_case (Err flaw) schema constants e = absurd (cc)

pub read_schemas_settle : ReadSchemasSettle
read_schemas_settle text schema e = forms_case (forms_of text) schema (text_constant text) e
