-- The laws of whole documents.
use Rattle.std.proofs.Common.{◌≡◌, ◌≢◌, ℕ, zero, suc, ◌≤◌, ◌<◌, Bool, true, false, not, List, [], ◌∷◌, ◌++◌, length, Option, Some, None, refl, sym, ap, subst, ◌∙◌, append_assoc, append-nil, arith, inl, inr}
use Rattle.std.specs.Prelude.{codes, if◌then◌else◌}
use Rattle.gql_tokens.specs.Tokens.{Token, tokens_of}
use Rattle.gql_tokens.specs.Heads.{is_last}
use Rattle.gql_tokens.specs.declared.token.Kind.{Kind}
use Rattle.std.specs.Prelude.{nat_eq, Result, Ok, Err}
use Rattle.gql_documents.proofs.EndLaws.{is_ended, ended_text, left_some, end_alone}
use Rattle.gql_tokens.specs.declared.token.Kind.TheVariants as kind
use Rattle.gql_tokens.specs.declared.token.Place.{Place}
use Rattle.gql_model.specs.declared.executable.Operation.{Operation}
use Rattle.gql_model.specs.declared.executable.Fragment.{Fragment}
use Rattle.gql_model.specs.declared.type_system.TypeSystem.{TypeSystem}
use Rattle.gql_model.specs.declared.type_system.TypeSystemForm.{TypeSystemForm}
use Rattle.gql_model.specs.declared.type_system.ObjectDefinition.{ObjectDefinition}
use Rattle.gql_model.specs.declared.type_system.ObjectDefinition.{ObjectDefinition}
use Rattle.gql_model.specs.declared.document.Document.{Document}
use Rattle.gql_model.specs.declared.document.Definition.{Definition}
use Rattle.gql_model.specs.Sorts.{Sort, Mark, Word, rank, starts, mark, word}
use Rattle.gql_model.specs.Rules.{Rule, Made, Touch, last}
use Rattle.gql_model.specs.TypeSystems as grammar
use Rattle.gql_model.specs.TypeSystems.{CompositeRule, FormRule, TypeSystemRule}
use Rattle.gql_model.specs.Executables.{OperationRule, FragmentRule}
use Rattle.gql_model.specs.Documents.{of_operation, of_fragment, of_type_system, DefinitionRule, is_none_of, leaves_out_braces, takes_brace, goes_on_with, DefinitionsRule, Derives, IsDocument, IsFault}
use Rattle.gql_documents.specs.Parsing.{Outcome, Done, Fail, Parser, many, behind}
use Rattle.gql_documents.specs.Executables.{operation, fragment}
use Rattle.gql_documents.specs.TypeSystems.{schema, scalar, union, composite, field_definitions_if_any, object_type, interface, enumeration, enum_values_if_any, input_object, input_fields_if_any, directive_definition, form_from_union, form, type_system}
use Rattle.gql_documents.specs.Documents.{operation_start, type_system_start, definition_start, definition, definitions, ends, judged, whole, document_of, Answers}
use Rattle.gql_documents.proofs.SortLaws.{starts_apart, starts_less, or_left, or_right}
use Rattle.gql_documents.proofs.Laws.{IsDone, IsFail, Viable, Shape, Law, Lawful, first, done_rest, done_not_fail, law_seq, has_last, plain_append}
use Rattle.gql_documents.proofs.Manys.{Eats, eats_of}
use Rattle.gql_documents.proofs.Parts.{law_made, law_either, enters}
use Rattle.gql_documents.proofs.Forms.{law_fit, shape, law_word, law_behind, law_perhaps}
use Rattle.gql_documents.proofs.ValueLaws.{law_name}
use Rattle.gql_documents.proofs.SelectionLaws.{law_directives, directives_go}
use Rattle.gql_documents.proofs.ExecutableLaws.{law_operation, law_fragment}
use Rattle.gql_documents.proofs.TypeSystemLaws.{form_goes, law_implements_if_any, law_fields, law_enum_values, law_input_fields, law_composite, law_schema, law_scalar, law_object_type, law_interface, law_union, law_enum, law_input_object, law_directive_definition, law_description_if_any, law_form, law_type_system}
use Rattle.gql_documents.proofs.Ends.{Ends, brace, ends_closed, ends_braced, ends_seq, ends_made, ends_either, ends_here, ends_fit}
use Rattle.gql_documents.proofs.Touching.{Stopping, Quiet, touch_done, touch_fail, touch_complete}

abbrev Toks : Type 0
Toks = List Token

-- ---- definitions

law_definition : {n : ℕ} → Lawful n DefinitionRule DefinitionRule definition definition (shape definition_start form_goes)
unfolding definition
law_definition =
    law_fit (shape definition_start form_goes)
    (law_either (word (codes "fragment")) (law_made of_fragment law_fragment) (law_either operation_start (law_made of_operation law_operation) (law_made of_type_system law_type_system))) refl

-- what goes on behind a definition, braces aside
abbrev ends_goes : List Sort
ends_goes = Mark kind.At ∷ Mark kind.ParenOpen ∷ Word (codes "implements") ∷ Mark kind.Ampersand ∷ Mark kind.Equals ∷ Mark kind.Pipe ∷ []

made_closed : {A : Type 0} {f : A → TypeSystemForm} {R : Rule A} → ((a : A) → leaves_out_braces (f a) ≡ false) → (front : Toks) (d : TypeSystemForm) → Made f R front d → leaves_out_braces d ≡ false
made_closed h front d r = subst (λ (e : TypeSystemForm). leaves_out_braces e ≡ false) r.is (h r.of)

ends_schema : Ends grammar.SchemaRule schema leaves_out_braces []
ends_schema = ends_closed law_schema refl (λ front d r. subst (λ (e : TypeSystemForm). leaves_out_braces e ≡ false) r.is refl)

ends_scalar : Ends grammar.ScalarRule scalar leaves_out_braces directives_go
ends_scalar = ends_closed law_scalar refl (made_closed (λ a. refl))

ends_union : Ends grammar.UnionRule union leaves_out_braces (Mark kind.Equals ∷ Mark kind.Pipe ∷ directives_go)
ends_union = ends_closed law_union refl (made_closed (λ a. refl))

ends_directive : Ends grammar.DirectiveDefinitionRule directive_definition leaves_out_braces (mark kind.Pipe)
ends_directive = ends_closed law_directive_definition refl (made_closed (λ a. refl))

abbrev no_fields : ObjectDefinition → Bool
no_fields d = is_none_of d.fields

abbrev composite_ends : List Sort
composite_ends = Mark kind.At ∷ Mark kind.ParenOpen ∷ Word (codes "implements") ∷ Mark kind.Ampersand ∷ []

ends_composite : Ends CompositeRule composite no_fields composite_ends
unfolding composite field_definitions_if_any
ends_composite =
    ends_fit composite_ends refl (ends_made grammar.composite_of no_fields (λ a. refl)
    (ends_seq law_name (law_seq law_implements_if_any (law_seq (law_directives true) (law_perhaps brace law_fields))) refl refl refl
    (ends_seq law_implements_if_any (law_seq (law_directives true) (law_perhaps brace law_fields)) refl refl refl
    (ends_seq (law_directives true) (law_perhaps brace law_fields) refl refl refl (ends_braced law_fields)))))

ends_object : Ends grammar.ObjectTypeRule object_type leaves_out_braces composite_ends
unfolding object_type behind
ends_object = ends_fit composite_ends refl (ends_made grammar.object_form leaves_out_braces (λ a. refl) (ends_made last no_fields (λ a. refl) (ends_seq (law_word (codes "type")) law_composite refl refl refl ends_composite)))

ends_interface : Ends grammar.InterfaceRule interface leaves_out_braces composite_ends
unfolding interface behind
ends_interface = ends_fit composite_ends refl (ends_made grammar.interface_form leaves_out_braces (λ a. refl) (ends_made last no_fields (λ a. refl) (ends_seq (law_word (codes "interface")) law_composite refl refl refl ends_composite)))

ends_enum : Ends grammar.EnumRule enumeration leaves_out_braces directives_go
unfolding enumeration enum_values_if_any behind
ends_enum =
    ends_fit directives_go refl (ends_made grammar.enum_of leaves_out_braces (λ a. refl)
    (ends_made last (λ a. is_none_of a.1.1) (λ a. refl)
    (ends_seq (law_word (codes "enum")) (law_seq law_name (law_seq (law_directives true) (law_perhaps brace law_enum_values))) refl refl refl
    (ends_seq law_name (law_seq (law_directives true) (law_perhaps brace law_enum_values)) refl refl refl
    (ends_seq (law_directives true) (law_perhaps brace law_enum_values) refl refl refl (ends_braced law_enum_values))))))

ends_input : Ends grammar.InputObjectRule input_object leaves_out_braces directives_go
unfolding input_object input_fields_if_any behind
ends_input =
    ends_fit directives_go refl (ends_made grammar.input_object_of leaves_out_braces (λ a. refl)
    (ends_made last (λ a. is_none_of a.1.1) (λ a. refl)
    (ends_seq (law_word (codes "input")) (law_seq law_name (law_seq (law_directives true) (law_perhaps brace law_input_fields))) refl refl refl
    (ends_seq law_name (law_seq (law_directives true) (law_perhaps brace law_input_fields)) refl refl refl
    (ends_seq (law_directives true) (law_perhaps brace law_input_fields) refl refl refl (ends_braced law_input_fields))))))

ends_form : Ends FormRule form leaves_out_braces ends_goes
unfolding form form_from_union
ends_form =
    let directive_law = law_directive_definition in
    let input_law = law_either (word (codes "input")) law_input_object directive_law in
    let enum_law = law_either (word (codes "enum")) law_enum input_law in
    let union_law = law_either (word (codes "union")) law_union enum_law in
    let interface_law = law_either (word (codes "interface")) law_interface union_law in
    let object_law = law_either (word (codes "type")) law_object_type interface_law in
    let scalar_law = law_either (word (codes "scalar")) law_scalar object_law in
    ends_fit ends_goes refl (ends_either (word (codes "schema")) law_schema scalar_law refl refl refl refl refl refl ends_schema
    (ends_either (word (codes "scalar")) law_scalar object_law refl refl refl refl refl refl ends_scalar
    (ends_either (word (codes "type")) law_object_type interface_law refl refl refl refl refl refl ends_object
    (ends_either (word (codes "interface")) law_interface union_law refl refl refl refl refl refl ends_interface
    (ends_either (word (codes "union")) law_union enum_law refl refl refl refl refl refl ends_union
    (ends_either (word (codes "enum")) law_enum input_law refl refl refl refl refl refl ends_enum
    (ends_either (word (codes "input")) law_input_object directive_law refl refl refl refl refl refl ends_input ends_directive)))))))

ends_type_system : Ends TypeSystemRule type_system (λ d. leaves_out_braces d.form) ends_goes
unfolding type_system
ends_type_system =
    ends_fit ends_goes refl (ends_here (λ place. law_made (grammar.type_system_of place) (law_seq law_description_if_any law_form)) refl refl
    (λ place. ends_made (grammar.type_system_of place) (λ d. leaves_out_braces d.form) (λ a. refl) (ends_seq law_description_if_any law_form refl refl refl ends_form)))

ends_definition : Ends DefinitionRule definition takes_brace ends_goes
unfolding definition
ends_definition =
    let type_law = law_made of_type_system law_type_system in
    let operation_law = law_either operation_start (law_made of_operation law_operation) type_law in
    ends_fit ends_goes refl (ends_either (word (codes "fragment")) (law_made of_fragment law_fragment) operation_law refl refl refl refl refl refl
    (ends_closed (law_made of_fragment law_fragment) refl (λ front d r. subst (λ (e : Definition). takes_brace e ≡ false) r.is refl))
    (ends_either operation_start (law_made of_operation law_operation) type_law refl refl refl refl refl refl
    (ends_closed (law_made of_operation law_operation) refl (λ front d r. subst (λ (e : Definition). takes_brace e ≡ false) r.is refl))
    (ends_made of_type_system takes_brace (λ a. refl) ends_type_system)))

-- ---- the list of definitions

open_stops : (d : Definition) (b : Bool) (rest : Toks) → takes_brace d ≡ b → (takes_brace d ≡ true → starts brace rest ≡ false) → starts (goes_on_with d) rest ≡ false
open_stops d true rest e h = rw e (h e)
open_stops d false rest e h = rw e (none rest)
  where
    none : (ts : Toks) → starts [] ts ≡ false
    none [] = refl
    none (x ∷ ts) = refl

stops_open : (d : Definition) (rest : Toks) → starts (goes_on_with d) rest ≡ false → takes_brace d ≡ true → starts brace rest ≡ false
stops_open d rest s e = rw e at s

definition_law : Law 0 DefinitionRule DefinitionRule definition definition (shape definition_start form_goes)
definition_law = law_definition.law refl

stopping : Stopping DefinitionRule DefinitionRule definition_start definition goes_on_with
stopping = record {
  done = definition_law.exact.done;
  stops = λ ts d rest e. open_stops d (takes_brace d) rest refl (ends_definition.stops ts d rest e);
  fail = definition_law.exact.fail;
  sub = λ front d r. r;
  begins = λ front d rest r. enters definition_start (shape definition_start form_goes) front rest (definition_law.begins front d r) refl refl;
  eats = eats_of definition_law refl;
  ends = ends_goes;
  apart = λ rest s. starts_apart definition_start ends_goes rest refl s;
  complete = λ front d rest r none s. ends_definition.complete front d rest r none (stops_open d rest s);
}

pub eats_definition : Eats definition
eats_definition = eats_of definition_law refl

definitions_done : (ts : Toks) (all : List Definition) (rest : Toks) → definitions ts ≡ Done all rest → IsDone DefinitionsRule definitions ts all rest
unfolding definitions
definitions_done ts all rest e = touch_done DefinitionRule DefinitionRule definition_start definition goes_on_with stopping (length ts) ts (starts definition_start ts) (omega arith) refl all rest (definition ts) refl e

definitions_fail : (ts rest : Toks) → definitions ts ≡ Fail rest → IsFail DefinitionsRule definitions ts rest
unfolding definitions
definitions_fail ts rest e = touch_fail DefinitionRule DefinitionRule definition_start definition goes_on_with stopping (length ts) ts (starts definition_start ts) (omega arith) refl rest (definition ts) refl e

-- no definition takes this, nor does one begin with it
abbrev IsQuiet : Toks → Type 0
IsQuiet rest = Quiet definition_start ends_goes goes_on_with rest

definitions_before : (rest : Toks) → IsQuiet rest → (front : Toks) (all : List Definition) → DefinitionsRule front all → definitions (front ++ rest) ≡ Done all rest
unfolding definitions stopping
definitions_before rest q front all r = touch_complete DefinitionRule DefinitionRule definition_start definition goes_on_with stopping rest q front all r

no_brace_there : (d : Definition) (b : Bool) (rest : Toks) → takes_brace d ≡ b → starts brace rest ≡ false → starts (goes_on_with d) rest ≡ false
no_brace_there d b rest e h = open_stops d b rest e (λ _. h)

nothing_follows : IsQuiet []
nothing_follows = record { not_entered = refl; not_ended = refl; not_gone_on = λ d. no_brace_there d (takes_brace d) [] refl refl }

definitions_complete : (front : Toks) (all : List Definition) → DefinitionsRule front all → definitions front ≡ Done all []
definitions_complete front all r = ap definitions (sym (append-nil front)) ∙ definitions_before [] nothing_follows front all r

-- ---- documents

not_none : (d : Definition) (all : List Definition) → d ∷ all ≢ []
not_none d all e = absurd cc

-- a document
some_document : (front : Toks) → front ≡ [] → (more : Toks) × (document : Document) × Derives (front ++ more) document
some_document front e =
    let i = definition_law.some refl in
    (i.text, record { definitions = i.tree ∷ [] }, (not_none i.tree [], rw e (i.text, [], sym (append-nil i.text), i.rule, refl, refl)))

begun : (front more : Toks) (all : List Definition) → DefinitionsRule (front ++ more) all → (more : Toks) × (document : Document) × Derives (front ++ more) document
begun front more [] r = some_document front (nothing front more r)
  where
    nothing : (front more : Toks) → front ++ more ≡ [] → front ≡ []
    nothing [] more e = refl
    nothing (x ∷ front) more e = absurd cc
begun front more (d ∷ all) r = (more, record { definitions = d ∷ all }, (not_none d all, r))

pub failed_document : (ts : Toks) (fault : Token) (behind : Toks) → definitions ts ≡ Fail (fault ∷ behind) → IsFault ts fault.place
failed_document ts fault behind e =
    let f = definitions_fail ts (fault ∷ behind) e in
    record {
      front = f.front;
      fault = fault;
      behind = behind;
      whole = f.whole;
      at = refl;
      begins = elim f.viable [ inl n ↦ some_document f.front n | inr v ↦ begun f.front v.more v.tree v.rule ];
      stops = λ more document r. done_not_fail document.definitions [] (fault ∷ more) (sym (definitions_complete (f.front ++ fault ∷ more) document.definitions r.1) ∙ f.local (fault ∷ more) refl);
    }

-- where no document ends, the fault is behind the definitions
pub followed_document : (ts : Toks) (all : List Definition) (fault : Token) (behind : Toks) → definitions ts ≡ Done all (fault ∷ behind) → IsFault ts fault.place
followed_document ts all fault behind e =
    let d = definitions_done ts all (fault ∷ behind) e in
    record {
      front = d.front;
      fault = fault;
      behind = behind;
      whole = d.whole;
      at = refl;
      begins = begun d.front [] all (subst (λ (f : Toks). DefinitionsRule f all) (sym (append-nil d.front)) d.rule);
      stops = λ more document r. some_left fault more (done_rest all document.definitions (fault ∷ more) [] (sym (d.local (fault ∷ more) refl) ∙ definitions_complete (d.front ++ fault ∷ more) document.definitions r.1));
    }
  where
    some_left : (x : Token) (more : Toks) → x ∷ more ≡ [] → ⊥
    some_left x more e = absurd cc

definition_plain : (front : Toks) (all : List Definition) → DefinitionsRule front all → has_last front ≡ false
definition_plain front [] r = rw r refl
definition_plain front (d ∷ all) r = rw r.2 (plain_append r.0 r.1 (definition_law.plain r.0 d r.3) (definition_plain r.1 all r.5))

is_end : (k : Kind) → nat_eq (rank k) 18 ≡ true → k ≡ kind.End
is_end kind.End e = refl
is_end _ e = absurd cc

nothing_left : (text : List ℕ) (all : List Definition) → definitions (tokens_of text) ≡ Done all [] → ⊥
nothing_left text all e =
    let d = definitions_done (tokens_of text) all [] e in
    left_some d.front (definition_plain d.front all d.rule) (ap is_ended (sym d.whole) ∙ ended_text text)

-- ---- what the parser answers

abbrev IsJudged : List ℕ → Result Document Place → Type 0
IsJudged text (Ok document) = IsDocument text document
IsJudged text (Err place) = IsFault (tokens_of text) place

judge_whole : (text : List ℕ) (all : List Definition) (end : Token) (behind : Toks) (b : Bool) → ends (end ∷ behind) ≡ b → definitions (tokens_of text) ≡ Done all (end ∷ behind) → IsJudged text (whole all (end ∷ behind))
judge_whole text [] end behind b s e = followed_document (tokens_of text) [] end behind e
judge_whole text (d ∷ all) end behind false s e = rw s (followed_document (tokens_of text) (d ∷ all) end behind e)
judge_whole text (d ∷ all) end behind true s e =
    let done = definitions_done (tokens_of text) (d ∷ all) (end ∷ behind) e in
    let at_end : end.kind ≡ kind.End = is_end end.kind s in
    let alone : behind ≡ [] = end_alone done.front end behind (ap is_ended (sym done.whole) ∙ ended_text text) (ap is_last at_end) in
    let tokens : tokens_of text ≡ done.front ++ end ∷ [] = done.whole ∙ ap (λ (b : Toks). done.front ++ end ∷ b) alone in
    rw s (done.front, end, tokens, at_end, (not_none d all, done.rule))

fail_left : (text : List ℕ) → definitions (tokens_of text) ≡ Fail [] → ⊥
fail_left text e =
    let f = definitions_fail (tokens_of text) [] e in
    elim f.viable [
      | inl n ↦ left_some [] refl (ap is_ended (ap (λ (t : Toks). t ++ []) (sym n) ∙ sym f.whole) ∙ ended_text text)
      | inr v ↦ left_some f.front (front_plain f.front v.more (definition_plain (f.front ++ v.more) v.tree v.rule)) (ap is_ended (sym f.whole) ∙ ended_text text)
    ]
  where
    front_plain : (front more : Toks) → has_last (front ++ more) ≡ false → has_last front ≡ false
    front_plain [] more h = refl
    front_plain (x ∷ front) more h = rw (or_left (is_last x.kind) _ h) (front_plain front more (or_right (is_last x.kind) _ h))

judge : (text : List ℕ) (o : Outcome (List Definition)) → definitions (tokens_of text) ≡ o → IsJudged text (judged o)
judge text (Done all []) e = absurd (nothing_left text all e)
judge text (Done all (x ∷ behind)) e = judge_whole text all x behind (ends (x ∷ behind)) refl e
judge text (Fail []) e = absurd (fail_left text e)
judge text (Fail (x ∷ behind)) e = failed_document (tokens_of text) x behind e

judged_text : (text : List ℕ) → IsJudged text (document_of text)
unfolding document_of
judged_text text = judge text (definitions (tokens_of text)) refl

pub document_answers : (text : List ℕ) (document : Document) → document_of text ≡ Ok document → IsDocument text document
document_answers text document e = rw e at (judged_text text)

pub fault_answers : (text : List ℕ) (place : Place) → document_of text ≡ Err place → IsFault (tokens_of text) place
fault_answers text place e = rw e at (judged_text text)

-- ---- a document is read

end_follows : (end : Token) → end.kind ≡ kind.End → IsQuiet (end ∷ [])
end_follows end e =
    let at : (k : Kind) → Token = λ k. record { kind = k; text = end.text; place = end.place } in
    record {
      not_entered = subst (λ (k : Kind). starts definition_start (at k ∷ []) ≡ false) (sym e) refl;
      not_ended = subst (λ (k : Kind). starts ends_goes (at k ∷ []) ≡ false) (sym e) refl;
      not_gone_on = λ d. no_brace_there d (takes_brace d) (end ∷ []) refl (subst (λ (k : Kind). starts brace (at k ∷ []) ≡ false) (sym e) refl);
    }

whole_document : (all : List Definition) (end : Token) → all ≢ [] → end.kind ≡ kind.End → whole all (end ∷ []) ≡ Ok (record { definitions = all })
whole_document [] end some e = absurd (some refl)
whole_document (d ∷ all) end some e = rw e refl

pub document_found : (text : List ℕ) (document : Document) → IsDocument text document → document_of text ≡ Ok document
unfolding document_of
document_found text document d =
    let read : definitions (tokens_of text) ≡ Done document.definitions (d.1 ∷ []) = ap definitions d.2 ∙ definitions_before (d.1 ∷ []) (end_follows d.1 d.3) d.0 document.definitions d.4.1 in
    ap judged read ∙ whole_document document.definitions d.1 d.4.0 d.3
