-- The canonical text of a document derives it again, places aside.
use Rattle.std.proofs.Common.{◌≡◌, ℕ, Bool, true, false, List, [], ◌∷◌, ◌++◌, map, Option, Some, None, append-nil, refl, sym, ap, ap₂, subst, ◌∙◌}
use Rattle.std.proofs.lemmas.List.{map-append}
use Rattle.gql_tokens.specs.Tokens.{Token, tokens_of, end_at}
use Rattle.gql_tokens.specs.Places.{first_place}
use Rattle.gql_tokens.specs.declared.token.Kind.{Kind}
use Rattle.gql_tokens.specs.declared.token.Kind.TheVariants as kind
use Rattle.gql_tokens.proofs.Choices.{choice}
use Rattle.gql_spelling.specs.Spelling.{bare, StandApart, ArePrintable, spaced}
use Rattle.gql_spelling.proofs.Lexing.{lexes_again}
use Rattle.gql_spelling.proofs.Printable.{tokens_print}
use Rattle.gql_model.specs.declared.document.Document.{Document}
use Rattle.gql_model.specs.declared.document.Definition.{Definition}
use Rattle.gql_model.specs.declared.document.Definition.TheVariants as definition
use Rattle.gql_model.specs.declared.type_system.TypeSystemForm.{TypeSystemForm}
use Rattle.gql_model.specs.declared.type_system.TypeSystemForm.TheVariants as form
use Rattle.gql_model.specs.Sorts.{Sort, starts, mark}
use Rattle.gql_model.specs.Documents.{of_operation, of_fragment, of_type_system, DefinitionRule, is_none_of, leaves_out_braces, takes_brace, goes_on_with, DefinitionsRule, Derives, IsDocument}
use Rattle.gql_printing.specs.Tokens.{Toks, optional}
use Rattle.gql_printing.specs.TypeSystems.{description_tokens, form_tokens}
use Rattle.gql_printing.specs.Documents.{definition_tokens, lets_short_form_follow, definitions_tokens, document_tokens, canonical_text}
use Rattle.gql_printing.specs.Places.{bare_form, bare_definition, without_places}
use Rattle.gql_printing.specs.Laws.{CanonicalTextIsItsDocument}
use Rattle.gql_printing.proofs.Joining.{joins_nil, joins_append}
use Rattle.gql_printing.proofs.Again.{Again, Spells, bares, empty, single, cut, spelled_append, printable_left, printable_right, spells_as, spells_either}
use Rattle.gql_printing.proofs.Tokens.{bare_sorts}
use Rattle.gql_printing.proofs.ExecutableLaws.{spells_operation, spells_fragment}
use Rattle.gql_printing.proofs.TypeSystemLaws.{spells_type_system}

-- ---- one definition

spells_definition : (short : Bool) → Spells true DefinitionRule DefinitionRule bare_definition (definition_tokens short)
spells_definition short =
    spells_either (spells_as of_fragment bare_definition (definition_tokens short) of_fragment (λ d. refl) (λ d. refl) spells_fragment)
    (spells_either (spells_as of_operation bare_definition (definition_tokens short) of_operation (λ d. refl) (λ d. refl) (spells_operation short))
    (spells_as of_type_system bare_definition (definition_tokens short) of_type_system (λ d. refl) (λ d. refl) spells_type_system))

-- ---- a `{` is taken wherever it can be

abbrev brace : List Sort
brace = mark kind.BraceOpen

same_starts : (sorts : List Sort) (a b : Toks) → bares a ≡ bares b → starts sorts a ≡ starts sorts b
same_starts sorts [] [] e = refl
same_starts sorts [] (y ∷ b) e = absurd cc
same_starts sorts (x ∷ a) [] e = absurd cc
same_starts sorts (x ∷ a) (y ∷ b) e = let same : bare x ≡ bare y = cc in bare_sorts sorts x y same

form_starts : (f : TypeSystemForm) (rest : Toks) → starts brace (form_tokens f ++ rest) ≡ false
form_starts (form.Schema d) rest = refl
form_starts (form.Scalar d) rest = refl
form_starts (form.Object d) rest = refl
form_starts (form.Interface d) rest = refl
form_starts (form.Union d) rest = refl
form_starts (form.Enum d) rest = refl
form_starts (form.Input d) rest = refl
form_starts (form.Directive d) rest = refl

described_starts : (description : Option (List ℕ)) (f : TypeSystemForm) (rest : Toks) → starts brace ((optional description_tokens description ++ form_tokens f) ++ rest) ≡ false
described_starts None f rest = form_starts f rest
described_starts (Some text) f rest = refl

definition_starts : (d : Definition) (rest : Toks) → starts brace (definition_tokens false d ++ rest) ≡ false
definition_starts (definition.Operation d) rest = refl
definition_starts (definition.Fragment d) rest = refl
definition_starts (definition.TypeSystem d) rest = described_starts d.description d.form rest

-- behind a type system definition nothing begins with a `{`
no_brace_follows : (all : List Definition) → starts brace (definitions_tokens false all) ≡ false
no_brace_follows [] = refl
no_brace_follows (d ∷ all) = definition_starts d (definitions_tokens (lets_short_form_follow d) all)

none_start : (ts : Toks) → starts [] ts ≡ false
none_start [] = refl
none_start (x ∷ ts) = refl

same_none : {A B : Type 0} (f : A → B) (all : List A) → is_none_of (map f all) ≡ is_none_of all
same_none f [] = refl
same_none f (a ∷ all) = refl

same_braces : (f : TypeSystemForm) → leaves_out_braces (bare_form f) ≡ leaves_out_braces f
same_braces (form.Schema d) = refl
same_braces (form.Scalar d) = refl
same_braces (form.Object d) = same_none _ d.fields
same_braces (form.Interface d) = same_none _ d.fields
same_braces (form.Union d) = refl
same_braces (form.Enum d) = same_none _ d.values
same_braces (form.Input d) = same_none _ d.fields
same_braces (form.Directive d) = refl

same_brace : (d : Definition) → takes_brace (bare_definition d) ≡ takes_brace d
same_brace (definition.Operation d) = refl
same_brace (definition.Fragment d) = refl
same_brace (definition.TypeSystem d) = same_braces d.form

brace_is_last : (d : Definition) → takes_brace d ≡ true → lets_short_form_follow d ≡ false
brace_is_last (definition.Operation d) e = absurd cc
brace_is_last (definition.Fragment d) e = absurd cc
brace_is_last (definition.TypeSystem d) e = refl

stops : (d again : Definition) (all : List Definition) (ts : Toks) → bare_definition again ≡ bare_definition d → bares ts ≡ bares (definitions_tokens (lets_short_form_follow d) all) → starts (goes_on_with again) ts ≡ false
stops d again all ts same e =
    choice (λ (sorts : List Sort). starts sorts ts ≡ false) (takes_brace again) brace []
    (λ takes.
    let short = brace_is_last d (sym (same_brace d) ∙ ap takes_brace (sym same) ∙ same_brace again ∙ takes) in
    same_starts brace ts (definitions_tokens (lets_short_form_follow d) all) e ∙ ap (λ (s : Bool). starts brace (definitions_tokens s all)) short ∙ no_brace_follows all)
    (λ _. none_start ts)

-- ---- all definitions

spells_definitions : (short : Bool) (front : Toks) (all : List Definition) → DefinitionsRule front all → ArePrintable front → Again true DefinitionsRule (map bare_definition) (map bare_definition all) (definitions_tokens short all)
spells_definitions short front [] r h = record { again = λ ts e. ([], empty ts e, refl); spelled = tt; joins = joins_nil true }
spells_definitions short front (d ∷ all) r h =
    let parts = subst ArePrintable r.2 h in
    let one = (spells_definition short).law r.0 d r.3 (printable_left r.0 r.1 parts) in
    let others = spells_definitions (lets_short_form_follow d) r.1 all r.5 (printable_right r.0 r.1 parts) in
    let p = definition_tokens short d in
    let q = definitions_tokens (lets_short_form_follow d) all in
    record {
      again = λ ts e.
          let m = cut p q ts e in
          let x = one.again m.left m.first in
          let y = others.again m.right m.second in
          (x.0 ∷ y.0, (m.left, m.right, m.whole, x.1, stops d x.0 all m.right x.2 m.second, y.1), ap₂ (λ (b : Definition) (bs : List Definition). b ∷ bs) x.2 y.2);
      spelled = spelled_append p q one.spelled others.spelled;
      joins = joins_append true p q one.joins others.joins;
    }

-- ---- the canonical text

none_left : (all : List Definition) → map bare_definition all ≡ [] → all ≡ []
none_left [] e = refl
none_left (d ∷ all) e = absurd cc

end_token : Token
end_token = end_at first_place

-- what printable tokens derive is derived again by its canonical text, places aside
pub written_again : (front : Toks) (document : Document) → Derives front document → ArePrintable front
    → (again : Document) × IsDocument (canonical_text document) again × (without_places again ≡ without_places document)
unfolding end_token
written_again front document d h =
    let all = document.definitions in
    let written = document_tokens document in
    let a = spells_definitions true front all d.1 h in
    let apart : StandApart written = subst StandApart (append-nil written) (a.joins [] tt tt).0 in
    let lexed = lexes_again written a.spelled apart ∙ sym (map-append bare written (end_token ∷ [])) in
    let m = cut written (end_token ∷ []) (tokens_of (spaced written)) lexed in
    let one = single (kind.End, []) m.right m.second in
    let x = a.again m.left m.first in (
      record { definitions = x.0 },
      (m.left, one.0, m.whole ∙ ap (λ (r : Toks). m.left ++ r) one.1, ap (λ (k : Kind × List ℕ). k.0) one.2, (λ e. d.0 (none_left all (sym x.2 ∙ ap (map bare_definition) e)), x.1)),
      ap (λ (definitions : List Definition). record { definitions = definitions }) x.2,
    )

pub canonical_again : CanonicalTextIsItsDocument
canonical_again text document d = written_again d.0 document d.4 (printable_left d.0 (d.1 ∷ []) (subst ArePrintable d.2 (tokens_print text)))
