-- Texts whose definitions are the same in another order.
use Rattle.std.proofs.Common.{◌≡◌, not, List, map, refl, sym, ap, ◌∙◌, subst₂, Option, Some, None, Result}
use Rattle.std.specs.List.Sorted.{IsPermutation}
use Rattle.gql_model.specs.declared.type_system.TypeSystemForm.{TypeSystemForm}
use Rattle.gql_model.specs.declared.type_system.TypeSystemForm.TheVariants as form
use Rattle.schema_text.specs.declared.error.Flaw.{Flaw}
use Rattle.gql_schema.specs.declared.error.Refusal.{Refusal}
use Rattle.gql_schema.specs.Ignored.{is_ignored, considered}
use Rattle.gql_schema.specs.Judged.{refusal_of}
use Rattle.gql_schema.specs.Texts.{unless_refused, schema_of_forms}
use Rattle.gql_printing.specs.Places.{bare_form}
use Rattle.digraph.specs.Laws.{WalksAreDecided}
use Rattle.schema_order.specs.Verdict.{code_of, code_in, TextsAreFree}
use Rattle.schema_order.proofs.BareVerdict.{places_are_free}
use Rattle.schema_order.proofs.FilterLaws.{filter_permuted, filter_mapped}

ignored_bare : (d : TypeSystemForm) → is_ignored (bare_form d) ≡ is_ignored d
ignored_bare (form.Schema d) = refl
ignored_bare (form.Scalar d) = refl
ignored_bare (form.Object d) = refl
ignored_bare (form.Interface d) = refl
ignored_bare (form.Union d) = refl
ignored_bare (form.Enum d) = refl
ignored_bare (form.Input d) = refl
ignored_bare (form.Directive d) = refl

considered_bare : (ds : List TypeSystemForm) → map bare_form (considered ds) ≡ considered (map bare_form ds)
considered_bare ds = filter_mapped (λ d. not (is_ignored d)) bare_form (λ d. ap not (ignored_bare d)) ds

considered_permuted : (ds es : List TypeSystemForm) → IsPermutation (map bare_form ds) (map bare_form es) → IsPermutation (map bare_form (considered ds)) (map bare_form (considered es))
considered_permuted ds es shuffled =
    subst₂ IsPermutation (sym (considered_bare ds)) (sym (considered_bare es))
    (filter_permuted (λ d. not (is_ignored d)) (map bare_form ds) (map bare_form es) shuffled)

told : (ds : List TypeSystemForm) (o : Option Refusal) → code_in (unless_refused ds o) ≡ code_of o
told ds None = refl
told ds (Some r) = refl

pub texts_are_free : WalksAreDecided → TextsAreFree
texts_are_free decided text other ds es first second shuffled =
    ap (λ (r : Result (List TypeSystemForm) Flaw). code_in (schema_of_forms r)) first
    ∙ told (considered ds) (refusal_of (considered ds))
    ∙ places_are_free decided (considered ds) (considered es) (considered_permuted ds es shuffled)
    ∙ sym (told (considered es) (refusal_of (considered es)))
    ∙ sym (ap (λ (r : Result (List TypeSystemForm) Flaw). code_in (schema_of_forms r)) second)
