-- Behind each set that begins stands what begins in it.
use Rattle.std.proofs.Common.{◌≡◌, ℕ, zero, suc, ◌+◌, List, [], ◌∷◌, ◌++◌, Option, Some, None, length, refl, ap, sym, ◌∙◌, inl, inr, append_assoc, append-nil, length-append, subst}
use Rattle.std.specs.Prelude.{slice_get}
use Rattle.std.specs.List.{flat_map}
use Rattle.gql_model.specs.declared.selection.SelectionSet.{SelectionSet}
use Rattle.gql_model.specs.declared.selection.Selection.{Selection}
use Rattle.gql_model.specs.declared.selection.Field.{Field}
use Rattle.gql_model.specs.declared.document.Definition.{Definition}
use Rattle.gql_model.specs.declared.document.Document.{Document}
use Rattle.gql_numbering.specs.Parts.{selections_of, inner_set, as_field, set_of_definition}
use Rattle.gql_numbering.specs.Beginnings.{Beginning, OfSet, itself, beginnings_in, beginnings_in_optional, beginnings_at, beginnings_in_definition, beginnings_of, sets_among}
use Rattle.gql_numbering.proofs.Induction.{OfInner, OfEach, set_induction}
use Rattle.gql_numbering.proofs.BeginningLaws.{beginnings_in-set}
use Rattle.gql_numbering.proofs.Growth.{sets_among-append}
use Rattle.gql_numbering.proofs.Places.{slice_get-parts}

-- the set with this number among these, and what stands before and behind it and its inside
pub record Found (all : List Beginning) (number : ℕ) (set : SelectionSet) : Type 0 where
  pub before : List Beginning
  pub rest : List Beginning
  pub all_is : all ≡ before ++ (beginnings_in set ++ rest)
  pub number_is : length (sets_among before) ≡ number

abbrev pub Nested : List Beginning → Type 0
Nested all = (number : ℕ) (set : SelectionSet) → slice_get (sets_among all) number ≡ Some set → Found all number set

nested-append : (xs ys : List Beginning) → Nested xs → Nested ys → Nested (xs ++ ys)
nested-append xs ys f g number set e =
    elim (slice_get-parts (sets_among xs) (sets_among ys) number set (ap (λ (zs : List SelectionSet). slice_get zs number) (sym (sets_among-append xs ys)) ∙ e)) [
      | inl h ↦ (let found = f number set h in record {
        before = found.before;
        rest = found.rest ++ ys;
        all_is = ap (λ (zs : List Beginning). zs ++ ys) found.all_is ∙ append_assoc found.before _ ys ∙ ap (λ (zs : List Beginning). found.before ++ zs) (append_assoc (beginnings_in set) found.rest ys);
        number_is = found.number_is;
      })
      | inr h ↦ (let found = g h.0 set h.2 in record {
        before = xs ++ found.before;
        rest = found.rest;
        all_is = ap (λ (zs : List Beginning). xs ++ zs) found.all_is ∙ sym (append_assoc xs found.before _);
        number_is = ap length (sets_among-append xs found.before) ∙ length-append (sets_among xs) (sets_among found.before) ∙ ap (λ n. length (sets_among xs) + n) found.number_is ∙ sym h.1;
      })
    ]

nested-none : Nested []
nested-none number set e = absurd cc

nested-itself : (o : Option Field) → Nested (itself o)
nested-itself None = nested-none
nested-itself (Some field) = λ number set e. absurd cc

abbrev Inside : SelectionSet → Type 0
Inside set = Nested (beginnings_in set)

nested-optional : (o : Option SelectionSet) → OfInner Inside o → Nested (beginnings_in_optional o)
nested-optional None inside = nested-none
nested-optional (Some set) inside = inside

nested-selections : (xs : List Selection) → OfEach Inside xs → Nested (flat_map beginnings_at xs)
nested-selections [] each = nested-none
nested-selections (x ∷ xs) each = nested-append _ _ (nested-append _ _ (nested-itself (as_field x)) (nested-optional (inner_set x) each.0)) (nested-selections xs each.1)

-- the set itself stands first
nested-first : (set : SelectionSet) (inner : List Beginning) → beginnings_in set ≡ OfSet set ∷ inner → Nested inner → Nested (OfSet set ∷ inner)
nested-first set inner is f zero other e =
    let same : set ≡ other = cc in
    record {
      before = [];
      rest = [];
      all_is = subst (λ (s : SelectionSet). OfSet set ∷ inner ≡ beginnings_in s ++ []) same (sym (append-nil (beginnings_in set) ∙ is));
      number_is = refl;
    }
nested-first set inner is f (suc number) other e =
    let found = f number other e in
    record { before = OfSet set ∷ found.before; rest = found.rest; all_is = ap (λ (zs : List Beginning). OfSet set ∷ zs) found.all_is; number_is = ap suc found.number_is }

inside_level : (set : SelectionSet) → OfEach Inside (selections_of set) → Inside set
inside_level set each =
    subst Nested (sym (beginnings_in-set set)) (nested-first set (flat_map beginnings_at (selections_of set)) (beginnings_in-set set) (nested-selections (selections_of set) each))

nested-set : (set : SelectionSet) → Nested (beginnings_in set)
nested-set = set_induction Inside inside_level

nested-definition : (o : Option SelectionSet) → Nested (beginnings_in_optional o)
nested-definition None = nested-none
nested-definition (Some set) = nested-set set

nested-definitions : (ds : List Definition) → Nested (flat_map beginnings_in_definition ds)
nested-definitions [] = nested-none
nested-definitions (d ∷ ds) = nested-append _ _ (nested-definition (set_of_definition d)) (nested-definitions ds)

pub nested_document : (document : Document) → Nested (beginnings_of document)
nested_document document = nested-definitions document.definitions
