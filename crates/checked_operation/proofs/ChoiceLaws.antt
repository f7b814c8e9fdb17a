-- The operation that is chosen stands at the place that is chosen.
use Rattle.std.proofs.Common.{◌≡◌, ℕ, List, [], ◌∷◌, refl, ap, sym, subst, ◌∙◌, Bool, true, false, cond}
use Rattle.std.specs.Prelude.{Option, Some, None, is_some, is_none, slice_get}
use Rattle.std.specs.Option.{option_and_then}
use Rattle.std.specs.List.{find, flat_map}
use Rattle.std.proofs.lemmas.Iterator.Adapters.{position_from-zero}
use Rattle.gql_model.specs.declared.executable.Operation.{Operation}
use Rattle.gql_model.specs.declared.document.Document.{Document}
use Rattle.gql_model.specs.declared.document.Definition.{Definition}
use Rattle.gql_model.specs.declared.document.Definition.TheVariants as definition
use Rattle.schema_model.specs.declared.schema.Schema.{Schema}
use Rattle.check_model.specs.declared.refusal.Refusal.{Refusal}
use Rattle.check_model.specs.declared.refusal.Refusal.TheVariants.{UnknownOperation}
use Rattle.check_model.specs.Executables.{operation_in, operation_is, operations, only, chosen}
use Rattle.check_model.specs.Judgement.{refusal_of}
use Rattle.check_model.proofs.ListLaws.{find_place}
use Rattle.fragment_rules.specs.Choices.{as_operation}
use Rattle.execution_model.specs.Asked.{kind_in}
use Rattle.checked_operation.specs.Choice.{is_asked, chosen_place, operation_at}

found_case : (test : Operation → Bool) (o : Operation) (ds : List Definition) (b : Bool)
    → option_and_then as_operation (find (operation_is test) ds) ≡ find test (flat_map operation_in ds)
    → option_and_then as_operation (cond b (Some (definition.Operation o)) (find (operation_is test) ds)) ≡ cond b (Some o) (find test (flat_map operation_in ds))
found_case test o ds true is = refl
found_case test o ds false is = is

-- the first operation that passes a test, among all definitions
found_operation : (test : Operation → Bool) (ds : List Definition)
    → option_and_then as_operation (find (operation_is test) ds) ≡ find test (flat_map operation_in ds)
found_operation test [] = refl
found_operation test (definition.Operation o ∷ ds) = found_case test o ds (test o) (found_operation test ds)
found_operation test (definition.Fragment f ∷ ds) = found_operation test ds
found_operation test (definition.TypeSystem t ∷ ds) = found_operation test ds

-- an only operation is the first one
only_is_first : (os : List Operation) (o : Operation) → only os ≡ Some o → find (λ x. true) os ≡ Some o
only_is_first [] o is = absurd (cc)
only_is_first (x ∷ []) o is = is
only_is_first (x ∷ y ∷ more) o is = absurd (cc)

chosen_first : (document : Document) (name : Option (List ℕ)) (o : Operation) → chosen document name ≡ Some o → find (is_asked name) (operations document) ≡ Some o
chosen_first document None o is = only_is_first (operations document) o is
chosen_first document (Some n) o is = is

at_case : (document : Document) (place : Option ℕ)
    → option_and_then (operation_at document) place ≡ option_and_then as_operation (option_and_then (slice_get document.definitions) place)
at_case document None = refl
at_case document (Some k) = refl

-- the chosen operation is the definition at the chosen place
pub chosen_at : (document : Document) (name : Option (List ℕ)) (o : Operation) → chosen document name ≡ Some o → option_and_then (operation_at document) (chosen_place document name) ≡ Some o
chosen_at document name o is =
    at_case document (chosen_place document name)
    ∙ ap (λ (p : Option ℕ). option_and_then as_operation (option_and_then (slice_get document.definitions) p)) (position_from-zero (operation_is (is_asked name)) document.definitions)
    ∙ ap (λ (d : Option Definition). option_and_then as_operation d) (sym (find_place (operation_is (is_asked name)) document.definitions))
    ∙ found_operation (is_asked name) document.definitions
    ∙ chosen_first document name o is

-- ---- what isn't refused has a chosen operation

chosen_case : (o : Option Operation) (rest : Option Refusal) → cond (is_none o) (Some UnknownOperation) rest ≡ None → is_some o ≡ true
chosen_case None rest is = absurd (cc)
chosen_case (Some o) rest is = refl

place_case : (document : Document) (place : Option ℕ) (o : Option Operation) → is_some o ≡ true
    → ((x : Operation) → o ≡ Some x → option_and_then (operation_at document) place ≡ Some x)
    → is_some (option_and_then (operation_at document) place) ≡ true
place_case document place None is law = absurd (cc)
place_case document place (Some x) is law = ap is_some (law x refl)

-- there is an operation at the chosen place
pub unrefused_place : (schema : Schema) (document : Document) (name : Option (List ℕ)) → refusal_of schema document name ≡ None
    → is_some (option_and_then (operation_at document) (chosen_place document name)) ≡ true
unrefused_place schema document name is =
    place_case document (chosen_place document name) (chosen document name) (chosen_case (chosen document name) _ is) (chosen_at document name)

-- ---- the kind of an operation

pub kind_told : (d : Option Definition) (o : Operation) → Some o ≡ option_and_then as_operation d → Some o.kind ≡ option_and_then kind_in d
kind_told None o is = absurd (cc)
kind_told (Some (definition.Operation p)) o is =
    let same : o ≡ p = cc in
    subst (λ (x : Operation). Some o.kind ≡ Some x.kind) same refl
kind_told (Some (definition.Fragment f)) o is = absurd (cc)
kind_told (Some (definition.TypeSystem t)) o is = absurd (cc)
