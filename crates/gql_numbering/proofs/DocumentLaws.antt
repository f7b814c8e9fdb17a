-- The numbering that the pass makes is that of the document.
use Rattle.std.proofs.Common.{◌≡◌, ℕ, ◌+◌, List, [], ◌∷◌, ◌++◌, Option, Some, None, map, length, refl, ap, sym, ◌∙◌, inl, inr, arith, append_assoc, append-nil, length-append, subst}
use Rattle.std.specs.Prelude.{slice_get, option_and_then}
use Rattle.std.specs.List.{flat_map}
use Rattle.std.proofs.lemmas.Option.{slice_get_cases, slice_get_past}
use Rattle.gql_model.specs.declared.selection.SelectionSet.{SelectionSet}
use Rattle.gql_model.specs.declared.selection.Field.{Field}
use Rattle.gql_model.specs.declared.document.Definition.{Definition}
use Rattle.gql_model.specs.declared.document.Document.{Document}
use Rattle.gql_numbering.specs.declared.mark.Mark.{Mark}
use Rattle.gql_numbering.specs.declared.mark.Home.{Home}
use Rattle.gql_numbering.specs.declared.mark.Home.TheVariants as home
use Rattle.gql_numbering.specs.declared.numbering.Numbering.{Numbering}
use Rattle.gql_numbering.specs.Parts.{set_of_definition}
use Rattle.gql_numbering.specs.Beginnings.{Beginning, beginnings_in_optional, beginnings_in_definition, sets_among, sets_of, fields_of}
use Rattle.gql_numbering.specs.Marks.{behind, marks_before, marks_over}
use Rattle.gql_numbering.specs.Numbers.{set_hanging, field_at, Numbers}
use Rattle.gql_numbering.specs.Numbered.{mark_in, numbered_optional, numbered_definition, numbered_definitions, empty, numbered}
use Rattle.gql_numbering.proofs.Growth.{Grows, IsEven, grows-none, grows-append, grows-set, even_grown}
use Rattle.gql_numbering.proofs.Places.{slice_get-behind}
use Rattle.gql_numbering.proofs.Sound.{Sound, Told, leads}

optional_grows : (o : Option SelectionSet) (here : Home) (t : Numbering) → IsEven t → Grows (beginnings_in_optional o) t (numbered_optional o here t)
optional_grows None here t even = grows-none t
optional_grows (Some set) here t even = grows-set set here t even

optional_told : (o : Option SelectionSet) (ds : List Definition) (xs : List Beginning) (here : Home) (t : Numbering)
    → Told ds xs t → set_hanging ds (sets_among xs) (length (sets_among xs)) (Some here) ≡ o → Told ds (xs ++ beginnings_in_optional o) (numbered_optional o here t)
optional_told None ds xs here t s e = subst (λ (ys : List Beginning). Told ds ys t) (sym (append-nil xs)) s
optional_told (Some set) ds xs here t s e = leads set ds xs here t s e

-- what numbering these definitions adds
record Defined (rest : List Definition) (t u : Numbering) : Type 0 where
  mark : mark_in u ≡ behind (mark_in t) (flat_map beginnings_in_definition rest)
  marks : u.marks ≡ t.marks ++ marks_over (mark_in t) (flat_map beginnings_in_definition rest)
  definitions : u.definitions ≡ t.definitions ++ marks_before (mark_in t) (map beginnings_in_definition rest)

defined : (rest : List Definition) (at : ℕ) (t : Numbering) → IsEven t → Defined rest t (numbered_definitions rest at t)
defined [] at t even = let g = grows-none t in record { mark = g.mark; marks = g.marks; definitions = sym (append-nil t.definitions) }
defined (d ∷ rest) at t even =
    let here : Numbering = record t { definitions = t.definitions ++ mark_in t ∷ [] } in
    let u = numbered_definition d at t in
    let g = optional_grows (set_of_definition d) (home.Definition at) here even in
    let along : Grows (beginnings_in_definition d) t (record u { definitions = t.definitions }) = record { mark = g.mark; marks = g.marks; definitions = refl } in
    let more = defined rest (at + 1) u (even_grown _ here u even g) in
    let v = numbered_definitions rest (at + 1) u in
    let beyond : Grows (flat_map beginnings_in_definition rest) (record u { definitions = t.definitions }) (record v { definitions = t.definitions }) = record { mark = more.mark; marks = more.marks; definitions = refl } in
    let both = grows-append _ _ t _ _ along beyond in
    record {
      mark = both.mark;
      marks = both.marks;
      definitions =
          more.definitions ∙ ap (λ (ms : List Mark). ms ++ marks_before (mark_in u) (map beginnings_in_definition rest)) g.definitions ∙ append_assoc t.definitions (mark_in t ∷ []) _
          ∙ ap (λ (m : Mark). t.definitions ++ mark_in t ∷ marks_before m (map beginnings_in_definition rest)) g.mark;
    }

told_definitions : (ds : List Definition) (before rest : List Definition) (at : ℕ) (xs : List Beginning) (t : Numbering)
    → Told ds xs t → ds ≡ before ++ rest → at ≡ length before → Told ds (xs ++ flat_map beginnings_in_definition rest) (numbered_definitions rest at t)
told_definitions ds before [] at xs t s e f = subst (λ (ys : List Beginning). Told ds ys t) (sym (append-nil xs)) s
told_definitions ds before (d ∷ rest) at xs t s e f =
    let here : Numbering = record t { definitions = t.definitions ++ mark_in t ∷ [] } in
    let same : Told ds xs here = record { set_count = s.set_count; field_count = s.field_count; homes = s.homes; spots = s.spots } in
    let hangs : set_hanging ds (sets_among xs) (length (sets_among xs)) (Some (home.Definition at)) ≡ set_of_definition d =
    ap (option_and_then set_of_definition) (ap (λ (zs : List Definition). slice_get zs at) e ∙ ap (slice_get (before ++ d ∷ rest)) f ∙ slice_get-behind before d rest) in
    let told = optional_told (set_of_definition d) ds xs (home.Definition at) here same hangs in
    let u = numbered_definition d at t in
    let done = told_definitions ds (before ++ d ∷ []) rest (at + 1) (xs ++ beginnings_in_definition d) u told (e ∙ sym (append_assoc before (d ∷ []) rest)) (ap (λ n. n + 1) f ∙ sym (length-append before (d ∷ []))) in
    subst (λ (ys : List Beginning). Told ds ys (numbered_definitions rest (at + 1) u)) (append_assoc xs _ _) done

nothing : (ds : List Definition) → Told ds [] empty
nothing ds = record { set_count = refl; field_count = refl; homes = λ n set e. absurd cc; spots = λ n f e. absurd cc }

homes_found : (ds : List Definition) (sets : List SelectionSet) (fields : List Field) (t : Numbering) → Sound ds sets fields t → (n : ℕ) → set_hanging ds sets n (slice_get t.homes n) ≡ slice_get sets n
homes_found ds sets fields t s n = elim (slice_get_cases sets n).1 [
  | inl h ↦ (let found = s.homes n h.0 h.2 in ap (set_hanging ds sets n) found.1 ∙ found.2 ∙ sym h.2)
  | inr h ↦ ap (set_hanging ds sets n) (slice_get_past t.homes n (omega (arith, s.set_count, h.0))) ∙ sym h.1
]

spots_found : (ds : List Definition) (sets : List SelectionSet) (fields : List Field) (t : Numbering) → Sound ds sets fields t → (n : ℕ) → field_at sets (slice_get t.spots n) ≡ slice_get fields n
spots_found ds sets fields t s n = elim (slice_get_cases fields n).1 [
  | inl h ↦ (let found = s.spots n h.0 h.2 in ap (field_at sets) found.1 ∙ found.2 ∙ sym h.2)
  | inr h ↦ ap (field_at sets) (slice_get_past t.spots n (omega (arith, s.field_count, h.0))) ∙ sym h.1
]

pub numbers_document : (document : Document) → Numbers (numbered document) document
numbers_document document =
    let ds = document.definitions in
    let told = told_definitions ds [] ds 0 [] empty (nothing ds) refl refl in
    let made = defined ds 0 empty refl in
    record {
      set_count = told.set_count;
      field_count = told.field_count;
      homes = homes_found ds (sets_of document) (fields_of document) (numbered document) told;
      spots = spots_found ds (sets_of document) (fields_of document) (numbered document) told;
      marks = made.marks;
      definitions = made.definitions;
    }
