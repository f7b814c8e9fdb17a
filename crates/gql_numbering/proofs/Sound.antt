-- What numbering a part keeps: each number leads to what has it.
use Rattle.std.proofs.Common.{◌≡◌, ℕ, ◌+◌, ◌<◌, Bool, true, false, List, [], ◌∷◌, ◌++◌, Option, Some, None, map, length, refl, ap, sym, ◌∙◌, inl, inr, append_assoc, append-nil, length-append, subst}
use Rattle.std.specs.Prelude.{slice_get, option_and_then, nat_lt, if◌then◌else◌}
use Rattle.std.specs.List.{flat_map}
use Rattle.std.proofs.lemmas.Option.{slice_get_within}
use Rattle.std.proofs.lemmas.Bool.{lt-ltb}
use Rattle.gql_model.specs.declared.selection.SelectionSet.{SelectionSet}
use Rattle.gql_model.specs.declared.selection.Selection.{Selection}
use Rattle.gql_model.specs.declared.selection.Field.{Field}
use Rattle.gql_model.specs.declared.document.Definition.{Definition}
use Rattle.gql_numbering.specs.declared.mark.Spot.{Spot}
use Rattle.gql_numbering.specs.declared.mark.Home.{Home}
use Rattle.gql_numbering.specs.declared.mark.Home.TheVariants as home
use Rattle.gql_numbering.specs.declared.numbering.Numbering.{Numbering}
use Rattle.gql_numbering.specs.Parts.{selections_of, inner_set, as_field}
use Rattle.gql_numbering.specs.Beginnings.{Beginning, OfSet, OfField, itself, beginnings_in, beginnings_in_optional, beginnings_at, sets_among, fields_among}
use Rattle.gql_numbering.specs.Numbers.{selection_at, field_at, set_hanging}
use Rattle.gql_numbering.specs.Numbered.{opened, with_field, Turn, through, numbered_set, numbered_selection, numbered_optional, mark_in}
use Rattle.gql_numbering.proofs.Induction.{OfInner, OfEach, set_induction}
use Rattle.gql_numbering.proofs.BeginningLaws.{beginnings_in-set}
use Rattle.gql_numbering.proofs.NumberedLaws.{standing, numbered_level, numbered_selection-at, numbered_set-level}
use Rattle.gql_numbering.proofs.Growth.{sets_among-append, fields_among-append}
use Rattle.gql_numbering.proofs.Places.{slice_get-append, slice_get-behind, slice_get-pushed, and_then_some}

-- a selection that is found stays where more sets come
selection_stays : (sets more : List SelectionSet) (spot : Spot) (x : Selection) → selection_at sets spot ≡ Some x → selection_at (sets ++ more) spot ≡ Some x
selection_stays sets more spot x e =
    let found = and_then_some (λ set. slice_get (selections_of set) spot.at) (slice_get sets spot.set) x e in
    ap (option_and_then (λ set. slice_get (selections_of set) spot.at)) (slice_get-append sets more spot.set found.0 found.1) ∙ found.2

field_stays : (sets more : List SelectionSet) (spot : Spot) (f : Field) → field_at sets (Some spot) ≡ Some f → field_at (sets ++ more) (Some spot) ≡ Some f
field_stays sets more spot f e =
    let found = and_then_some as_field (selection_at sets spot) f e in
    ap (option_and_then as_field) (selection_stays sets more spot found.0 found.1) ∙ found.2

inner_stays : (sets more : List SelectionSet) (spot : Spot) (lower : Bool) (set : SelectionSet)
    → (if lower then option_and_then inner_set (selection_at sets spot) else None) ≡ Some set → (if lower then option_and_then inner_set (selection_at (sets ++ more) spot) else None) ≡ Some set
inner_stays sets more spot true set e =
    let found = and_then_some inner_set (selection_at sets spot) set e in
    ap (option_and_then inner_set) (selection_stays sets more spot found.0 found.1) ∙ found.2
inner_stays sets more spot false set e = absurd cc

home_stays : (ds : List Definition) (sets more : List SelectionSet) (n : ℕ) (here : Home) (set : SelectionSet) → set_hanging ds sets n (Some here) ≡ Some set → set_hanging ds (sets ++ more) n (Some here) ≡ Some set
home_stays ds sets more n (home.Definition at) set e = e
home_stays ds sets more n (home.Selection spot) set e = inner_stays sets more spot (nat_lt spot.set n) set e

-- each number that was given leads to its set or field
pub record Sound (ds : List Definition) (sets : List SelectionSet) (fields : List Field) (t : Numbering) : Type 0 where
  pub set_count : length t.homes ≡ length sets
  pub field_count : length t.spots ≡ length fields
  pub homes : (n : ℕ) (set : SelectionSet) → slice_get sets n ≡ Some set → (here : Home) × (slice_get t.homes n ≡ Some here) × (set_hanging ds sets n (Some here) ≡ Some set)
  pub spots : (n : ℕ) (f : Field) → slice_get fields n ≡ Some f → (spot : Spot) × (slice_get t.spots n ≡ Some spot) × (field_at sets (Some spot) ≡ Some f)

sound_set : (ds : List Definition) (sets : List SelectionSet) (fields : List Field) (t : Numbering) (here : Home) (set : SelectionSet)
    → Sound ds sets fields t → set_hanging ds sets (length sets) (Some here) ≡ Some set → Sound ds (sets ++ set ∷ []) fields (opened here t)
sound_set ds sets fields t here set s e =
    record {
      set_count = length-append t.homes (here ∷ []) ∙ ap (λ n. n + 1) s.set_count ∙ sym (length-append sets (set ∷ []));
      field_count = s.field_count;
      homes = λ n y g. elim (slice_get-pushed sets set n y g) as (λ w. (x : Home) × (slice_get (t.homes ++ here ∷ []) n ≡ Some x) × (set_hanging ds (sets ++ set ∷ []) n (Some x) ≡ Some y)) [
        | inl h ↦ (let found = s.homes n y h in (found.0, slice_get-append t.homes (here ∷ []) n found.0 found.1, home_stays ds sets (set ∷ []) n found.0 y found.2))
        | inr h ↦
            (let place : n ≡ length t.homes = h.0 ∙ sym s.set_count in
            let hangs : set_hanging ds sets n (Some here) ≡ Some y = ap (λ k. set_hanging ds sets k (Some here)) h.0 ∙ e ∙ ap Some h.1 in
            (here, ap (slice_get (t.homes ++ here ∷ [])) place ∙ slice_get-behind t.homes here [], home_stays ds sets (set ∷ []) n here y hangs))
      ];
      spots = λ n f g. let found = s.spots n f g in (found.0, found.1, field_stays sets (set ∷ []) found.0 f found.2);
    }

sound_field : (ds : List Definition) (sets : List SelectionSet) (fields : List Field) (t : Numbering) (spot : Spot) (field : Field)
    → Sound ds sets fields t → field_at sets (Some spot) ≡ Some field → Sound ds sets (fields ++ field ∷ []) (with_field spot t)
sound_field ds sets fields t spot field s e =
    record {
      set_count = s.set_count;
      field_count = length-append t.spots (spot ∷ []) ∙ ap (λ n. n + 1) s.field_count ∙ sym (length-append fields (field ∷ []));
      homes = s.homes;
      spots = λ n y g. elim (slice_get-pushed fields field n y g) as (λ w. (x : Spot) × (slice_get (t.spots ++ spot ∷ []) n ≡ Some x) × (field_at sets (Some x) ≡ Some y)) [
        | inl h ↦ (let found = s.spots n y h in (found.0, slice_get-append t.spots (spot ∷ []) n found.0 found.1, found.2))
        | inr h ↦
            (let place : n ≡ length t.spots = h.0 ∙ sym s.field_count in
            (spot, ap (slice_get (t.spots ++ spot ∷ [])) place ∙ slice_get-behind t.spots spot [], e ∙ ap Some h.1))
      ];
    }

-- the same over what has begun
abbrev pub Told : List Definition → List Beginning → Numbering → Type 0
Told ds xs t = Sound ds (sets_among xs) (fields_among xs) t

told_along : (ds : List Definition) (xs : List Beginning) (t : Numbering) (sets : List SelectionSet) (fields : List Field) → sets ≡ sets_among xs → fields ≡ fields_among xs → Sound ds sets fields t → Told ds xs t
told_along ds xs t sets fields e f s = subst (λ (zs : List SelectionSet). Sound ds zs (fields_among xs) t) e (subst (λ (zs : List Field). Sound ds sets zs t) f s)

told_set : (ds : List Definition) (xs : List Beginning) (t : Numbering) (here : Home) (set : SelectionSet)
    → Told ds xs t → set_hanging ds (sets_among xs) (length (sets_among xs)) (Some here) ≡ Some set → Told ds (xs ++ OfSet set ∷ []) (opened here t)
told_set ds xs t here set s e =
    told_along ds (xs ++ OfSet set ∷ []) (opened here t) (sets_among xs ++ set ∷ []) (fields_among xs) (sym (sets_among-append xs (OfSet set ∷ []))) (sym (fields_among-append xs (OfSet set ∷ []) ∙ append-nil (fields_among xs)))
    (sound_set ds (sets_among xs) (fields_among xs) t here set s e)

told_field : (ds : List Definition) (xs : List Beginning) (t : Numbering) (spot : Spot) (field : Field)
    → Told ds xs t → field_at (sets_among xs) (Some spot) ≡ Some field → Told ds (xs ++ OfField field ∷ []) (with_field spot t)
told_field ds xs t spot field s e =
    told_along ds (xs ++ OfField field ∷ []) (with_field spot t) (sets_among xs) (fields_among xs ++ field ∷ []) (sym (sets_among-append xs (OfField field ∷ []) ∙ append-nil (sets_among xs))) (sym (fields_among-append xs (OfField field ∷ [])))
    (sound_field ds (sets_among xs) (fields_among xs) t spot field s e)

-- numbering the set where it hangs keeps what is told
abbrev Leads : SelectionSet → Type 0
Leads set = (ds : List Definition) (xs : List Beginning) (here : Home) (t : Numbering)
    → Told ds xs t → set_hanging ds (sets_among xs) (length (sets_among xs)) (Some here) ≡ Some set → Told ds (xs ++ beginnings_in set) (numbered_set set here t)

told_optional : (o : Option SelectionSet) → OfInner Leads o → (ds : List Definition) (xs : List Beginning) (here : Home) (t : Numbering)
    → Told ds xs t → set_hanging ds (sets_among xs) (length (sets_among xs)) (Some here) ≡ o → Told ds (xs ++ beginnings_in_optional o) (numbered_optional o here t)
told_optional None leads ds xs here t s e = subst (λ (ys : List Beginning). Told ds ys t) (sym (append-nil xs)) s
told_optional (Some set) leads ds xs here t s e = leads ds xs here t s e

told_standing : (o : Option Field) (ds : List Definition) (xs : List Beginning) (spot : Spot) (t : Numbering)
    → Told ds xs t → field_at (sets_among xs) (Some spot) ≡ o → Told ds (xs ++ itself o) (standing o spot t)
told_standing None ds xs spot t s e = subst (λ (ys : List Beginning). Told ds ys t) (sym (append-nil xs)) s
told_standing (Some field) ds xs spot t s e = told_field ds xs t spot field s e

-- what is found at the spot of a selection
inner_at : (sets : List SelectionSet) (spot : Spot) (x : Selection) (ds : List Definition) → selection_at sets spot ≡ Some x → spot.set < length sets → set_hanging ds sets (length sets) (Some (home.Selection spot)) ≡ inner_set x
inner_at sets spot x ds e lower = ap (λ (b : Bool). if b then option_and_then inner_set (selection_at sets spot) else None) (lt-ltb spot.set (length sets) lower) ∙ ap (option_and_then inner_set) e

spot_within : (sets : List SelectionSet) (spot : Spot) (x : Selection) → selection_at sets spot ≡ Some x → spot.set < length sets
spot_within sets spot x e =
    let found = and_then_some (λ set. slice_get (selections_of set) spot.at) (slice_get sets spot.set) x e in
    slice_get_within sets spot.set found.0 found.1

told_selection : (x : Selection) → OfInner Leads (inner_set x) → (ds : List Definition) (xs : List Beginning) (spot : Spot) (t : Numbering)
    → Told ds xs t → selection_at (sets_among xs) spot ≡ Some x → Told ds (xs ++ beginnings_at x) (numbered_selection x spot t)
told_selection x leads ds xs spot t s e =
    let ys = xs ++ itself (as_field x) in
    let mid = standing (as_field x) spot t in
    let told_mid = told_standing (as_field x) ds xs spot t s (ap (option_and_then as_field) e) in
    let more = sets_among (itself (as_field x)) in
    let still : selection_at (sets_among ys) spot ≡ Some x = ap (λ (zs : List SelectionSet). selection_at zs spot) (sets_among-append xs (itself (as_field x))) ∙ selection_stays (sets_among xs) more spot x e in
    let told = told_optional (inner_set x) leads ds ys (home.Selection spot) mid told_mid (inner_at (sets_among ys) spot x ds still (spot_within (sets_among ys) spot x still)) in
    subst (λ (zs : List Beginning). Told ds zs (numbered_selection x spot t)) (append_assoc xs _ _) (subst (λ (u : Numbering). Told ds (ys ++ beginnings_in_optional (inner_set x)) u) (sym (numbered_selection-at x spot t)) told)

told_through : (rest : List Selection) → OfEach Leads rest → (ds : List Definition) (xs : List Beginning) (set : SelectionSet) (number : ℕ) (front : List Selection) (at : ℕ) (turn : Turn)
    → Told ds xs turn.numbering → slice_get (sets_among xs) number ≡ Some set → selections_of set ≡ front ++ rest → at ≡ length front
    → Told ds (xs ++ flat_map beginnings_at rest) (through (map numbered_selection rest) number at turn).numbering
told_through [] each ds xs set number front at turn s e f g = subst (λ (ys : List Beginning). Told ds ys turn.numbering) (sym (append-nil xs)) s
told_through (x ∷ rest) each ds xs set number front at turn s e f g =
    let spot : Spot = record { set = number; at = at } in
    let here : selection_at (sets_among xs) spot ≡ Some x =
    ap (option_and_then (λ set. slice_get (selections_of set) at)) e ∙ ap (λ (zs : List Selection). slice_get zs at) f ∙ ap (slice_get (front ++ x ∷ rest)) g ∙ slice_get-behind front x rest in
    let ys = xs ++ beginnings_at x in
    let u = numbered_selection x spot turn.numbering in
    let told = told_selection x each.0 ds xs spot turn.numbering s here in
    let still : slice_get (sets_among ys) number ≡ Some set = ap (λ (zs : List SelectionSet). slice_get zs number) (sets_among-append xs (beginnings_at x)) ∙ slice_get-append (sets_among xs) _ number set e in
    let next : Turn = record { marks = turn.marks ++ mark_in turn.numbering ∷ []; numbering = u } in
    let done = told_through rest each.1 ds ys set number (front ++ x ∷ []) (at + 1) next told still (f ∙ sym (append_assoc front (x ∷ []) rest)) (ap (λ n. n + 1) g ∙ sym (length-append front (x ∷ []))) in
    subst (λ (zs : List Beginning). Told ds zs (through (map numbered_selection rest) number (at + 1) next).numbering) (append_assoc xs (beginnings_at x) (flat_map beginnings_at rest)) done

leads_level : (set : SelectionSet) → OfEach Leads (selections_of set) → Leads set
leads_level set each ds xs here t s e =
    let number = length t.homes in
    let ys = xs ++ OfSet set ∷ [] in
    let told = told_set ds xs t here set s e in
    let found : slice_get (sets_among ys) number ≡ Some set =
    ap (λ (zs : List SelectionSet). slice_get zs number) (sets_among-append xs (OfSet set ∷ [])) ∙ ap (slice_get (sets_among xs ++ set ∷ [])) s.set_count ∙ slice_get-behind (sets_among xs) set [] in
    let start : Turn = record { marks = []; numbering = opened here t } in
    let done = told_through (selections_of set) each ds ys set number [] 0 start told found refl refl in
    let inner = flat_map beginnings_at (selections_of set) in
    let closes : Told ds (ys ++ inner) (numbered_level set here t) = record { set_count = done.set_count; field_count = done.field_count; homes = done.homes; spots = done.spots } in
    let whole : ys ++ inner ≡ xs ++ beginnings_in set = append_assoc xs (OfSet set ∷ []) inner ∙ ap (λ (zs : List Beginning). xs ++ zs) (sym (beginnings_in-set set)) in
    subst (λ (zs : List Beginning). Told ds zs (numbered_set set here t)) whole (subst (λ (u : Numbering). Told ds (ys ++ inner) u) (sym (numbered_set-level set here t)) closes)

pub leads : (set : SelectionSet) (ds : List Definition) (xs : List Beginning) (here : Home) (t : Numbering)
    → Told ds xs t → set_hanging ds (sets_among xs) (length (sets_among xs)) (Some here) ≡ Some set → Told ds (xs ++ beginnings_in set) (numbered_set set here t)
leads = set_induction Leads leads_level
