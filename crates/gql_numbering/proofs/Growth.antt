-- What numbering adds: as many sets and fields as begin, and their marks.
use Rattle.std.proofs.Common.{◌≡◌, ℕ, suc, ◌+◌, List, [], ◌∷◌, ◌++◌, Option, Some, None, map, length, refl, ap, sym, ◌∙◌, arith, append_assoc, length-append, append-nil, subst}
use Rattle.std.specs.Prelude.{slice_set}
use Rattle.std.specs.List.{flat_map}
use Rattle.std.proofs.lemmas.List.{set_at}
use Rattle.gql_model.specs.declared.selection.SelectionSet.{SelectionSet}
use Rattle.gql_model.specs.declared.selection.Selection.{Selection}
use Rattle.gql_model.specs.declared.selection.Field.{Field}
use Rattle.gql_numbering.specs.declared.mark.Mark.{Mark}
use Rattle.gql_numbering.specs.declared.mark.Spot.{Spot}
use Rattle.gql_numbering.specs.declared.mark.Home.{Home}
use Rattle.gql_numbering.specs.declared.mark.Home.TheVariants as home
use Rattle.gql_numbering.specs.declared.numbering.Numbering.{Numbering}
use Rattle.gql_numbering.specs.Parts.{selections_of, inner_set, as_field}
use Rattle.gql_numbering.specs.Beginnings.{Beginning, OfSet, OfField, itself, beginnings_in, beginnings_in_optional, beginnings_at, sets_among, fields_among}
use Rattle.gql_numbering.specs.Marks.{behind, marks_before, marks_over}
use Rattle.gql_numbering.specs.Numbered.{mark_in, opened, Turn, through, numbered_set, numbered_selection, numbered_optional}
use Rattle.gql_numbering.proofs.Induction.{OfInner, OfEach, set_induction}
use Rattle.gql_numbering.proofs.BeginningLaws.{beginnings_in-set}
use Rattle.gql_numbering.proofs.NumberedLaws.{standing, numbered_level, numbered_selection-at, numbered_set-level}

pub sets_among-append : (xs ys : List Beginning) → sets_among (xs ++ ys) ≡ sets_among xs ++ sets_among ys
sets_among-append [] ys = refl
sets_among-append (OfSet s ∷ xs) ys = ap (λ (zs : List SelectionSet). s ∷ zs) (sets_among-append xs ys)
sets_among-append (OfField f ∷ xs) ys = sets_among-append xs ys

pub fields_among-append : (xs ys : List Beginning) → fields_among (xs ++ ys) ≡ fields_among xs ++ fields_among ys
fields_among-append [] ys = refl
fields_among-append (OfSet s ∷ xs) ys = fields_among-append xs ys
fields_among-append (OfField f ∷ xs) ys = ap (λ (zs : List Field). f ∷ zs) (fields_among-append xs ys)

set_count-append : (xs ys : List Beginning) → length (sets_among (xs ++ ys)) ≡ length (sets_among xs) + length (sets_among ys)
set_count-append xs ys = ap length (sets_among-append xs ys) ∙ length-append (sets_among xs) (sets_among ys)

field_count-append : (xs ys : List Beginning) → length (fields_among (xs ++ ys)) ≡ length (fields_among xs) + length (fields_among ys)
field_count-append xs ys = ap length (fields_among-append xs ys) ∙ length-append (fields_among xs) (fields_among ys)

mark_from : (a b c d : ℕ) → a ≡ b → c ≡ d → (let m : Mark = record { sets = a; fields = c } in m) ≡ record { sets = b; fields = d }
mark_from a b c d e f = cc

pub behind-append : (m : Mark) (xs ys : List Beginning) → behind m (xs ++ ys) ≡ behind (behind m xs) ys
behind-append m xs ys =
    let e : m.sets + length (sets_among (xs ++ ys)) ≡ m.sets + length (sets_among xs) + length (sets_among ys) = omega (arith, set_count-append xs ys) in
    let f : m.fields + length (fields_among (xs ++ ys)) ≡ m.fields + length (fields_among xs) + length (fields_among ys) = omega (arith, field_count-append xs ys) in
    mark_from _ _ _ _ e f

pub behind-none : (m : Mark) → behind m [] ≡ m
behind-none m =
    let e : m.sets + 0 ≡ m.sets = omega arith in
    let f : m.fields + 0 ≡ m.fields = omega arith in
    mark_from _ _ _ _ e f

pub marks_over-append : (m : Mark) (xs ys : List Beginning) → marks_over m (xs ++ ys) ≡ marks_over m xs ++ marks_over (behind m xs) ys
marks_over-append m [] ys = ap (λ (n : Mark). marks_over n ys) (sym (behind-none m))
marks_over-append m (OfSet s ∷ xs) ys =
    let n = behind m (OfSet s ∷ []) in
    ap (λ (rest : List (List Mark)). marks_before n (map beginnings_at (selections_of s)) ∷ rest) (marks_over-append n xs ys ∙ ap (λ (k : Mark). marks_over n xs ++ marks_over k ys) (sym (behind-append m (OfSet s ∷ []) xs)))
marks_over-append m (OfField f ∷ xs) ys =
    let n = behind m (OfField f ∷ []) in
    marks_over-append n xs ys ∙ ap (λ (k : Mark). marks_over n xs ++ marks_over k ys) (sym (behind-append m (OfField f ∷ []) xs))

pub length-marks_over : (m : Mark) (xs : List Beginning) → length (marks_over m xs) ≡ length (sets_among xs)
length-marks_over m [] = refl
length-marks_over m (OfSet s ∷ xs) = ap suc (length-marks_over (behind m (OfSet s ∷ [])) xs)
length-marks_over m (OfField f ∷ xs) = length-marks_over (behind m (OfField f ∷ [])) xs

-- the numbering u is t with these numbered
pub record Grows (xs : List Beginning) (t u : Numbering) : Type 0 where
  pub mark : mark_in u ≡ behind (mark_in t) xs
  pub marks : u.marks ≡ t.marks ++ marks_over (mark_in t) xs
  pub definitions : u.definitions ≡ t.definitions

-- each set has its place for marks
abbrev pub IsEven : Numbering → Type 0
IsEven t = length t.marks ≡ length t.homes

pub even_grown : (xs : List Beginning) (t u : Numbering) → IsEven t → Grows xs t u → IsEven u
even_grown xs t u even g =
    let homes : length u.homes ≡ length t.homes + length (sets_among xs) = ap (λ (m : Mark). m.sets) g.mark in
    let marks : length u.marks ≡ length t.marks + length (marks_over (mark_in t) xs) = ap length g.marks ∙ length-append t.marks (marks_over (mark_in t) xs) in
    omega (arith, length-marks_over (mark_in t) xs)

pub grows-none : (t : Numbering) → Grows [] t t
grows-none t = record { mark = sym (behind-none (mark_in t)); marks = sym (append-nil t.marks); definitions = refl }

pub grows-append : (xs ys : List Beginning) (t u v : Numbering) → Grows xs t u → Grows ys u v → Grows (xs ++ ys) t v
grows-append xs ys t u v g h = record {
  mark = h.mark ∙ ap (λ (m : Mark). behind m ys) g.mark ∙ sym (behind-append (mark_in t) xs ys);
  marks =
      h.marks ∙ ap (λ (ms : List (List Mark)). ms ++ marks_over (mark_in u) ys) g.marks ∙ ap (λ (m : Mark). (t.marks ++ marks_over (mark_in t) xs) ++ marks_over m ys) g.mark
      ∙ append_assoc t.marks _ _ ∙ ap (λ (ms : List (List Mark)). t.marks ++ ms) (sym (marks_over-append (mark_in t) xs ys));
  definitions = h.definitions ∙ g.definitions;
}

-- numbering the set adds what begins in it
abbrev Counted : SelectionSet → Type 0
Counted set = (here : Home) (t : Numbering) → IsEven t → Grows (beginnings_in set) t (numbered_set set here t)

pub grows-optional : (o : Option SelectionSet) → OfInner Counted o → (here : Home) (t : Numbering) → IsEven t → Grows (beginnings_in_optional o) t (numbered_optional o here t)
grows-optional None counted here t even = grows-none t
grows-optional (Some set) counted here t even = counted here t even

grows-standing : (o : Option Field) (spot : Spot) (t : Numbering) → Grows (itself o) t (standing o spot t)
grows-standing None spot t = grows-none t
grows-standing (Some field) spot t =
    let sets : length t.homes ≡ length t.homes + 0 = omega arith in
    record { mark = mark_from _ _ _ _ sets (length-append t.spots (spot ∷ [])); marks = sym (append-nil t.marks); definitions = refl }

grows-selection : (x : Selection) → OfInner Counted (inner_set x) → (spot : Spot) (t : Numbering) → IsEven t → Grows (beginnings_at x) t (numbered_selection x spot t)
grows-selection x counted spot t even =
    let mid = standing (as_field x) spot t in
    let g = grows-standing (as_field x) spot t in
    let h = grows-optional (inner_set x) counted (home.Selection spot) mid (even_grown _ t mid even g) in
    subst (λ (u : Numbering). Grows (beginnings_at x) t u) (sym (numbered_selection-at x spot t)) (grows-append _ _ t mid _ g h)

record Gone (xs : List Selection) (before after : Turn) : Type 0 where
  grows : Grows (flat_map beginnings_at xs) before.numbering after.numbering
  marks : after.marks ≡ before.marks ++ marks_before (mark_in before.numbering) (map beginnings_at xs)

gone-through : (xs : List Selection) → OfEach Counted xs → (k i : ℕ) (turn : Turn) → IsEven turn.numbering → Gone xs turn (through (map numbered_selection xs) k i turn)
gone-through [] counted k i turn even = record { grows = grows-none turn.numbering; marks = sym (append-nil turn.marks) }
gone-through (x ∷ xs) counted k i turn even =
    let t = turn.numbering in
    let u = numbered_selection x (record { set = k; at = i }) t in
    let g = grows-selection x counted.0 (record { set = k; at = i }) t even in
    let next : Turn = record { marks = turn.marks ++ mark_in t ∷ []; numbering = u } in
    let rest = gone-through xs counted.1 k (i + 1) next (even_grown _ t u even g) in
    record {
      grows = grows-append _ _ t u _ g rest.grows;
      marks = rest.marks ∙ append_assoc turn.marks (mark_in t ∷ []) _ ∙ ap (λ (m : Mark). turn.marks ++ mark_in t ∷ marks_before m (map beginnings_at xs)) g.mark;
    }

counted_level : (set : SelectionSet) → OfEach Counted (selections_of set) → Counted set
counted_level set each here t even =
    let k = length t.homes in
    let u = opened here t in
    let inner = flat_map beginnings_at (selections_of set) in
    let first = OfSet set ∷ [] in
    let even_u : IsEven u = length-append t.marks ([] ∷ []) ∙ ap (λ n. n + 1) even ∙ sym (length-append t.homes (here ∷ [])) in
    let fields : length t.spots ≡ length t.spots + 0 = omega arith in
    let mark_u : mark_in u ≡ behind (mark_in t) first = mark_from _ _ _ _ (length-append t.homes (here ∷ [])) fields in
    let start : Turn = record { marks = []; numbering = u } in
    let turn = through (map numbered_selection (selections_of set)) k 0 start in
    let go = gone-through (selections_of set) each k 0 start even_u in
    let places : turn.numbering.marks ≡ t.marks ++ [] ∷ marks_over (mark_in u) inner = go.grows.marks ∙ append_assoc t.marks ([] ∷ []) _ in
    let grows : Grows (OfSet set ∷ inner) t (numbered_level set here t) = record {
      mark = go.grows.mark ∙ ap (λ (m : Mark). behind m inner) mark_u ∙ sym (behind-append (mark_in t) first inner);
      marks =
          ap (λ (ms : List (List Mark)). slice_set ms k turn.marks) places ∙ set_at t.marks [] _ turn.marks k even
          ∙ ap (λ (ms : List Mark). t.marks ++ ms ∷ marks_over (mark_in u) inner) go.marks
          ∙ ap (λ (m : Mark). t.marks ++ marks_before m (map beginnings_at (selections_of set)) ∷ marks_over m inner) mark_u;
      definitions = go.grows.definitions;
    } in
    subst (λ (bs : List Beginning). Grows bs t (numbered_set set here t)) (sym (beginnings_in-set set)) (subst (λ (v : Numbering). Grows (OfSet set ∷ inner) t v) (sym (numbered_set-level set here t)) grows)

pub grows-set : (set : SelectionSet) (here : Home) (t : Numbering) → IsEven t → Grows (beginnings_in set) t (numbered_set set here t)
grows-set = set_induction Counted counted_level
