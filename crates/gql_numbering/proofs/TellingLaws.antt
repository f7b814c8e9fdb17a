-- The marks of a document tell the numbers of the fields and sets behind them.
use Rattle.std.proofs.Common.{◌≡◌, ◌+◌, List, [], ◌∷◌, ◌++◌, Option, Some, None, map, length, refl, ap, sym, ◌∙◌, arith, append_assoc, subst}
use Rattle.std.specs.Prelude.{slice_get}
use Rattle.std.specs.List.{flat_map}
use Rattle.gql_model.specs.declared.selection.SelectionSet.{SelectionSet}
use Rattle.gql_model.specs.declared.selection.Selection.{Selection}
use Rattle.gql_model.specs.declared.selection.Field.{Field}
use Rattle.gql_model.specs.declared.document.Definition.{Definition}
use Rattle.gql_numbering.specs.declared.mark.Mark.{Mark}
use Rattle.gql_numbering.specs.Parts.{selections_of, inner_set, as_field, set_of_definition}
use Rattle.gql_numbering.specs.Beginnings.{Beginning, OfSet, OfField, itself, beginnings_in_optional, beginnings_at, beginnings_in_definition, beginnings_of, sets_among, fields_among}
use Rattle.gql_numbering.specs.Marks.{front, behind, marks_before, marks_over}
use Rattle.gql_numbering.specs.Telling.{Tells, TellEach, MarksTell, TellDefinitions, DefinitionMarksTell}
use Rattle.gql_numbering.proofs.BeginningLaws.{beginnings_in-set}
use Rattle.gql_numbering.proofs.Growth.{sets_among-append, fields_among-append, behind-append, marks_over-append, length-marks_over, behind-none}
use Rattle.gql_numbering.proofs.Nested.{nested_document}
use Rattle.gql_numbering.proofs.Places.{slice_get-behind}

-- the mark is the one behind what stands before the rest
record At (all : List Beginning) (mark : Mark) (rest : List Beginning) : Type 0 where
  before : List Beginning
  all_is : all ≡ before ++ rest
  mark_is : mark ≡ behind front before

at_behind : (all : List Beginning) (mark : Mark) (xs ys : List Beginning) → At all mark (xs ++ ys) → At all (behind mark xs) ys
at_behind all mark xs ys at = record {
  before = at.before ++ xs;
  all_is = at.all_is ∙ sym (append_assoc at.before xs ys);
  mark_is = ap (λ (m : Mark). behind m xs) at.mark_is ∙ sym (behind-append front at.before xs);
}

set_at_mark : (all : List Beginning) (mark : Mark) (set : SelectionSet) (rest : List Beginning) → At all mark (OfSet set ∷ rest) → slice_get (sets_among all) mark.sets ≡ Some set
set_at_mark all mark set rest at =
    let counted : mark.sets ≡ 0 + length (sets_among at.before) = ap (λ (m : Mark). m.sets) at.mark_is in
    let place : mark.sets ≡ length (sets_among at.before) = omega arith in
    let sets : sets_among all ≡ sets_among at.before ++ set ∷ sets_among rest = ap sets_among at.all_is ∙ sets_among-append at.before (OfSet set ∷ rest) in
    ap (slice_get (sets_among all)) place ∙ ap (λ (zs : List SelectionSet). slice_get zs (length (sets_among at.before))) sets ∙ slice_get-behind (sets_among at.before) set (sets_among rest)

field_at_mark : (all : List Beginning) (mark : Mark) (field : Field) (rest : List Beginning) → At all mark (OfField field ∷ rest) → slice_get (fields_among all) mark.fields ≡ Some field
field_at_mark all mark field rest at =
    let counted : mark.fields ≡ 0 + length (fields_among at.before) = ap (λ (m : Mark). m.fields) at.mark_is in
    let place : mark.fields ≡ length (fields_among at.before) = omega arith in
    let fields : fields_among all ≡ fields_among at.before ++ field ∷ fields_among rest = ap fields_among at.all_is ∙ fields_among-append at.before (OfField field ∷ rest) in
    ap (slice_get (fields_among all)) place ∙ ap (λ (zs : List Field). slice_get zs (length (fields_among at.before))) fields ∙ slice_get-behind (fields_among at.before) field (fields_among rest)

-- a set stands first in what begins in it
set_first : (all : List Beginning) (mark : Mark) (o : Option SelectionSet) (set : SelectionSet) (rest : List Beginning) → At all mark (beginnings_in_optional o ++ rest) → o ≡ Some set → slice_get (sets_among all) mark.sets ≡ Some set
set_first all mark None set rest at e = absurd cc
set_first all mark (Some other) set rest at e =
    let same : other ≡ set = cc in
    let opened = subst (λ (zs : List Beginning). At all mark (zs ++ rest)) (beginnings_in-set other) at in
    set_at_mark all mark other _ opened ∙ ap Some same

field_first : (all : List Beginning) (mark : Mark) (o : Option Field) (field : Field) (rest : List Beginning) → At all mark (itself o ++ rest) → o ≡ Some field → slice_get (fields_among all) mark.fields ≡ Some field
field_first all mark None field rest at e = absurd cc
field_first all mark (Some other) field rest at e = let same : other ≡ field = cc in field_at_mark all mark other rest at ∙ ap Some same

no_set_itself : (o : Option Field) (mark : Mark) → (behind mark (itself o)).sets ≡ mark.sets
no_set_itself None mark = omega arith
no_set_itself (Some field) mark = omega arith

tells : (all : List Beginning) (mark : Mark) (x : Selection) (rest : List Beginning) → At all mark (beginnings_at x ++ rest) → Tells all mark x
tells all mark x rest at =
    let inner = beginnings_in_optional (inner_set x) in
    let parted = subst (λ (zs : List Beginning). At all mark zs) (append_assoc (itself (as_field x)) inner rest) at in
    record {
      field = λ field e. field_first all mark (as_field x) field (inner ++ rest) parted e;
      set = λ set e.
          ap (slice_get (sets_among all)) (sym (no_set_itself (as_field x) mark))
          ∙ set_first all (behind mark (itself (as_field x))) (inner_set x) set rest (at_behind all mark (itself (as_field x)) (inner ++ rest) parted) e;
    }

tell_each : (all : List Beginning) (mark : Mark) (xs : List Selection) (rest : List Beginning) → At all mark (flat_map beginnings_at xs ++ rest) → TellEach all (marks_before mark (map beginnings_at xs)) xs
tell_each all mark [] rest at = tt
tell_each all mark (x ∷ xs) rest at =
    let parted = subst (λ (zs : List Beginning). At all mark zs) (append_assoc (beginnings_at x) (flat_map beginnings_at xs) rest) at in
    (tells all mark x _ parted, tell_each all (behind mark (beginnings_at x)) xs rest (at_behind all mark (beginnings_at x) _ parted))

pub marks_tell : MarksTell
marks_tell document number set e =
    let all = beginnings_of document in
    let found = nested_document document number set e in
    let inner = flat_map beginnings_at (selections_of set) in
    let first = OfSet set ∷ [] in
    let mark = behind front found.before in
    let all_is : all ≡ found.before ++ (OfSet set ∷ (inner ++ found.rest)) = found.all_is ∙ ap (λ (zs : List Beginning). found.before ++ (zs ++ found.rest)) (beginnings_in-set set) in
    let at : At all mark (first ++ (inner ++ found.rest)) = record { before = found.before; all_is = all_is; mark_is = refl } in
    let marks = marks_before (behind mark first) (map beginnings_at (selections_of set)) in
    let over : marks_over front all ≡ marks_over front found.before ++ marks ∷ marks_over (behind mark first) (inner ++ found.rest) = ap (marks_over front) all_is ∙ marks_over-append front found.before _ in
    let place : number ≡ length (marks_over front found.before) = sym (length-marks_over front found.before ∙ found.number_is) in (
      marks,
      ap (slice_get (marks_over front all)) place ∙ ap (λ (zs : List (List Mark)). slice_get zs (length (marks_over front found.before))) over ∙ slice_get-behind (marks_over front found.before) marks _,
      tell_each all (behind mark first) (selections_of set) found.rest (at_behind all mark first (inner ++ found.rest) at),
    )

tell_definitions : (all : List Beginning) (mark : Mark) (ds : List Definition) → At all mark (flat_map beginnings_in_definition ds) → TellDefinitions all (marks_before mark (map beginnings_in_definition ds)) ds
tell_definitions all mark [] at = tt
tell_definitions all mark (d ∷ ds) at =
    (λ set e. set_first all mark (set_of_definition d) set _ at e, tell_definitions all (behind mark (beginnings_in_definition d)) ds (at_behind all mark (beginnings_in_definition d) _ at))

pub definition_marks_tell : DefinitionMarksTell
definition_marks_tell document =
    tell_definitions (beginnings_of document) front document.definitions (record { before = []; all_is = refl; mark_is = sym (behind-none front) })
