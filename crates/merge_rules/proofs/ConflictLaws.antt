-- A search for two fields that can't be merged.
use Rattle.std.proofs.Common.{◌≡◌, ℕ, ◌+◌, ◌<◌, ◌≤◌, List, [], ◌∷◌, map, length, drop, get_or, refl, ap, sym, ◌∙◌, arith, add-one, Bool, true, false, cond, ◌&&◌, ◌||◌}
use Rattle.std.specs.Prelude.{Option, None, Some, slice_get}
use Rattle.std.specs.Option.{option_map_or}
use Rattle.std.specs.List.{list_any}
use Rattle.std.proofs.Math.Seq.{drop-cons}
use Rattle.std.proofs.lemmas.List.{drop_all}
use Rattle.std.proofs.lemmas.Option.{slice_get-get_or}
use Rattle.schema_model.specs.declared.schema.Schema.{Schema}
use Rattle.check_model.proofs.ListLaws.{any_congr}
use Rattle.check_model.specs.Fields.{Placed, PlacedFields}
use Rattle.check_model.specs.MergeRules.{same_path, all_may_overlap, conflict, some_conflict}
use Rattle.merge_rules.specs.declared.rows.Row.{Row}
use Rattle.merge_rules.specs.Kin.{kin}
use Rattle.merge_rules.specs.Conflicts.{clash}
use Rattle.merge_rules.specs.Rows.{above_path, above_parents, field_of_row, Stands, under, Grown}

-- ---- searches by places

there_is : {X : Type 0} (xs : List X) (i : ℕ) → i < length xs → (x : X) × ((slice_get xs i ≡ Some x) × (drop i xs ≡ x ∷ drop (i + 1) xs))
there_is [] i within = absurd (omega arith)
there_is (x ∷ xs) i within = (
  get_or (x ∷ xs) i x,
  (
    slice_get-get_or (x ∷ xs) i x within,
    drop-cons (x ∷ xs) i x within ∙ ap (λ n. get_or (x ∷ xs) i x ∷ drop n (x ∷ xs)) (sym (add-one i)),
  ),
)

or_true : (b : Bool) → (true || b) ≡ true
or_true b = refl

pub passes : {X : Type 0} (t : X → Bool) (xs : List X) (i : ℕ) (r whole : Bool) → i < length xs → ((x : X) → slice_get xs i ≡ Some x → r ≡ t x) → r ≡ true
    → whole ≡ list_any t (drop i xs) → true ≡ whole
passes t xs i r whole within told passed so_far =
    let p : (x : _) × ((slice_get xs i ≡ Some x) × (drop i xs ≡ x ∷ drop (i + 1) xs)) = there_is xs i within in
    sym (so_far ∙ ap (list_any t) p.1.1 ∙ ap (λ b. b || list_any t (drop (i + 1) xs)) (sym (told p.0 p.1.0) ∙ passed))

pub goes_on : {X : Type 0} (t : X → Bool) (xs : List X) (i : ℕ) (r whole : Bool) → i < length xs → ((x : X) → slice_get xs i ≡ Some x → r ≡ t x) → r ≡ false
    → whole ≡ list_any t (drop i xs) → whole ≡ list_any t (drop (i + 1) xs)
goes_on t xs i r whole within told failed so_far =
    let p : (x : _) × ((slice_get xs i ≡ Some x) × (drop i xs ≡ x ∷ drop (i + 1) xs)) = there_is xs i within in
    so_far ∙ ap (list_any t) p.1.1 ∙ ap (λ b. b || list_any t (drop (i + 1) xs)) (sym (told p.0 p.1.0) ∙ failed)

pub none_passes : {X : Type 0} (t : X → Bool) (xs : List X) (i : ℕ) (whole : Bool) → length xs ≤ i → whole ≡ list_any t (drop i xs) → false ≡ whole
none_passes t xs i whole past so_far = sym (so_far ∙ ap (list_any t) (drop_all i xs past))

-- ---- two rows

front_case : (b m : Bool) (s : Schema) (x y : Row) → option_map_or (λ n. clash s x y n) (cond b (Some m) None) false ≡ (b && clash s x y m)
front_case true m s x y = refl
front_case false m s x y = refl

-- how two rows are related tells whether their fields can be merged
pub kin_tells : (s : Schema) (rows : List Row) (fs : PlacedFields) (i j : ℕ) (x y : Placed) (p q : Row) (k : Option Bool) → Stands s rows fs
    → slice_get rows i ≡ Some p → slice_get rows j ≡ Some q → slice_get fs i ≡ Some x → slice_get fs j ≡ Some y
    → k ≡ kin s fs (Some i) (Some j) → option_map_or (λ m. clash s p q m) k false ≡ conflict s x y
kin_tells s rows fs i j x y p q k stands p_is q_is x_is y_is k_is =
    let xp : Some x ≡ Some (field_of_row s fs p) = sym x_is ∙ stands.field i p p_is in
    let yq : Some y ≡ Some (field_of_row s fs q) = sym y_is ∙ stands.field j q q_is in
    let x_of : x ≡ field_of_row s fs p = cc in
    let y_of : y ≡ field_of_row s fs q = cc in
    ap (λ (o : Option Bool). option_map_or (λ m. clash s p q m) o false) k_is
    ∙ front_case (same_path (above_path fs (Some i)) (above_path fs (Some j))) (all_may_overlap s (above_parents fs (Some i)) (above_parents fs (Some j))) s p q
    ∙ ap (λ (o : Option Placed). same_path (option_map_or (λ f. f.path) o []) (above_path fs (Some j)) && clash s p q (all_may_overlap s (option_map_or (λ f. f.parents) o []) (above_parents fs (Some j)))) (stands.field i p p_is)
    ∙ ap (λ (o : Option Placed). same_path (field_of_row s fs p).path (option_map_or (λ f. f.path) o []) && clash s p q (all_may_overlap s (field_of_row s fs p).parents (option_map_or (λ f. f.parents) o []))) (stands.field j q q_is)
    ∙ ap (λ f. conflict s f (field_of_row s fs q)) (sym x_of)
    ∙ ap (conflict s x) (sym y_of)

-- ---- all fields of an operation

pub nothing_yet : (s : Schema) → Stands s [] []
nothing_yet s = record {
  long = refl;
  field = λ i row is. absurd (cc);
  earlier = λ i row is. absurd (cc);
}

as_they_are : (fs : PlacedFields) → map (under [] []) fs ≡ fs
as_they_are [] = refl
as_they_are (f ∷ fs) = ap (λ gs. f ∷ gs) (as_they_are fs)

-- rows that stand for the same fields show the same conflicts
pub shown : (s : Schema) (rows : List Row) (added : PlacedFields) (grown : Grown s rows [] (map (under [] []) added)) (r : Bool)
    → r ≡ some_conflict s grown.more → r ≡ some_conflict s added
shown s rows added grown r is =
    let same : (test : Placed → Bool) → list_any test grown.more ≡ list_any test added = λ test. grown.same test ∙ ap (list_any test) (as_they_are added) in
    is
    ∙ any_congr (λ a. list_any (conflict s a) grown.more) (λ a. list_any (conflict s a) added) grown.more (λ a. same (conflict s a))
    ∙ same (λ a. list_any (conflict s a) added)
