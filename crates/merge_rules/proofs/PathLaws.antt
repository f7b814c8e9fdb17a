-- Paths and chains of rows, compared from their ends.
use Rattle.std.proofs.Common.{◌≡◌, ℕ, zero, suc, ◌+◌, ◌*◌, ◌<◌, List, [], ◌∷◌, ◌++◌, length, get_or, refl, ap, sym, ◌∙◌, arith, length-append, Bool, true, false, ◌&&◌, bytes_eq, cond}
use Rattle.std.specs.Prelude.{Option, None, Some, slice_get}
use Rattle.std.specs.Option.{option_map, option_map_or}
use Rattle.std.proofs.lemmas.Option.{slice_get-get_or}
use Rattle.schema_model.specs.declared.schema.Schema.{Schema}
use Rattle.check_model.specs.FieldTypes.{Parent}
use Rattle.check_model.specs.Fields.{Placed, PlacedFields}
use Rattle.check_model.specs.MergeRules.{same_path, may_overlap, all_may_overlap}
use Rattle.merge_rules.specs.declared.rows.Row.{Row}
use Rattle.merge_rules.specs.Kin.{kin}
use Rattle.merge_rules.specs.Rows.{above_path, above_parents, field_of_row, IsWithin, Stands}
use Rattle.merge_rules.proofs.RowLaws.{within_more}

and_false : (b : Bool) → (b && false) ≡ false
and_false true = refl
and_false false = refl

and_assoc : (a b c : Bool) → (a && (b && c)) ≡ ((a && b) && c)
and_assoc true b c = refl
and_assoc false b c = refl

-- ---- the last key of each of two paths

none_last : (p : List (List ℕ)) (k : List ℕ) → same_path [] (p ++ k ∷ []) ≡ false
none_last [] k = refl
none_last (x ∷ p) k = refl

last_none : (p : List (List ℕ)) (k : List ℕ) → same_path (p ++ k ∷ []) [] ≡ false
last_none [] k = refl
last_none (x ∷ p) k = refl

and_true : (b : Bool) → (b && true) ≡ b
and_true true = refl
and_true false = refl

pub same_last : (p q : List (List ℕ)) (k l : List ℕ) → same_path (p ++ k ∷ []) (q ++ l ∷ []) ≡ (same_path p q && bytes_eq k l)
same_last [] [] k l = and_true (bytes_eq k l)
same_last [] (y ∷ q) k l = ap (λ b. bytes_eq k y && b) (none_last q l) ∙ and_false (bytes_eq k y)
same_last (x ∷ p) [] k l = ap (λ b. bytes_eq x l && b) (last_none p k) ∙ and_false (bytes_eq x l)
same_last (x ∷ p) (y ∷ q) k l = ap (λ b. bytes_eq x y && b) (same_last p q k l) ∙ and_assoc (bytes_eq x y) (same_path p q) (bytes_eq k l)

pub both_true : (a b : Bool) → (a && b) ≡ true → b ≡ true
both_true true b h = h
both_true false b h = absurd (cc)

pub same_length : (p q : List (List ℕ)) → same_path p q ≡ true → length p ≡ length q
same_length [] [] h = refl
same_length [] (y ∷ q) h = absurd (cc)
same_length (x ∷ p) [] h = absurd (cc)
same_length (x ∷ p) (y ∷ q) h = ap suc (same_length p q (both_true (bytes_eq x y) (same_path p q) h))

-- ---- the last type of each of two chains

pub overlap_last : (s : Schema) (c d : List Parent) (x y : Parent) → length c ≡ length d
    → all_may_overlap s (c ++ x ∷ []) (d ++ y ∷ []) ≡ (all_may_overlap s c d && may_overlap s x y)
overlap_last s [] [] x y long = and_true (may_overlap s x y)
overlap_last s [] (b ∷ d) x y long = absurd (cc)
overlap_last s (a ∷ c) [] x y long = absurd (cc)
overlap_last s (a ∷ c) (b ∷ d) x y long =
    let shorter : length c ≡ length d = omega arith in
    ap (λ t. may_overlap s a b && t) (overlap_last s c d x y shorter)
    ∙ and_assoc (may_overlap s a b) (all_may_overlap s c d) (may_overlap s x y)

-- ---- chains are as long as paths

even_row : (s : Schema) (fs : PlacedFields) (row : Row) → length (above_parents fs row.above) ≡ length (above_path fs row.above)
    → length (field_of_row s fs row).parents ≡ length (field_of_row s fs row).path
even_row s fs row even = simp length-append (ap (λ n. n + 1) even)

even_at : (s : Schema) (fs : PlacedFields) (place : ℕ) (row : Row) → slice_get fs place ≡ Some (field_of_row s fs row)
    → length (above_parents fs row.above) ≡ length (above_path fs row.above)
    → length (above_parents fs (Some place)) ≡ length (above_path fs (Some place))
even_at s fs place row is even =
    ap (λ (o : Option Placed). length (option_map_or (λ f. f.parents) o [])) is
    ∙ even_row s fs row even
    ∙ sym (ap (λ (o : Option Placed). length (option_map_or (λ f. f.path) o [])) is)

row_there : (rows : List Row) (i : ℕ) → i < length rows → (row : Row) × (slice_get rows i ≡ Some row)
row_there [] i within = absurd (omega arith)
row_there (x ∷ rows) i within = (get_or (x ∷ rows) i x, slice_get-get_or (x ∷ rows) i x within)

even_below : (s : Schema) (rows : List Row) (fs : PlacedFields) → Stands s rows fs → (n : ℕ) (a : Option ℕ) → IsWithin a n → IsWithin a (length rows)
    → length (above_parents fs a) ≡ length (above_path fs a)
even_below s rows fs stands n None low within = refl
even_below s rows fs stands zero (Some i) low within = absurd (omega arith)
even_below s rows fs stands (suc n) (Some i) low within =
    let row : Row = (row_there rows i within).0 in
    let is : slice_get rows i ≡ Some row = (row_there rows i within).1 in
    even_at s fs i row (stands.field i row is)
    (even_below s rows fs stands n row.above (within_more row.above i n (omega arith) (stands.earlier i row is))
    (within_more row.above i (length rows) (omega arith) (stands.earlier i row is)))

pub even : (s : Schema) (rows : List Row) (fs : PlacedFields) → Stands s rows fs → (a : Option ℕ) → IsWithin a (length rows)
    → length (above_parents fs a) ≡ length (above_path fs a)
even s rows fs stands a within = even_below s rows fs stands (length rows) a within within

-- ---- two rows

pub path_of : (s : Schema) (rows : List Row) (fs : PlacedFields) (i : ℕ) (row : Row) → Stands s rows fs → slice_get rows i ≡ Some row
    → above_path fs (Some i) ≡ above_path fs row.above ++ row.key.now ∷ []
path_of s rows fs i row stands is = ap (λ (o : Option Placed). option_map_or (λ f. f.path) o []) (stands.field i row is)

pub parents_of : (s : Schema) (rows : List Row) (fs : PlacedFields) (i : ℕ) (row : Row) → Stands s rows fs → slice_get rows i ≡ Some row
    → above_parents fs (Some i) ≡ above_parents fs row.above ++ row.parent ∷ []
parents_of s rows fs i row stands is = ap (λ (o : Option Placed). option_map_or (λ f. f.parents) o []) (stands.field i row is)

and_comm : (a b : Bool) → (a && b) ≡ (b && a)
and_comm true true = refl
and_comm true false = refl
and_comm false true = refl
and_comm false false = refl

-- two rows have one path where their keys are the same and those above have one path
pub share_rows : (s : Schema) (rows : List Row) (fs : PlacedFields) (i j : ℕ) (x y : Row) (above : Bool) → Stands s rows fs
    → slice_get rows i ≡ Some x → slice_get rows j ≡ Some y → above ≡ same_path (above_path fs x.above) (above_path fs y.above)
    → (bytes_eq x.key.now y.key.now && above) ≡ same_path (above_path fs (Some i)) (above_path fs (Some j))
share_rows s rows fs i j x y above stands x_is y_is is =
    and_comm (bytes_eq x.key.now y.key.now) above
    ∙ ap (λ b. b && bytes_eq x.key.now y.key.now) is
    ∙ sym (same_last (above_path fs x.above) (above_path fs y.above) x.key.now y.key.now)
    ∙ ap (λ p. same_path p (above_path fs y.above ++ y.key.now ∷ [])) (sym (path_of s rows fs i x stands x_is))
    ∙ ap (same_path (above_path fs (Some i))) (sym (path_of s rows fs j y stands y_is))

pub top_apart : (s : Schema) (rows : List Row) (fs : PlacedFields) (j : ℕ) → Stands s rows fs → j < length rows → false ≡ same_path [] (above_path fs (Some j))
top_apart s rows fs j stands within =
    let row : Row = (row_there rows j within).0 in
    let is : slice_get rows j ≡ Some row = (row_there rows j within).1 in
    sym (ap (same_path []) (path_of s rows fs j row stands is) ∙ none_last (above_path fs row.above) row.key.now)

pub apart_top : (s : Schema) (rows : List Row) (fs : PlacedFields) (i : ℕ) → Stands s rows fs → i < length rows → false ≡ same_path (above_path fs (Some i)) []
apart_top s rows fs i stands within =
    let row : Row = (row_there rows i within).0 in
    let is : slice_get rows i ≡ Some row = (row_there rows i within).1 in
    sym (ap (λ p. same_path p []) (path_of s rows fs i row stands is) ∙ last_none (above_path fs row.above) row.key.now)

pub front_true : (a b : Bool) → (a && b) ≡ true → a ≡ true
front_true true b h = refl
front_true false b h = absurd (cc)

-- those above two rows of one path have one path
pub above_shared : (s : Schema) (rows : List Row) (fs : PlacedFields) (i j : ℕ) (x y : Row) → Stands s rows fs
    → slice_get rows i ≡ Some x → slice_get rows j ≡ Some y → same_path (above_path fs (Some i)) (above_path fs (Some j)) ≡ true
    → same_path (above_path fs x.above) (above_path fs y.above) ≡ true
above_shared s rows fs i j x y stands x_is y_is shared =
    both_true (bytes_eq x.key.now y.key.now) (same_path (above_path fs x.above) (above_path fs y.above))
    (share_rows s rows fs i j x y (same_path (above_path fs x.above) (above_path fs y.above)) stands x_is y_is refl ∙ shared)

-- two rows of one path may meet where their types may overlap and those above may meet
pub meet_rows : (s : Schema) (rows : List Row) (fs : PlacedFields) (i j : ℕ) (x y : Row) (above : Bool) → Stands s rows fs
    → slice_get rows i ≡ Some x → slice_get rows j ≡ Some y → IsWithin x.above (length rows) → IsWithin y.above (length rows)
    → same_path (above_path fs (Some i)) (above_path fs (Some j)) ≡ true
    → above ≡ all_may_overlap s (above_parents fs x.above) (above_parents fs y.above)
    → (may_overlap s x.parent y.parent && above) ≡ all_may_overlap s (above_parents fs (Some i)) (above_parents fs (Some j))
meet_rows s rows fs i j x y above stands x_is y_is x_in y_in shared is =
    let long : length (above_parents fs x.above) ≡ length (above_parents fs y.above) =
    even s rows fs stands x.above x_in
    ∙ same_length (above_path fs x.above) (above_path fs y.above) (above_shared s rows fs i j x y stands x_is y_is shared)
    ∙ sym (even s rows fs stands y.above y_in) in
    and_comm (may_overlap s x.parent y.parent) above
    ∙ ap (λ b. b && may_overlap s x.parent y.parent) is
    ∙ sym (overlap_last s (above_parents fs x.above) (above_parents fs y.above) x.parent y.parent long)
    ∙ ap (λ c. all_may_overlap s c (above_parents fs y.above ++ y.parent ∷ [])) (sym (parents_of s rows fs i x stands x_is))
    ∙ ap (all_may_overlap s (above_parents fs (Some i))) (sym (parents_of s rows fs j y stands y_is))

-- ---- how two rows are related

pub kin_falls : (a : Option ℕ) (n : ℕ) → IsWithin a n → 2 * option_map_or (λ (i : ℕ). i + 1) a 0 < 2 * n + 1
kin_falls None n within = omega arith
kin_falls (Some i) n within = omega arith

none_where : (s : Schema) (fs : PlacedFields) (a b : Option ℕ) → same_path (above_path fs a) (above_path fs b) ≡ false → None ≡ kin s fs a b
none_where s fs a b apart = ap (λ t. cond t (Some (all_may_overlap s (above_parents fs a) (above_parents fs b))) None) (sym apart)

-- their keys differ
pub kin_apart : (s : Schema) (rows : List Row) (fs : PlacedFields) (i j : ℕ) (x y : Row) → Stands s rows fs
    → slice_get rows i ≡ Some x → slice_get rows j ≡ Some y → bytes_eq x.key.now y.key.now ≡ false → None ≡ kin s fs (Some i) (Some j)
kin_apart s rows fs i j x y stands x_is y_is differ =
    none_where s fs (Some i) (Some j)
    (sym (share_rows s rows fs i j x y (same_path (above_path fs x.above) (above_path fs y.above)) stands x_is y_is refl)
    ∙ ap (λ b. b && same_path (above_path fs x.above) (above_path fs y.above)) differ)

kin_case : (s : Schema) (rows : List Row) (fs : PlacedFields) (i j : ℕ) (x y : Row) (b : Bool) → Stands s rows fs
    → slice_get rows i ≡ Some x → slice_get rows j ≡ Some y → IsWithin x.above (length rows) → IsWithin y.above (length rows)
    → bytes_eq x.key.now y.key.now ≡ true → same_path (above_path fs x.above) (above_path fs y.above) ≡ b
    → option_map (λ m. m && may_overlap s x.parent y.parent) (cond b (Some (all_may_overlap s (above_parents fs x.above) (above_parents fs y.above))) None)
    ≡ kin s fs (Some i) (Some j)
kin_case s rows fs i j x y true stands x_is y_is x_in y_in keys shared =
    let whole : same_path (above_path fs (Some i)) (above_path fs (Some j)) ≡ true =
    sym (share_rows s rows fs i j x y true stands x_is y_is (sym shared)) ∙ ap (λ b. b && true) keys in
    ap Some (and_comm (all_may_overlap s (above_parents fs x.above) (above_parents fs y.above)) (may_overlap s x.parent y.parent)
    ∙ meet_rows s rows fs i j x y (all_may_overlap s (above_parents fs x.above) (above_parents fs y.above)) stands x_is y_is x_in y_in whole refl)
    ∙ ap (λ t. cond t (Some (all_may_overlap s (above_parents fs (Some i)) (above_parents fs (Some j)))) None) (sym whole)
kin_case s rows fs i j x y false stands x_is y_is x_in y_in keys shared =
    none_where s fs (Some i) (Some j)
    (sym (share_rows s rows fs i j x y false stands x_is y_is (sym shared)) ∙ and_false (bytes_eq x.key.now y.key.now))

-- their keys are the same
pub kin_step : (s : Schema) (rows : List Row) (fs : PlacedFields) (i j : ℕ) (x y : Row) (above r : Option Bool) → Stands s rows fs
    → slice_get rows i ≡ Some x → slice_get rows j ≡ Some y → IsWithin x.above (length rows) → IsWithin y.above (length rows)
    → bytes_eq x.key.now y.key.now ≡ true → above ≡ kin s fs x.above y.above → r ≡ option_map (λ m. m && may_overlap s x.parent y.parent) above
    → r ≡ kin s fs (Some i) (Some j)
kin_step s rows fs i j x y above r stands x_is y_is x_in y_in keys above_is made =
    made ∙ ap (λ (o : Option Bool). option_map (λ m. m && may_overlap s x.parent y.parent) o) above_is
    ∙ kin_case s rows fs i j x y (same_path (above_path fs x.above) (above_path fs y.above)) stands x_is y_is x_in y_in keys refl

pub kin_top : (s : Schema) (rows : List Row) (fs : PlacedFields) (j : ℕ) → Stands s rows fs → j < length rows → None ≡ kin s fs None (Some j)
kin_top s rows fs j stands within = none_where s fs None (Some j) (sym (top_apart s rows fs j stands within))

pub kin_below : (s : Schema) (rows : List Row) (fs : PlacedFields) (i : ℕ) → Stands s rows fs → i < length rows → None ≡ kin s fs (Some i) None
kin_below s rows fs i stands within = none_where s fs (Some i) None (sym (apart_top s rows fs i stands within))
