-- Rows that stand for fields, and what they stand for once some are added.
use Rattle.std.proofs.Common.{◌≡◌, ℕ, ◌+◌, ◌<◌, ◌≤◌, List, [], ◌∷◌, ◌++◌, map, length, refl, ap, sym, subst, ◌∙◌, arith, append_assoc, append-nil, length-append, Bool, true, false, ◌||◌, ltb}
use Rattle.std.specs.Prelude.{Option, None, Some, slice_get}
use Rattle.std.specs.Option.{option_map_or}
use Rattle.std.specs.List.{list_any}
use Rattle.std.proofs.Math.ListN.{get_or-append}
use Rattle.std.proofs.Math.Seq.{get_or-append_seam}
use Rattle.std.proofs.lemmas.Option.{slice_get_within, slice_get-get_or}
use Rattle.std.proofs.lemmas.List.Folds.{list_any-append}
use borrow.Author.Tests.{ltb-true, ltb-false}
use Rattle.schema_model.specs.declared.schema.Schema.{Schema}
use Rattle.check_model.specs.FieldTypes.{Parent}
use Rattle.check_model.specs.Fields.{Placed, PlacedFields, beneath}
use Rattle.merge_rules.specs.declared.rows.Row.{Row}
use Rattle.merge_rules.specs.Rows.{above_path, above_parents, field_of_row, IsWithin, IsOrdered, Stands, under, Grown, Grows, Put}

-- ---- places in lists

-- the front of a joined list
pub front_get : {X : Type 0} (xs ys : List X) (i : ℕ) → i < length xs → slice_get (xs ++ ys) i ≡ slice_get xs i
front_get [] ys i within = absurd (omega arith)
front_get (x ∷ xs) ys i within =
    let longer : i < length ((x ∷ xs) ++ ys) = simp length-append (omega arith) in
    slice_get-get_or ((x ∷ xs) ++ ys) i x longer
    ∙ ap Some (get_or-append (x ∷ xs) ys x i within)
    ∙ sym (slice_get-get_or (x ∷ xs) i x within)

pub last_get : {X : Type 0} (xs : List X) (x : X) → slice_get (xs ++ x ∷ []) (length xs) ≡ Some x
last_get xs x =
    let longer : length xs < length (xs ++ x ∷ []) = simp length-append (omega arith) in
    slice_get-get_or (xs ++ x ∷ []) (length xs) x longer ∙ ap Some (get_or-append_seam xs x [] x)

pub within_more : (a : Option ℕ) (m n : ℕ) → m ≤ n → IsWithin a m → IsWithin a n
within_more None m n le within = tt
within_more (Some i) m n le within = omega arith

-- ---- what stays as it is

pub path_kept : (fs more : PlacedFields) (a : Option ℕ) → IsWithin a (length fs) → above_path (fs ++ more) a ≡ above_path fs a
path_kept fs more None within = refl
path_kept fs more (Some i) within = ap (λ o. option_map_or (λ f. f.path) o []) (front_get fs more i within)

pub parents_kept : (fs more : PlacedFields) (a : Option ℕ) → IsWithin a (length fs) → above_parents (fs ++ more) a ≡ above_parents fs a
parents_kept fs more None within = refl
parents_kept fs more (Some i) within = ap (λ o. option_map_or (λ f. f.parents) o []) (front_get fs more i within)

row_kept : (s : Schema) (fs more : PlacedFields) (r : Row) → IsWithin r.above (length fs) → field_of_row s (fs ++ more) r ≡ field_of_row s fs r
row_kept s fs more r within = λ i. record (field_of_row s fs r) {
  path = path_kept fs more r.above within i ++ r.key.now ∷ [];
  parents = parents_kept fs more r.above within i ++ r.parent ∷ [];
}

-- ---- one row more

pushed_field : (s : Schema) (rows : List Row) (fs : PlacedFields) (r : Row) → Stands s rows fs
    → (i : ℕ) (row : Row) (b : Bool) → ltb i (length rows) ≡ b → IsWithin r.above (length rows) → slice_get (rows ++ r ∷ []) i ≡ Some row
    → slice_get (fs ++ field_of_row s fs r ∷ []) i ≡ Some (field_of_row s (fs ++ field_of_row s fs r ∷ []) row)
pushed_field s rows fs r stands i row true lt within is =
    let below : i < length rows = ltb-true i (length rows) lt in
    let was : slice_get rows i ≡ Some row = sym (front_get rows (r ∷ []) i below) ∙ is in
    let inside : i < length fs = omega (arith, stands.long) in
    let earlier : IsWithin row.above (length fs) = within_more row.above i (length fs) (omega arith) (stands.earlier i row was) in
    front_get fs (field_of_row s fs r ∷ []) i inside
    ∙ stands.field i row was
    ∙ ap Some (sym (row_kept s fs (field_of_row s fs r ∷ []) row earlier))
pushed_field s rows fs r stands i row false lt within is =
    let above : length rows ≤ i = ltb-false i (length rows) lt in
    let below : i < length (rows ++ r ∷ []) = slice_get_within (rows ++ r ∷ []) i row is in
    let size : length (rows ++ r ∷ []) ≡ length rows + 1 = simp length-append in
    let last : i ≡ length rows = omega arith in
    let same : Some r ≡ Some row = sym (last_get rows r) ∙ ap (slice_get (rows ++ r ∷ [])) (sym last) ∙ is in
    let row_is : r ≡ row = cc in
    let inside : IsWithin r.above (length fs) = within_more r.above (length rows) (length fs) (omega (arith, stands.long)) within in
    ap (slice_get (fs ++ field_of_row s fs r ∷ [])) (last ∙ sym stands.long)
    ∙ last_get fs (field_of_row s fs r)
    ∙ ap Some (sym (row_kept s fs (field_of_row s fs r ∷ []) r inside))
    ∙ ap (λ q. Some (field_of_row s (fs ++ field_of_row s fs r ∷ []) q)) row_is

pushed_order : (rows : List Row) (r : Row) → IsOrdered rows → IsWithin r.above (length rows)
    → (i : ℕ) (row : Row) (b : Bool) → ltb i (length rows) ≡ b → slice_get (rows ++ r ∷ []) i ≡ Some row → IsWithin row.above i
pushed_order rows r ordered within i row true lt is =
    let below : i < length rows = ltb-true i (length rows) lt in
    ordered i row (sym (front_get rows (r ∷ []) i below) ∙ is)
pushed_order rows r ordered within i row false lt is =
    let above : length rows ≤ i = ltb-false i (length rows) lt in
    let below : i < length (rows ++ r ∷ []) = slice_get_within (rows ++ r ∷ []) i row is in
    let size : length (rows ++ r ∷ []) ≡ length rows + 1 = simp length-append in
    let last : i ≡ length rows = omega arith in
    let same : Some r ≡ Some row = sym (last_get rows r) ∙ ap (slice_get (rows ++ r ∷ [])) (sym last) ∙ is in
    let row_is : r ≡ row = cc in
    subst (λ (q : Row). IsWithin q.above i) row_is (subst (λ (n : ℕ). IsWithin r.above n) (sym last) within)

stands_pushed : (s : Schema) (rows : List Row) (fs : PlacedFields) (r : Row) → Stands s rows fs → IsWithin r.above (length rows)
    → Stands s (rows ++ r ∷ []) (fs ++ field_of_row s fs r ∷ [])
stands_pushed s rows fs r stands within = record {
  long = simp length-append (ap (λ n. n + 1) stands.long);
  field = λ i row is. pushed_field s rows fs r stands i row (ltb i (length rows)) refl within is;
  earlier = λ i row is. pushed_order rows r stands.earlier within i row (ltb i (length rows)) refl is;
}

-- ---- rows that are put in

or_false : (b : Bool) → b ≡ (b || false)
or_false true = refl
or_false false = refl

pub pushed : (s : Schema) (rows : List Row) (fs : PlacedFields) (r : Row) → Stands s rows fs → IsWithin r.above (length rows)
    → Put s (rows ++ r ∷ []) fs (field_of_row s fs r) (length rows)
pushed s rows fs r stands within = record {
  grown = record {
    more = field_of_row s fs r ∷ [];
    stands = stands_pushed s rows fs r stands within;
    same = λ test. list_any-append test fs (field_of_row s fs r ∷ []);
  };
  at = ap (slice_get (fs ++ field_of_row s fs r ∷ [])) (sym stands.long) ∙ last_get fs (field_of_row s fs r);
}

or_assoc : (a b c : Bool) → ((a || b) || c) ≡ (a || (b || c))
or_assoc true b c = refl
or_assoc false b c = refl

-- ---- fields one after another

pub map_joined : {X Y : Type 0} (f : X → Y) (xs ys : List X) → map f (xs ++ ys) ≡ map f xs ++ map f ys
map_joined f [] ys = refl
map_joined f (x ∷ xs) ys = ap (λ zs. f x ∷ zs) (map_joined f xs ys)

joined : (s : Schema) (rows : List Row) (fs xs ys : PlacedFields) (first : PlacedFields)
    → ((test : Placed → Bool) → list_any test (fs ++ first) ≡ (list_any test fs || list_any test xs))
    → Grown s rows (fs ++ first) ys → Grown s rows fs (xs ++ ys)
joined s rows fs xs ys first same then = record {
  more = first ++ then.more;
  stands = subst (λ (gs : PlacedFields). Stands s rows gs) (append_assoc fs first then.more) then.stands;
  same = λ test.
      ap (list_any test) (sym (append_assoc fs first then.more))
      ∙ then.same test
      ∙ ap (λ b. b || list_any test ys) (same test)
      ∙ or_assoc (list_any test fs) (list_any test xs) (list_any test ys)
      ∙ ap (λ b. list_any test fs || b) (sym (list_any-append test xs ys));
}

pub grows_none : (s : Schema) (rows : List Row) (above : Option ℕ) → Grows s rows rows above []
grows_none s rows above = λ fs stands. record {
  more = [];
  stands = subst (λ (gs : PlacedFields). Stands s rows gs) (sym (append-nil fs)) stands;
  same = λ test. ap (list_any test) (append-nil fs) ∙ or_false (list_any test fs);
}

pub grows_more : (s : Schema) (r0 r1 r2 : List Row) (above : Option ℕ) (xs ys : PlacedFields) → IsWithin above (length r0)
    → Grows s r0 r1 above xs → Grows s r1 r2 above ys → Grows s r0 r2 above (xs ++ ys)
grows_more s r0 r1 r2 above xs ys within first then = λ fs stands.
    let g : Grown s r1 fs (map (under (above_path fs above) (above_parents fs above)) xs) = first fs stands in
    let inside : IsWithin above (length fs) = subst (λ (n : ℕ). IsWithin above n) (sym stands.long) within in
    let h : Grown s r2 (fs ++ g.more) (map (under (above_path (fs ++ g.more) above) (above_parents (fs ++ g.more) above)) ys) = then (fs ++ g.more) g.stands in
    subst (λ (zs : PlacedFields). Grown s r2 fs zs) (sym (map_joined (under (above_path fs above) (above_parents fs above)) xs ys))
    (joined s r2 fs (map (under (above_path fs above) (above_parents fs above)) xs) (map (under (above_path fs above) (above_parents fs above)) ys) g.more g.same
    (subst (λ (p : List (List ℕ)). Grown s r2 (fs ++ g.more) (map (under p (above_parents fs above)) ys)) (path_kept fs g.more above inside)
    (subst (λ (ps : List Parent). Grown s r2 (fs ++ g.more) (map (under (above_path (fs ++ g.more) above) ps) ys)) (parents_kept fs g.more above inside) h)))

-- ---- a field, and what stands in its set

beneath_under : (p : List (List ℕ)) (c : List Parent) (key : List ℕ) (parent : Parent) (xs : PlacedFields)
    → map (under (p ++ key ∷ []) (c ++ parent ∷ [])) xs ≡ map (under p c) (map (beneath key parent) xs)
beneath_under p c key parent [] = refl
beneath_under p c key parent (x ∷ xs) =
    λ i. record x { path = append_assoc p (key ∷ []) x.path i; parents = append_assoc c (parent ∷ []) x.parents i }
    ∷ beneath_under p c key parent xs i

pub grows_alone : (s : Schema) (r0 r1 : List Row) (row : Row) (place : ℕ)
    → ((fs : PlacedFields) → Stands s r0 fs → Put s r1 fs (field_of_row s fs row) place)
    → Grows s r0 r1 row.above (field_of_row s [] (record row { above = None }) ∷ [])
grows_alone s r0 r1 row place put = λ fs stands. (put fs stands).grown

pub grows_below : (s : Schema) (r0 r1 r2 : List Row) (row : Row) (place : ℕ) (below : PlacedFields)
    → ((fs : PlacedFields) → Stands s r0 fs → Put s r1 fs (field_of_row s fs row) place)
    → Grows s r1 r2 (Some place) below
    → Grows s r0 r2 row.above (field_of_row s [] (record row { above = None }) ∷ map (beneath row.key.now row.parent) below)
grows_below s r0 r1 r2 row place below put then = λ fs stands.
    let q : Put s r1 fs (field_of_row s fs row) place = put fs stands in
    let h : Grown s r2 (fs ++ q.grown.more) (map (under (above_path (fs ++ q.grown.more) (Some place)) (above_parents (fs ++ q.grown.more) (Some place))) below) = then (fs ++ q.grown.more) q.grown.stands in
    let p : above_path (fs ++ q.grown.more) (Some place) ≡ (field_of_row s fs row).path = ap (λ (o : Option Placed). option_map_or (λ f. f.path) o []) q.at in
    let c : above_parents (fs ++ q.grown.more) (Some place) ≡ (field_of_row s fs row).parents = ap (λ (o : Option Placed). option_map_or (λ f. f.parents) o []) q.at in
    joined s r2 fs (field_of_row s fs row ∷ []) (map (under (above_path fs row.above) (above_parents fs row.above)) (map (beneath row.key.now row.parent) below)) q.grown.more q.grown.same
    (subst (λ (zs : PlacedFields). Grown s r2 (fs ++ q.grown.more) zs) (beneath_under (above_path fs row.above) (above_parents fs row.above) row.key.now row.parent below)
    (subst (λ (x : List (List ℕ)). Grown s r2 (fs ++ q.grown.more) (map (under x (field_of_row s fs row).parents) below)) p
    (subst (λ (y : List Parent). Grown s r2 (fs ++ q.grown.more) (map (under (above_path (fs ++ q.grown.more) (Some place)) y) below)) c h)))
