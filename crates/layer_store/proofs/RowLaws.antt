-- The rows of some changes list their cells in order.
use Rattle.std.proofs.Common.{◌≡◌, ℕ, Bool, true, false, cond, ◌&&◌, List, [], ◌∷◌, ◌++◌, Option, Some, None, unwrap_or, refl, sym, ap, ◌∙◌}
use Rattle.std.specs.Prelude.{bytes_eq}
use Rattle.std.specs.Option.{option_or}
use Rattle.std.specs.declared.cmp.Ordering.TheVariants.{Less}
use Rattle.std.specs.Ordering.{ordering_then}
use Rattle.std.specs.List.{AllByRecursion}
use Rattle.std.specs.List.Sorted.{IsStrictlySortedBy}
use Rattle.std.specs.Map.{lookup, keys_of}
use Rattle.std.specs.BTreeMap.{get, is_at}
use Rattle.text_types.specs.Texts.{text_cmp}
use Rattle.cache_model.specs.declared.cell.Cell.{Cell}
use Rattle.cache_model.specs.Maps.{or_else}
use Rattle.cache_model.specs.Listing.{Row, cell_of_rows, place_cmp}
use Rattle.layer_store.specs.declared.fields.Fields.{Fields}
use Rattle.layer_store.specs.declared.changes.Changes.{Changes}
use Rattle.layer_store.specs.Layers.{gone_if, found_at, found_by}
use Rattle.layer_store.specs.Bases.{cell_of}
use Rattle.layer_store.specs.Rows.{row_of, rows_in, rows_by, AreOrdered}
use Rattle.layer_store.proofs.CellLaws.{text_equal, turned, no_later, sorted_rest}
use Rattle.layer_store.proofs.ListLaws.{all-append, sorted-append}

-- ---- in order

same_object : (e f g : List ℕ) → text_cmp f g ≡ Less → ordering_then (text_cmp e e) (text_cmp f g) ≡ Less
same_object e f g l = rw (text_equal e) l

later_object : (d e f g : List ℕ) → text_cmp d e ≡ Less → ordering_then (text_cmp d e) (text_cmp f g) ≡ Less
later_object d e f g l = rw l refl

rows_in_above : (e : List ℕ) (ps : List (List ℕ × Option Cell)) (f : List ℕ) (c : Cell) → AllByRecursion (λ (k : List ℕ). text_cmp f k ≡ Less) (keys_of ps) → AllByRecursion (λ (row : Row). place_cmp (e, f, c) row ≡ Less) (rows_in e ps)
rows_in_above e [] f c a = tt
rows_in_above e (p ∷ ps) f c a = go p.1 (rows_in_above e ps f c a.1)
  where
    go : (o : Option Cell) → AllByRecursion (λ (row : Row). place_cmp (e, f, c) row ≡ Less) (rows_in e ps) → AllByRecursion (λ (row : Row). place_cmp (e, f, c) row ≡ Less) (row_of e p.0 o ++ rows_in e ps)
    go None r = r
    go (Some d) r = (same_object e f p.0 a.0, r)

rows_in_sorted : (e : List ℕ) (ps : List (List ℕ × Option Cell)) → IsStrictlySortedBy text_cmp (keys_of ps) → IsStrictlySortedBy place_cmp (rows_in e ps)
unfolding IsStrictlySortedBy
rows_in_sorted e [] s = tt
rows_in_sorted e (p ∷ ps) s = go p.1 (rows_in_sorted e ps s.1)
  where
    go : (o : Option Cell) → IsStrictlySortedBy place_cmp (rows_in e ps) → IsStrictlySortedBy place_cmp (row_of e p.0 o ++ rows_in e ps)
    go None r = r
    go (Some c) r = (rows_in_above e ps p.0 c s.0, r)

rows_of_object : (e : List ℕ) (ps : List (List ℕ × Option Cell)) (P : Row → Type 0) → ((f : List ℕ) (c : Cell) → P (e, f, c)) → AllByRecursion P (rows_in e ps)
rows_of_object e [] P h = tt
rows_of_object e (p ∷ ps) P h = go p.1 (rows_of_object e ps P h)
  where
    go : (o : Option Cell) → AllByRecursion P (rows_in e ps) → AllByRecursion P (row_of e p.0 o ++ rows_in e ps)
    go None r = r
    go (Some c) r = (h p.0 c, r)

rows_by_above : (d f : List ℕ) (c : Cell) (es : List (List ℕ × Fields)) → AllByRecursion (λ (k : List ℕ). text_cmp d k ≡ Less) (keys_of es) → AllByRecursion (λ (row : Row). place_cmp (d, f, c) row ≡ Less) (rows_by es)
rows_by_above d f c [] a = tt
rows_by_above d f c (e ∷ es) a =
    all-append (λ (row : Row). place_cmp (d, f, c) row ≡ Less) (rows_in e.0 e.1.cells.entries) (rows_by es)
    (rows_of_object e.0 e.1.cells.entries (λ (row : Row). place_cmp (d, f, c) row ≡ Less) (λ g x. later_object d e.0 f g a.0)) (rows_by_above d f c es a.1)

pub rows_by_sorted : (es : List (List ℕ × Fields)) → AreOrdered es → IsStrictlySortedBy place_cmp (rows_by es)
unfolding IsStrictlySortedBy
rows_by_sorted [] o = tt
rows_by_sorted (e ∷ es) o =
    sorted-append place_cmp (rows_in e.0 e.1.cells.entries) (rows_by es) (rows_in_sorted e.0 e.1.cells.entries o.fields.0)
    (rows_by_sorted es (record { entities = o.entities.1; fields = o.fields.1 }))
    (rows_of_object e.0 e.1.cells.entries (λ (row : Row). AllByRecursion (λ (other : Row). place_cmp row other ≡ Less) (rows_by es)) (λ f c. rows_by_above e.0 f c es o.entities.0))

-- ---- the cells

or_nothing : (a : Option Cell) → option_or a None ≡ a
or_nothing (Some x) = refl
or_nothing None = refl

cell_of_rows-append : (xs ys : List Row) (e f : List ℕ) → cell_of_rows (xs ++ ys) e f ≡ option_or (cell_of_rows xs e f) (cell_of_rows ys e f)
cell_of_rows-append [] ys e f = refl
cell_of_rows-append (x ∷ xs) ys e f = go (bytes_eq x.0 e && bytes_eq x.1 f) (cell_of_rows-append xs ys e f)
  where
    go : (b : Bool) → cell_of_rows (xs ++ ys) e f ≡ option_or (cell_of_rows xs e f) (cell_of_rows ys e f)
        → cond b (Some x.2) (cell_of_rows (xs ++ ys) e f) ≡ option_or (cond b (Some x.2) (cell_of_rows xs e f)) (cell_of_rows ys e f)
    go true r = refl
    go false r = r

tombstone_found : (b t : Bool) (rest : Option Cell) (later : Option (Option Cell)) → (t ≡ true → later ≡ None) → rest ≡ cond b (cell_of later) None → rest ≡ cond b (cell_of (cond t (Some None) later)) None
tombstone_found b true rest later n r = r ∙ ap (λ (o : Option (Option Cell)). cond b (cell_of o) None) (n refl)
tombstone_found b false rest later n r = r

row_found : (b t : Bool) (c : Cell) (rest : Option Cell) (later : Option (Option Cell)) → rest ≡ cond b (cell_of later) None → cond (b && t) (Some c) rest ≡ cond b (cell_of (cond t (Some (Some c)) later)) None
row_found true true c rest later r = refl
row_found true false c rest later r = r
row_found false t c rest later r = r

nothing : (b : Bool) → None ≡ cond b (cell_of None) None
nothing true = refl
nothing false = refl

rows_in_found : (k : List ℕ) (ps : List (List ℕ × Option Cell)) (e f : List ℕ) → IsStrictlySortedBy text_cmp (keys_of ps) → cell_of_rows (rows_in k ps) e f ≡ cond (bytes_eq k e) (cell_of (lookup (is_at (text_cmp f)) ps)) None
rows_in_found k [] e f s = nothing (bytes_eq k e)
rows_in_found k (p ∷ ps) e f s = go p.1 (λ t. no_later p.0 f p.1 ps s t) (rows_in_found k ps e f (sorted_rest p.0 p.1 ps s))
  where
    go : (o : Option Cell) → (is_at (text_cmp f) p.0 ≡ true → lookup (is_at (text_cmp f)) ps ≡ None) → cell_of_rows (rows_in k ps) e f ≡ cond (bytes_eq k e) (cell_of (lookup (is_at (text_cmp f)) ps)) None
        → cell_of_rows (row_of k p.0 o ++ rows_in k ps) e f ≡ cond (bytes_eq k e) (cell_of (cond (is_at (text_cmp f) p.0) (Some o) (lookup (is_at (text_cmp f)) ps))) None
    go None n r = tombstone_found (bytes_eq k e) (is_at (text_cmp f) p.0) (cell_of_rows (rows_in k ps) e f) (lookup (is_at (text_cmp f)) ps) n r
    go (Some c) n r =
        ap (λ (t : Bool). cond (bytes_eq k e && t) (Some c) (cell_of_rows (rows_in k ps) e f)) (sym (turned f p.0))
        ∙ row_found (bytes_eq k e) (is_at (text_cmp f) p.0) c (cell_of_rows (rows_in k ps) e f) (lookup (is_at (text_cmp f)) ps) r

-- the cell that is kept of an object's field
abbrev pub own_cell : Option Fields → List ℕ → Option Cell
own_cell None f = None
own_cell (Some fields) f = cell_of (get text_cmp fields.cells f)

object_found : (t : Bool) (f : List ℕ) (fields : Fields) (rest : Option Fields) → (t ≡ true → rest ≡ None) → option_or (cond t (cell_of (get text_cmp fields.cells f)) None) (own_cell rest f) ≡ own_cell (cond t (Some fields) rest) f
object_found true f fields rest n = rw (n refl) (or_nothing (cell_of (get text_cmp fields.cells f)))
object_found false f fields rest n = refl

pub rows_by_found : (es : List (List ℕ × Fields)) (e f : List ℕ) → AreOrdered es → cell_of_rows (rows_by es) e f ≡ own_cell (lookup (is_at (text_cmp e)) es) f
unfolding IsStrictlySortedBy
rows_by_found [] e f o = refl
rows_by_found (p ∷ es) e f o =
    cell_of_rows-append (rows_in p.0 p.1.cells.entries) (rows_by es) e f
    ∙ ap (λ (a : Option Cell). option_or a (cell_of_rows (rows_by es) e f)) (rows_in_found p.0 p.1.cells.entries e f o.fields.0 ∙ ap (λ (t : Bool). cond t (cell_of (get text_cmp p.1.cells f)) None) (sym (turned e p.0)))
    ∙ ap (λ (a : Option Cell). option_or (cond (is_at (text_cmp e) p.0) (cell_of (get text_cmp p.1.cells f)) None) a) (rows_by_found es e f (record { entities = o.entities.1; fields = o.fields.1 }))
    ∙ object_found (is_at (text_cmp e) p.0) f p.1 (lookup (is_at (text_cmp e)) es) (λ t. no_later p.0 e p.1 es o.entities t)

below_cell : (g : Option (Option Cell)) (b : Bool) → cell_of (or_else g (gone_if b)) ≡ cell_of g
below_cell (Some o) b = refl
below_cell None true = refl
below_cell None false = refl

-- the cell that some changes leave is the one that they keep
pub found_cell : (changes : Changes) (e f : List ℕ) → cell_of (found_by changes e f) ≡ own_cell (get text_cmp changes.entities e) f
found_cell changes e f = go (get text_cmp changes.entities e)
  where
    go : (o : Option Fields) → cell_of (found_at o f) ≡ own_cell o f
    go None = refl
    go (Some fields) = below_cell (get text_cmp fields.cells f) _

pub cell_over : (a p : Option (Option Cell)) → cell_of (or_else a p) ≡ unwrap_or a (cell_of p)
cell_over (Some o) p = refl
cell_over None p = refl
