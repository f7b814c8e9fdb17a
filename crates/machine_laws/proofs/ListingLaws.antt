-- All cells of a history are the listing of its flattened map, and a map has one listing.
use Rattle.std.proofs.Common.{◌≡◌, ℕ, Bool, true, false, ◌&&◌, ◌||◌, if◌then◌else◌, List, [], ◌∷◌, map, fold, filter_map, flat_map, bytes_eq, Option, Some, None, unwrap_or, refl, sym, ap, ◌∙◌, subst, true≢false}
use Rattle.std.specs.Option.{option_map}
use Rattle.std.specs.List.{list_any, AllByRecursion, cons_option}
use Rattle.std.specs.List.Sorted.{IsStrictlySortedBy}
use Rattle.std.specs.Cmp.{IsTotalOrder, on_total, then_total, tied_itself}
use Rattle.std.specs.Cmp.Lexicographic.{nat_list_cmp_total, same_text}
use Rattle.std.specs.declared.cmp.Ordering.{Ordering}
use Rattle.std.specs.declared.cmp.Ordering.TheVariants.{Less, Equal, Greater}
use Rattle.std.specs.Ordering.{ordering_then, match_ordering, ordering_reverse}
use Rattle.std.proofs.lemmas.List.Folds.{list_any-append}
use Rattle.std.proofs.lemmas.Map.Lookups.{exact_bytes}
use Rattle.std.proofs.lemmas.Slice.Eq.{bytes_eq-Decides}
use Rattle.text_types.specs.Texts.{text_cmp}
use Rattle.cache_model.specs.declared.cell.Cell.{Cell}
use Rattle.cache_model.specs.declared.write.Write.{Write}
use Rattle.cache_model.specs.declared.write.Write.TheVariants.{Set, Drop, DropName, DropAll}
use Rattle.cache_model.specs.Keys.{field_name_of}
use Rattle.cache_model.specs.Maps.{CellMap, no_cells, applied, all_applied}
use Rattle.cache_model.specs.History.{History, flattened, flattened_over}
use Rattle.cache_model.specs.Listing.{Row, cell_of_rows, place_cmp, ListsMap}
use Rattle.machine_model.specs.Operations.{Places}
use Rattle.machine_model.specs.Inspection.{set_by, set_in, place_order, placed, in_order, row_at, cells_of}
use Rattle.machine_model.proofs.Lists.{or_split}
use Rattle.machine_laws.proofs.Numbers.{all_weaker}

abbrev Place : Type 0
Place = List ℕ × List ℕ

abbrev is_place : List ℕ → List ℕ → Place → Bool
is_place e f place = bytes_eq place.0 e && bytes_eq place.1 f

and_true : (a b : Bool) → (a && b) ≡ true → (a ≡ true) × (b ≡ true)
and_true true b e = (refl, e)
and_true false b e = absurd (true≢false (sym e))

-- a place is the one that is looked for
place_is : (e f : List ℕ) (p : Place) → is_place e f p ≡ true → (p.0 ≡ e) × (p.1 ≡ f)
place_is e f p t =
    let both = and_true (bytes_eq p.0 e) (bytes_eq p.1 f) t in
    (same_text p.0 e (sym both.0), same_text p.1 f (sym both.1))

bytes_same : (t : List ℕ) → bytes_eq t t ≡ true
bytes_same t = (bytes_eq-Decides t t).1 refl

at_own_place : (p : Place) → is_place p.0 p.1 p ≡ true
at_own_place p = ap (λ (b : Bool). b && bytes_eq p.1 p.1) (bytes_same p.0) ∙ bytes_same p.1

-- ---- the order of places

places_total : IsTotalOrder place_order
places_total = then_total (on_total (λ (p : Place). p.0) nat_list_cmp_total) (on_total (λ (p : Place). p.1) nat_list_cmp_total)

rows_total : IsTotalOrder place_cmp
rows_total = then_total (on_total (λ (r : Row). r.0) nat_list_cmp_total) (on_total (λ (r : Row). r.1) nat_list_cmp_total)

then_equal : (a b : Ordering) → ordering_then a b ≡ Equal → (a ≡ Equal) × (b ≡ Equal)
then_equal Less b e = absurd cc
then_equal Equal b e = (refl, e)
then_equal Greater b e = absurd cc

texts_tied : (d e f g : List ℕ) → ordering_then (text_cmp d e) (text_cmp f g) ≡ Equal → (d ≡ e) × (f ≡ g)
texts_tied d e f g t =
    let both = then_equal (text_cmp d e) (text_cmp f g) t in
    (exact_bytes d e both.0, exact_bytes f g both.1)

greater_back : (p q : Place) → place_order p q ≡ Greater → place_order q p ≡ Less
greater_back p q e = places_total.antisymm q p ∙ ap ordering_reverse e

-- ---- places are put in order

abbrev Entries : Type 0
Entries = List (Place × Unit {0})

abbrev places_of : Entries → Places
places_of entries = map (λ entry. entry.0) entries

all_placed : (P : Place → Type 0) (es : Entries) (p : Place) → P p → AllByRecursion P (places_of es) → AllByRecursion P (places_of (placed es p))
all_placed P [] p at a = (at, tt)
all_placed P (e ∷ es) p at a = by_order (place_order p e.0) (all_placed P es p at a.1)
  where
    by_order : (o : Ordering) → AllByRecursion P (places_of (placed es p)) → AllByRecursion P (places_of (match_ordering o ((p, tt) ∷ e ∷ es) ((e.0, tt) ∷ es) (e ∷ placed es p)))
    by_order Less rest = (at, a)
    by_order Equal rest = a
    by_order Greater rest = (a.0, rest)

sorted_placed : (es : Entries) (p : Place) → IsStrictlySortedBy place_order (places_of es) → IsStrictlySortedBy place_order (places_of (placed es p))
unfolding IsStrictlySortedBy
sorted_placed [] p s = (tt, tt)
sorted_placed (e ∷ es) p s = by_order (place_order p e.0) refl (sorted_placed es p s.1)
  where
    by_order : (o : Ordering) → place_order p e.0 ≡ o → IsStrictlySortedBy place_order (places_of (placed es p)) → IsStrictlySortedBy place_order (places_of (match_ordering o ((p, tt) ∷ e ∷ es) ((e.0, tt) ∷ es) (e ∷ placed es p)))
    by_order Less is rest = ((is, all_weaker (λ (q : Place). place_order e.0 q ≡ Less) (λ (q : Place). place_order p q ≡ Less) (λ q l. places_total.trans p e.0 q is l) (places_of es) s.0), s)
    by_order Equal is rest = s
    by_order Greater is rest = (all_placed (λ (q : Place). place_order e.0 q ≡ Less) es p (greater_back p e.0 is) s.0, rest)

sorted_fold : (ps : Places) (es : Entries) → IsStrictlySortedBy place_order (places_of es) → IsStrictlySortedBy place_order (places_of (fold placed es ps))
sorted_fold [] es s = s
sorted_fold (p ∷ ps) es s = sorted_fold ps (placed es p) (sorted_placed es p s)

or_past : (a b c : Bool) → (a || (b || c)) ≡ (b || (a || c))
or_past true true c = refl
or_past true false c = refl
or_past false b c = refl

or_twice : (a b : Bool) → (a || b) ≡ (a || (a || b))
or_twice true b = refl
or_twice false b = refl

any_placed : (e f : List ℕ) (es : Entries) (p : Place) → list_any (is_place e f) (places_of (placed es p)) ≡ (is_place e f p || list_any (is_place e f) (places_of es))
any_placed e f [] p = refl
any_placed e f (x ∷ es) p = by_order (place_order p x.0) refl (any_placed e f es p)
  where
    by_order : (o : Ordering) → place_order p x.0 ≡ o → list_any (is_place e f) (places_of (placed es p)) ≡ (is_place e f p || list_any (is_place e f) (places_of es))
        → list_any (is_place e f) (places_of (match_ordering o ((p, tt) ∷ x ∷ es) ((x.0, tt) ∷ es) (x ∷ placed es p))) ≡ (is_place e f p || (is_place e f x.0 || list_any (is_place e f) (places_of es)))
    by_order Less is rest = refl
    by_order Equal is rest =
        let both = texts_tied p.0 x.0.0 p.1 x.0.1 is in
        let same : is_place e f p ≡ is_place e f x.0 = ap (λ t. bytes_eq t e && bytes_eq p.1 f) both.0 ∙ ap (λ t. bytes_eq x.0.0 e && bytes_eq t f) both.1 in
        or_twice (is_place e f x.0) (list_any (is_place e f) (places_of es)) ∙ ap (λ (b : Bool). b || (is_place e f x.0 || list_any (is_place e f) (places_of es))) (sym same)
    by_order Greater is rest =
        ap (λ (b : Bool). is_place e f x.0 || b) rest ∙ or_past (is_place e f x.0) (is_place e f p) (list_any (is_place e f) (places_of es))

-- whatever is among some places is there when they are in order
any_fold : (e f : List ℕ) (ps : Places) (es : Entries) → list_any (is_place e f) (places_of (fold placed es ps)) ≡ false → (list_any (is_place e f) ps ≡ false) × (list_any (is_place e f) (places_of es) ≡ false)
any_fold e f [] es n = (refl, n)
any_fold e f (p ∷ ps) es n =
    let rest = any_fold e f ps (placed es p) n in
    let here = or_split (is_place e f p) (list_any (is_place e f) (places_of es)) (sym (any_placed e f es p) ∙ rest.1) in
    (ap (λ (b : Bool). b || list_any (is_place e f) ps) here.0 ∙ rest.0, here.1)

-- ---- a cell stands where some write set it

abbrev any_of : List ℕ → List ℕ → Places → Bool
any_of e f places = list_any (is_place e f) places

field_dropped : (b : Bool) (m : Option Cell) → m ≡ None → unwrap_or (if b then Some None else None) m ≡ None
field_dropped true m n = refl
field_dropped false m n = n

object_dropped : (a b : Bool) (m : Option Cell) → m ≡ None → unwrap_or (if a then (if b then Some None else None) else None) m ≡ None
object_dropped true b m n = field_dropped b m n
object_dropped false b m n = n

cell_set : (a b : Bool) (x : Cell) (m : Option Cell) → m ≡ None → ((a && b) || false) ≡ false → unwrap_or (if a then (if b then Some (Some x) else None) else None) m ≡ None
cell_set true true x m n none = absurd (true≢false none)
cell_set true false x m n none = n
cell_set false b x m n none = n

unset : (e f : List ℕ) (m : CellMap) (w : Write) → m e f ≡ None → any_of e f (set_by w) ≡ false → applied m w e f ≡ None
unset e f m (Set entity field x) n none = cell_set (bytes_eq entity e) (bytes_eq field f) x (m e f) n none
unset e f m (Drop entity field) n none = object_dropped (bytes_eq entity e) (bytes_eq field f) (m e f) n
unset e f m (DropName entity name) n none = object_dropped (bytes_eq entity e) (bytes_eq name (field_name_of f)) (m e f) n
unset e f m (DropAll entity) n none = field_dropped (bytes_eq entity e) (m e f) n

all_unset : (e f : List ℕ) (ws : List Write) (m : CellMap) → m e f ≡ None → any_of e f (flat_map set_by ws) ≡ false → all_applied m ws e f ≡ None
all_unset e f [] m n none = n
all_unset e f (w ∷ ws) m n none =
    let both = or_split (any_of e f (set_by w)) (any_of e f (flat_map set_by ws)) (sym (list_any-append (is_place e f) (set_by w) (flat_map set_by ws)) ∙ none) in
    all_unset e f ws (applied m w) (unset e f m w n both.0) both.1

never_set : (e f : List ℕ) (h : History) (m : CellMap) → m e f ≡ None → any_of e f (set_in h) ≡ false → flattened_over m h e f ≡ None
never_set e f [] m n none = n
never_set e f (c ∷ h) m n none =
    let both = or_split (any_of e f (flat_map set_by c.writes)) (any_of e f (set_in h)) (sym (list_any-append (is_place e f) (flat_map set_by c.writes) (set_in h)) ∙ none) in
    never_set e f h (all_applied m c.writes) (all_unset e f c.writes m n both.0) both.1

-- ---- rows at places

abbrev row_for : Place → Option Cell → Option Row
row_for p cell = option_map (λ c. (p.0, p.1, c)) cell

found_or_none : (h : History) (e f : List ℕ) (p : Place) (ps : Places) → cell_of_rows (filter_map (row_at h) ps) e f ≡ (if any_of e f ps then flattened h e f else None)
    → cell_of_rows (cons_option (row_at h p) (filter_map (row_at h) ps)) e f ≡ (if is_place e f p || any_of e f ps then flattened h e f else None)
found_or_none h e f p ps rest = by_cell (flattened h p.0 p.1) refl (is_place e f p) refl
  where
    rows : List Row
    rows = filter_map (row_at h) ps

    all_none : (b : Bool) → flattened h e f ≡ None → (if b then flattened h e f else None) ≡ None
    all_none true n = n
    all_none false n = refl

    there : (c : Option Cell) → flattened h p.0 p.1 ≡ c → is_place e f p ≡ true → flattened h e f ≡ c
    there c is t =
        let both = place_is e f p t in
        ap (λ x. flattened h x f) (sym both.0) ∙ ap (λ y. flattened h p.0 y) (sym both.1) ∙ is

    by_cell : (c : Option Cell) → flattened h p.0 p.1 ≡ c → (t : Bool) → is_place e f p ≡ t → cell_of_rows (cons_option (row_for p c) rows) e f ≡ (if t || any_of e f ps then flattened h e f else None)
    by_cell None is true t =
        let none = there None is t in
        rest ∙ all_none (any_of e f ps) none ∙ sym none
    by_cell None is false t = rest
    by_cell (Some c) is true t = ap (λ (b : Bool). if b then Some c else cell_of_rows rows e f) t ∙ sym (there (Some c) is t)
    by_cell (Some c) is false t = ap (λ (b : Bool). if b then Some c else cell_of_rows rows e f) t ∙ rest

found_at_places : (h : History) (e f : List ℕ) (ps : Places) → cell_of_rows (filter_map (row_at h) ps) e f ≡ (if any_of e f ps then flattened h e f else None)
found_at_places h e f [] = refl
found_at_places h e f (p ∷ ps) = found_or_none h e f p ps (found_at_places h e f ps)

rows_above : (h : History) (p : Place) (c : Cell) (ps : Places) → AllByRecursion (λ (q : Place). place_order p q ≡ Less) ps → AllByRecursion (λ (row : Row). place_cmp (p.0, p.1, c) row ≡ Less) (filter_map (row_at h) ps)
rows_above h p c [] a = tt
rows_above h p c (q ∷ ps) a = by_cell (flattened h q.0 q.1) (rows_above h p c ps a.1)
  where
    by_cell : (d : Option Cell) → AllByRecursion (λ (row : Row). place_cmp (p.0, p.1, c) row ≡ Less) (filter_map (row_at h) ps)
        → AllByRecursion (λ (row : Row). place_cmp (p.0, p.1, c) row ≡ Less) (cons_option (row_for q d) (filter_map (row_at h) ps))
    by_cell None rest = rest
    by_cell (Some d) rest = (a.0, rest)

rows_sorted : (h : History) (ps : Places) → IsStrictlySortedBy place_order ps → IsStrictlySortedBy place_cmp (filter_map (row_at h) ps)
unfolding IsStrictlySortedBy
rows_sorted h [] s = tt
rows_sorted h (p ∷ ps) s = by_cell (flattened h p.0 p.1) (rows_sorted h ps s.1)
  where
    by_cell : (c : Option Cell) → IsStrictlySortedBy place_cmp (filter_map (row_at h) ps) → IsStrictlySortedBy place_cmp (cons_option (row_for p c) (filter_map (row_at h) ps))
    by_cell None rest = rest
    by_cell (Some c) rest = (rows_above h p c ps s.0, rest)

nowhere : (b : Bool) (m : Option Cell) → (b ≡ false → m ≡ None) → (if b then m else None) ≡ m
nowhere true m n = refl
nowhere false m n = sym (n refl)

none_sorted : IsStrictlySortedBy place_order []
unfolding IsStrictlySortedBy
none_sorted = tt

pub cells_are_listed : (h : History) → ListsMap (cells_of h) (flattened h)
cells_are_listed h = record {
  sorted = rows_sorted h (in_order (set_in h)) (sorted_fold (set_in h) [] none_sorted);
  found = λ e f. found_at_places h e f (in_order (set_in h))
      ∙ nowhere (any_of e f (in_order (set_in h))) (flattened h e f) (λ n. never_set e f h no_cells refl (any_fold e f (set_in h) [] n).0);
}

-- ---- one listing

tied_less : (r : Row) → place_cmp r r ≡ Less → ⊥
tied_less r l =
    let tied = tied_itself rows_total r in
    absurd cc

-- a row isn't among those above it
absent : (r : Row) (rows : List Row) → AllByRecursion (λ (row : Row). place_cmp r row ≡ Less) rows → cell_of_rows rows r.0 r.1 ≡ None
absent r [] a = refl
absent r (row ∷ rows) a = by_test (is_place r.0 r.1 (row.0, row.1)) refl (absent r rows a.1)
  where
    by_test : (t : Bool) → is_place r.0 r.1 (row.0, row.1) ≡ t → cell_of_rows rows r.0 r.1 ≡ None → (if t then Some row.2 else cell_of_rows rows r.0 r.1) ≡ None
    by_test true t rest =
        let both = place_is r.0 r.1 (row.0, row.1) t in
        let own : ordering_then (text_cmp r.0 r.0) (text_cmp r.1 r.1) ≡ Less
        = subst (λ x. ordering_then (text_cmp r.0 x) (text_cmp r.1 r.1) ≡ Less) both.0 (subst (λ y. ordering_then (text_cmp r.0 row.0) (text_cmp r.1 y) ≡ Less) both.1 a.0) in
        absurd (tied_less r own)
    by_test false t rest = rest

present : (r : Row) (rows : List Row) → cell_of_rows (r ∷ rows) r.0 r.1 ≡ Some r.2
present r rows = ap (λ (b : Bool). if b then Some r.2 else cell_of_rows rows r.0 r.1) (at_own_place (r.0, r.1))

not_there : (r : Row) (rows others : List Row) → AllByRecursion (λ (row : Row). place_cmp r row ≡ Less) others → ((e f : List ℕ) → cell_of_rows (r ∷ rows) e f ≡ cell_of_rows others e f) → ⊥
not_there r rows others a same =
    let none : Some r.2 ≡ None = sym (present r rows) ∙ same r.0 r.1 ∙ absent r others a in
    absurd cc

all_later : (r s : Row) (rows : List Row) → place_cmp r s ≡ Less → AllByRecursion (λ (row : Row). place_cmp s row ≡ Less) rows → AllByRecursion (λ (row : Row). place_cmp r row ≡ Less) (s ∷ rows)
all_later r s rows l a = (l, all_weaker (λ (row : Row). place_cmp s row ≡ Less) (λ (row : Row). place_cmp r row ≡ Less) (λ row m. rows_total.trans r s row l m) rows a)

row_is : (r s : Row) → r.0 ≡ s.0 → r.1 ≡ s.1 → Some r.2 ≡ Some s.2 → r ≡ s
row_is r s a b c =
    let cells : r.2 ≡ s.2 = cc in
    let built : (e f : List ℕ) (x : Cell) → Row = λ e f x. (e, f, x) in
    ap (λ e. built e r.1 r.2) a ∙ ap (λ f. built s.0 f r.2) b ∙ ap (built s.0 s.1) cells

-- what two lists say behind rows that are the same
behind : (x y : Row) (xs ys : List Row) → x.0 ≡ y.0 → x.1 ≡ y.1 → AllByRecursion (λ (row : Row). place_cmp x row ≡ Less) xs → AllByRecursion (λ (row : Row). place_cmp y row ≡ Less) ys
    → ((e f : List ℕ) → cell_of_rows (x ∷ xs) e f ≡ cell_of_rows (y ∷ ys) e f) → (e f : List ℕ) → cell_of_rows xs e f ≡ cell_of_rows ys e f
behind x y xs ys d g a b same e f = by_test (is_place e f (x.0, x.1)) refl
  where
    rest_of : (b c : Bool) → b ≡ false → c ≡ false → (if b then Some x.2 else cell_of_rows xs e f) ≡ (if c then Some y.2 else cell_of_rows ys e f) → cell_of_rows xs e f ≡ cell_of_rows ys e f
    rest_of true c p q r = absurd (true≢false p)
    rest_of false true p q r = absurd (true≢false q)
    rest_of false false p q r = r

    by_test : (t : Bool) → is_place e f (x.0, x.1) ≡ t → cell_of_rows xs e f ≡ cell_of_rows ys e f
    by_test true p =
        let here = place_is e f (x.0, x.1) p in
        let left : cell_of_rows xs e f ≡ None = ap (λ o. cell_of_rows xs o f) (sym here.0) ∙ ap (λ n. cell_of_rows xs x.0 n) (sym here.1) ∙ absent x xs a in
        let right : cell_of_rows ys e f ≡ None = ap (λ o. cell_of_rows ys o f) (sym here.0 ∙ d) ∙ ap (λ n. cell_of_rows ys y.0 n) (sym here.1 ∙ g) ∙ absent y ys b in
        left ∙ sym right
    by_test false p =
        let other : is_place e f (y.0, y.1) ≡ false = ap (λ o. bytes_eq o e && bytes_eq y.1 f) (sym d) ∙ ap (λ n. bytes_eq x.0 e && bytes_eq n f) (sym g) ∙ p in
        rest_of (is_place e f (x.0, x.1)) (is_place e f (y.0, y.1)) p other (same e f)

first_same : (x y : Row) (xs ys : List Row) → x.0 ≡ y.0 → x.1 ≡ y.1 → ((e f : List ℕ) → cell_of_rows (x ∷ xs) e f ≡ cell_of_rows (y ∷ ys) e f) → x ≡ y
first_same x y xs ys d g same =
    let there : cell_of_rows (y ∷ ys) x.0 x.1 ≡ Some y.2
    = ap (λ e. cell_of_rows (y ∷ ys) e x.1) d ∙ ap (λ f. cell_of_rows (y ∷ ys) y.0 f) g ∙ present y ys in
    row_is x y d g (sym (present x xs) ∙ same x.0 x.1 ∙ there)

one_list : (xs ys : List Row) → IsStrictlySortedBy place_cmp xs → IsStrictlySortedBy place_cmp ys → ((e f : List ℕ) → cell_of_rows xs e f ≡ cell_of_rows ys e f) → xs ≡ ys
unfolding IsStrictlySortedBy
one_list [] [] s t same = refl
one_list [] (y ∷ ys) s t same = absurd (not_there y ys [] tt (λ e f. sym (same e f)))
one_list (x ∷ xs) [] s t same = absurd (not_there x xs [] tt same)
one_list (x ∷ xs) (y ∷ ys) s t same = by_order (place_cmp x y) refl (λ d g. one_list xs ys s.1 t.1 (behind x y xs ys d g s.0 t.0 same))
  where
    by_order : (o : Ordering) → place_cmp x y ≡ o → (x.0 ≡ y.0 → x.1 ≡ y.1 → xs ≡ ys) → x ∷ xs ≡ y ∷ ys
    by_order Less is rest = absurd (not_there x xs (y ∷ ys) (all_later x y ys is t.0) same)
    by_order Greater is rest =
        let back : place_cmp y x ≡ Less = rows_total.antisymm y x ∙ ap ordering_reverse is in
        absurd (not_there y ys (x ∷ xs) (all_later y x xs back s.0) (λ e f. sym (same e f)))
    by_order Equal is rest =
        let both = texts_tied x.0 y.0 x.1 y.1 is in
        ap (λ r. r ∷ xs) (first_same x y xs ys both.0 both.1 same) ∙ ap (λ rows. y ∷ rows) (rest both.0 both.1)

pub one_listing : (cells : CellMap) (rows others : List Row) → ListsMap rows cells → ListsMap others cells → rows ≡ others
one_listing cells rows others a b = one_list rows others a.sorted b.sorted (λ e f. a.found e f ∙ sym (b.found e f))
