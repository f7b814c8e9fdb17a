-- One place more, and one less.
use Rattle.std.proofs.Common.{◌≡◌, ℕ, Bool, true, false, not, ◌&&◌, ◌||◌, cond, List, [], ◌∷◌, ◌++◌, refl, sym, ◌∙◌, ap, map, take, drop, length, ◌<◌, ◌+◌, Bor}
use Rattle.std.specs.List.{list_any, slice_index_or}
use Rattle.std.specs.Ordering.{is_eq, nat_cmp}
use Rattle.std.specs.declared.ops.Bound.TheVariants.{Included, Excluded}
use Rattle.std.specs.BTreeMap.{is_at}
use Rattle.std.specs.BTreeMap.Range.{range_contains}
use Rattle.std.specs.BTreeSet as sorted
use Rattle.std.specs.Map.Iter.{deref}
use Rattle.std.proofs.lemmas.Bool.{or_parts, and_parts}
use Rattle.std.proofs.lemmas.List.{take-append-drop, map-append}
use Rattle.std.proofs.lemmas.List.Folds.{list_any-append, list_any_more}
use Rattle.cache_model.specs.declared.write.Write.{Write}
use Rattle.cache_model.specs.Maps.{covers}
use Rattle.dependents.specs.declared.place.Place.{Place}
use Rattle.dependents.specs.Waking.{VisitedCells}
use Rattle.dependents.specs.Places.{place_cmp, place_of, is_placed, wakes_place}
use Rattle.dependents.specs.Spans.{start_of, end_of}
use Rattle.dependents.proofs.AnyLaws.{any_filter}
use Rattle.dependents.proofs.SpanLaws.{covered_within}

-- a test that no element passes is passed by none of the first elements
none_of_front : {X : Type 0} (p : X → Bool) (xs : List X) (n : ℕ) → list_any p xs ≡ false → list_any p (take n xs) ≡ false
none_of_front p xs n none =
    (or_parts (list_any p (take n xs)) (list_any p (drop n xs))
    (sym (list_any-append p (take n xs) (drop n xs)) ∙ ap (list_any p) (take-append-drop n xs) ∙ none)).0

or_none : (b : Bool) → (b || false) ≡ b
or_none true = refl
or_none false = refl

-- what isn't among the cells' places is as it was
pub front_none : (sub : ℕ) (turn : Bool) (cells items : VisitedCells) (n : ℕ) (p : Place) (now old : Bool) → items ≡ cells
    → is_placed sub turn cells p ≡ false → now ≡ (old || is_placed sub turn (take n items) p) → now ≡ old
front_none sub turn cells items n p now old same none is =
    is
    ∙ ap (λ b. old || b) (none_of_front (λ cell. is_eq (place_cmp (place_of sub turn cell) p)) items n (ap (λ cs. is_placed sub turn cs p) same ∙ none))
    ∙ or_none old

more : (x y old : Bool) → cond x true (old || y) ≡ (old || (y || x))
more true y true = refl
more true true false = refl
more true false false = refl
more false true true = refl
more false false true = refl
more false true false = refl
more false false false = refl

-- a place was added
pub one_more_placed : (sub : ℕ) (turn : Bool) (items : VisitedCells) (i : ℕ) (cell : List ℕ × List ℕ) (key p : Place) (now before old : Bool)
    → i < length items → slice_index_or items i cell ≡ cell → key ≡ place_of sub turn cell
    → now ≡ cond (is_at (place_cmp key) p) true before → before ≡ (old || is_placed sub turn (take i items) p)
    → now ≡ (old || is_placed sub turn (take (i + 1) items) p)
one_more_placed sub turn items i cell key p now before old within at made is was =
    let test : List ℕ × List ℕ → Bool = λ c. is_eq (place_cmp (place_of sub turn c) p) in
    is
    ∙ ap (λ k. cond (is_eq (place_cmp k p)) true before) made
    ∙ ap (λ b. cond (test cell) true b) was
    ∙ more (test cell) (list_any test (take i items)) old
    ∙ ap (λ c. old || (list_any test (take i items) || test c)) (sym at)
    ∙ ap (λ b. old || b) (sym (list_any_more test items i cell within))

less : (x y old : Bool) → cond x false (old && not y) ≡ (old && not (y || (x || false)))
less true true true = refl
less true true false = refl
less true false true = refl
less true false false = refl
less false true true = refl
less false true false = refl
less false false true = refl
less false false false = refl

-- a place was taken out
pub one_less_placed : (sub : ℕ) (turn : Bool) (done : VisitedCells) (cell : List ℕ × List ℕ) (p : Place) (now before old : Bool)
    → now ≡ cond (is_at (place_cmp (place_of sub turn cell)) p) false before → before ≡ (old && not (is_placed sub turn done p))
    → now ≡ (old && not (is_placed sub turn (done ++ cell ∷ []) p))
one_less_placed sub turn done cell p now before old is was =
    let test : List ℕ × List ℕ → Bool = λ c. is_eq (place_cmp (place_of sub turn c) p) in
    is
    ∙ ap (λ b. cond (test cell) false b) was
    ∙ less (test cell) (list_any test done) old
    ∙ ap (λ b. old && not b) (sym (list_any-append test done (cell ∷ [])))

-- one more place was looked at, and its query was added where the write covers it
pub one_more_woken : (write : Write) (sub : ℕ) (done : List (Bor Place)) (place : Bor Place) (now before old : Bool)
    → covers write place.now.entity place.now.field ≡ true
    → now ≡ cond (is_at (nat_cmp place.now.sub) sub) true before
    → before ≡ (old || list_any (wakes_place write sub) (map deref done))
    → now ≡ (old || list_any (wakes_place write sub) (map deref (done ++ place ∷ [])))
one_more_woken write sub done place now before old covered is was =
    let query = is_eq (nat_cmp place.now.sub sub) in
    let test = wakes_place write sub in
    is
    ∙ ap (λ b. cond query true b) was
    ∙ woken query (list_any test (map deref done)) old
    ∙ ap (λ b. old || (list_any test (map deref done) || ((query && b) || false))) (sym covered)
    ∙ ap (λ b. old || b) (sym (list_any-append test (map deref done) (place.now ∷ [])))
    ∙ ap (λ places. old || list_any test places) (sym (map-append deref done (place ∷ [])))
  where
    woken : (x y old : Bool) → cond x true (old || y) ≡ (old || (y || ((x && true) || false)))
    woken true true true = refl
    woken true true false = refl
    woken true false true = refl
    woken true false false = refl
    woken false true true = refl
    woken false true false = refl
    woken false false true = refl
    woken false false false = refl

-- one that the write doesn't cover changes nothing
pub one_more_asleep : (write : Write) (sub : ℕ) (done : List (Bor Place)) (place : Bor Place) (before old : Bool)
    → covers write place.now.entity place.now.field ≡ false
    → before ≡ (old || list_any (wakes_place write sub) (map deref done))
    → before ≡ (old || list_any (wakes_place write sub) (map deref (done ++ place ∷ [])))
one_more_asleep write sub done place before old uncovered was =
    let query = is_eq (nat_cmp place.now.sub sub) in
    let test = wakes_place write sub in
    was
    ∙ asleep query (list_any test (map deref done)) old
    ∙ ap (λ b. old || (list_any test (map deref done) || ((query && b) || false))) (sym uncovered)
    ∙ ap (λ b. old || b) (sym (list_any-append test (map deref done) (place.now ∷ [])))
    ∙ ap (λ places. old || list_any test places) (sym (map-append deref done (place ∷ [])))
  where
    asleep : (x y old : Bool) → (old || y) ≡ (old || (y || ((x && false) || false)))
    asleep x y true = refl
    asleep x true false = refl
    asleep true false false = refl
    asleep false false false = refl

-- all places between the two bounds were looked at
pub all_looked_at : (write : Write) (sub : ℕ) (start end : Place) (places : sorted.BTreeSet Place) (done : List (Bor Place)) (now old : Bool)
    → start ≡ start_of write → end ≡ end_of write
    → map deref done ≡ sorted.keys_between place_cmp (Included start) (Excluded end) places
    → now ≡ (old || list_any (wakes_place write sub) (map deref done))
    → now ≡ (old || list_any (wakes_place write sub) places.keys)
all_looked_at write sub start end places done now old starts ends all is =
    let test = wakes_place write sub in
    is
    ∙ ap (λ ps. old || list_any test ps) all
    ∙ (λ i. old || list_any test (sorted.keys_between place_cmp (Included (starts i)) (Excluded (ends i)) places))
    ∙ ap (λ b. old || b) (any_filter test (range_contains place_cmp (Included (start_of write)) (Excluded (end_of write))) places.keys
    (λ p wakes. covered_within write p (and_parts (is_eq (nat_cmp p.sub sub)) (covers write p.entity p.field) wakes).1))
