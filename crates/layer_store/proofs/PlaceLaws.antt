-- The places of the base while a squash makes room and writes.
use Rattle.std.proofs.Common.{◌≡◌, ℕ, Bool, true, false, cond, not, ◌||◌, List, [], ◌∷◌, Option, Some, None, unwrap_or, refl, sym, ap, ◌∙◌}
use Rattle.std.specs.Prelude.{is_some}
use Rattle.std.specs.Map.{lookup}
use Rattle.std.specs.BTreeMap.{BTreeMap, get, is_at}
use Rattle.text_types.specs.Texts.{text_cmp}
use Rattle.cache_model.specs.declared.cell.Cell.{Cell}
use Rattle.cache_model.specs.Maps.{or_else}
use Rattle.layer_store.specs.declared.fields.Fields.{Fields}
use Rattle.layer_store.specs.Layers.{gone_if, found_in, found_at}
use Rattle.layer_store.specs.Bases.{Places, cell_of, place_in, is_cell, sets_in}
use Rattle.layer_store.proofs.CellLaws.{found_text}

-- what a fact on the key says of a query that finds it
pub at_key : {X : Type 0} (m : BTreeMap (List ℕ) X) (k q : List ℕ) (o : Option X) → get text_cmp m k ≡ o → is_at (text_cmp k) q ≡ true → get text_cmp m q ≡ o
at_key m k q o v e = ap (λ (p : List ℕ). get text_cmp m p) (sym (found_text k q e)) ∙ v

pub absent : {X : Type 0} (o : Option X) → is_some o ≡ false → o ≡ None
absent None e = refl
absent (Some x) e = absurd cc

-- an empty place is made
pub make_same : (b : Bool) (g : Option (Option Cell)) → (b ≡ true → g ≡ None) → cell_of (cond b (Some None) g) ≡ cell_of g
make_same true g n = rw (n refl) refl
make_same false g n = refl

-- an empty place is taken away
pub clear_same : (b : Bool) (g : Option (Option Cell)) → (b ≡ true → g ≡ Some None) → cell_of (cond b None g) ≡ cell_of g
clear_same true g n = rw (n refl) refl
clear_same false g n = refl

-- a place is made for each cell of some entries
room_core : (b : Bool) (v : Option Cell) (r : Option (Option Cell)) (now before : Bool) → (b ≡ true → is_cell (Some v) ≡ true → now ≡ true) → (before ≡ true → now ≡ true) → (is_cell (cond b (Some v) r) ≡ false → before ≡ true) → is_cell r ≡ false → now ≡ true
room_core true None r now before h k i n = k (i refl)
room_core true (Some c) r now before h k i n = h refl refl
room_core false v r now before h k i n = k (i n)

pub room_turn : (old rest : List (List ℕ × Option Cell)) (k f : List ℕ) (v : Option Cell) (now before : Bool) → old ≡ (k, v) ∷ rest → (f ≡ k → is_cell (Some v) ≡ true → now ≡ true) → (before ≡ true → now ≡ true)
    → (is_cell (lookup (is_at (text_cmp f)) old) ≡ false → before ≡ true) → is_cell (lookup (is_at (text_cmp f)) rest) ≡ false → now ≡ true
room_turn old rest k f v now before o h kept i n =
    room_core (is_at (text_cmp f) k) v (lookup (is_at (text_cmp f)) rest) now before (λ t. h (found_text f k t)) kept
    (λ t. i (ap (λ (es : List (List ℕ × Option Cell)). is_cell (lookup (is_at (text_cmp f)) es)) o ∙ t)) n

-- the same for the objects of some entries
part_core : (b s : Bool) (f : List ℕ) (v : Fields) (r : Option Fields) (now before : Bool) → sets_in (Some v) f ≡ s → (b ≡ true → sets_in (Some v) f ≡ true → now ≡ true) → (before ≡ true → now ≡ true) → (sets_in (cond b (Some v) r) f ≡ false → before ≡ true) → sets_in r f ≡ false → now ≡ true
part_core true true f v r now before s h k i n = h refl s
part_core true false f v r now before s h k i n = k (i s)
part_core false s f v r now before e h k i n = k (i n)

pub part_room_turn : (old rest : List (List ℕ × Fields)) (k e f : List ℕ) (v : Fields) (now before : Bool) → old ≡ (k, v) ∷ rest → (e ≡ k → sets_in (Some v) f ≡ true → now ≡ true) → (before ≡ true → now ≡ true)
    → (sets_in (lookup (is_at (text_cmp e)) old) f ≡ false → before ≡ true) → sets_in (lookup (is_at (text_cmp e)) rest) f ≡ false → now ≡ true
part_room_turn old rest k e f v now before o h kept i n =
    part_core (is_at (text_cmp e) k) (sets_in (Some v) f) f v (lookup (is_at (text_cmp e)) rest) now before refl (λ t. h (found_text e k t)) kept
    (λ t. i (ap (λ (es : List (List ℕ × Fields)). sets_in (lookup (is_at (text_cmp e)) es) f) o ∙ t)) n

-- a cell of a part goes to its place
pop_step : (b : Bool) (o : Option Cell) (gnew gold : Option (Option Cell)) (mnew mold : Option Cell) → gnew ≡ cond b None gold → mnew ≡ cond b o mold → (b ≡ true → gold ≡ Some o) → unwrap_or gnew mnew ≡ unwrap_or gold mold
pop_step true o gnew gold mnew mold g m h = rw (g, m, h refl) refl
pop_step false o gnew gold mnew mold g m h = rw (g, m) refl

pub pop_turn : (k f : List ℕ) (o : Option Cell) (new old : BTreeMap (List ℕ) (Option Cell)) (mnew mold : Option Cell) → get text_cmp old k ≡ Some o → get text_cmp new f ≡ cond (is_at (text_cmp k) f) None (get text_cmp old f) → mnew ≡ cond (is_at (text_cmp k) f) o mold
    → unwrap_or (get text_cmp new f) mnew ≡ unwrap_or (get text_cmp old f) mold
pop_turn k f o new old mnew mold v g m = pop_step (is_at (text_cmp k) f) o (get text_cmp new f) (get text_cmp old f) mnew mold g m (at_key old k f (Some o) v)

-- the others keep their room
pub room_left : (b : Bool) (gnew gold pnew pold : Option (Option Cell)) → gnew ≡ cond b None gold → (b ≡ false → pnew ≡ pold) → (is_cell gold ≡ true → is_some pold ≡ true) → is_cell gnew ≡ true → is_some pnew ≡ true
room_left true gnew gold pnew pold g p r c = absurd (cc (ap is_cell g))
room_left false gnew gold pnew pold g p r c = ap is_some (p refl) ∙ r (sym (ap is_cell g) ∙ c)

pub part_room_left : (b : Bool) (f : List ℕ) (gnew gold : Option Fields) (now before : Bool) → gnew ≡ cond b None gold → (b ≡ false → before ≡ true → now ≡ true) → (sets_in gold f ≡ true → before ≡ true) → sets_in gnew f ≡ true → now ≡ true
part_room_left true f gnew gold now before g p r c = absurd (cc (ap (λ (o : Option Fields). sets_in o f) g))
part_room_left false f gnew gold now before g p r c = p refl (r (sym (ap (λ (o : Option Fields). sets_in o f) g) ∙ c))

-- what stands there after the tombstones and the cells
pub absorbed : (g : Option (Option Cell)) (b : Bool) (m : Option (Option Cell)) → unwrap_or g (cell_of (cond (is_some g || not b) m None)) ≡ unwrap_or (or_else g (gone_if b)) (cell_of m)
absorbed (Some x) b m = refl
absorbed None true m = refl
absorbed None false m = refl

-- the places of a part's own cells are kept
pub unburied_room : (g m : Option (Option Cell)) (b : Bool) → is_cell g ≡ true → is_some m ≡ true → is_some (cond (is_some g || not b) m None) ≡ true
unburied_room (Some x) m b c s = s
unburied_room None m b c s = absurd cc

-- one object of a map changes its places
pub entity_same : (b : Bool) (f : List ℕ) (w was : Places) (gnew gold : Option Places) → gnew ≡ cond b (Some w) gold → (b ≡ true → gold ≡ Some was) → cell_of (get text_cmp w f) ≡ cell_of (get text_cmp was f) → cell_of (place_in gnew f) ≡ cell_of (place_in gold f)
entity_same true f w was gnew gold g h s = rw (g, h refl) s
entity_same false f w was gnew gold g h s = rw g refl

pub entity_kept : (b : Bool) (f : List ℕ) (w was : Places) (gnew gold : Option Places) → gnew ≡ cond b (Some w) gold → (b ≡ true → gold ≡ Some was) → (is_some (get text_cmp was f) ≡ true → is_some (get text_cmp w f) ≡ true) → is_some (place_in gold f) ≡ true → is_some (place_in gnew f) ≡ true
entity_kept true f w was gnew gold g h s p = rw g (s (rw (h refl) at p))
entity_kept false f w was gnew gold g h s p = rw g p

-- an object comes with no places
pub new_same : (b : Bool) (f : List ℕ) (w : Places) (gnew gold : Option Places) → gnew ≡ cond b (Some w) gold → (b ≡ true → gold ≡ None) → get text_cmp w f ≡ None → cell_of (place_in gnew f) ≡ cell_of (place_in gold f)
new_same true f w gnew gold g h n = rw (g, h refl, n) refl
new_same false f w gnew gold g h n = rw g refl

pub new_kept : (b : Bool) (f : List ℕ) (w : Places) (gnew gold : Option Places) → gnew ≡ cond b (Some w) gold → (b ≡ true → gold ≡ None) → is_some (place_in gold f) ≡ true → is_some (place_in gnew f) ≡ true
new_kept true f w gnew gold g h p = absurd (cc (rw (h refl) at p))
new_kept false f w gnew gold g h p = rw g p

pub empty_get : {X : Type 0} (m : BTreeMap (List ℕ) X) (f : List ℕ) → m.entries ≡ [] → get text_cmp m f ≡ None
empty_get m f e = ap (λ es. lookup (is_at (text_cmp f)) es) e

-- an object without places goes
pub prune_same : (b : Bool) (f : List ℕ) (gnew gold : Option Places) → gnew ≡ cond b None gold → (b ≡ true → is_some (place_in gold f) ≡ false) → cell_of (place_in gnew f) ≡ cell_of (place_in gold f)
prune_same true f gnew gold g n = rw (g, absent (place_in gold f) (n refl)) refl
prune_same false f gnew gold g n = rw g refl

pub prune_kept : (b : Bool) (f : List ℕ) (gnew gold : Option Places) → gnew ≡ cond b None gold → (b ≡ true → is_some (place_in gold f) ≡ false) → is_some (place_in gold f) ≡ true → is_some (place_in gnew f) ≡ true
prune_kept true f gnew gold g n p = absurd (cc (n refl, p))
prune_kept false f gnew gold g n p = rw g p

-- an object of a layer goes to the base
entity_step : (b : Bool) (f : List ℕ) (fields : Fields) (gnew gold : Option Fields) (bnew bold : Option Cell) → gnew ≡ cond b None gold → (b ≡ true → gold ≡ Some fields) → (b ≡ true → bnew ≡ unwrap_or (found_in fields f) bold) → (b ≡ false → bnew ≡ bold)
    → unwrap_or (found_at gnew f) bnew ≡ unwrap_or (found_at gold f) bold
entity_step true f fields gnew gold bnew bold g v h k = rw (g, v refl, h refl) refl
entity_step false f fields gnew gold bnew bold g v h k = rw (g, k refl) refl

pub entity_turn : (k e f : List ℕ) (fields : Fields) (new old : BTreeMap (List ℕ) Fields) (bnew bold : Option Cell) → get text_cmp old k ≡ Some fields → get text_cmp new e ≡ cond (is_at (text_cmp k) e) None (get text_cmp old e)
    → (k ≡ e → bnew ≡ unwrap_or (found_in fields f) bold) → (is_at (text_cmp k) e ≡ false → bnew ≡ bold) → unwrap_or (found_at (get text_cmp new e) f) bnew ≡ unwrap_or (found_at (get text_cmp old e) f) bold
entity_turn k e f fields new old bnew bold v g h i = entity_step (is_at (text_cmp k) e) f fields (get text_cmp new e) (get text_cmp old e) bnew bold g (at_key old k e (Some fields) v) (λ t. h (found_text k e t)) i

-- an object that isn't in the base has no cell to write, so nothing is lost
pub nothing_there : (g : Option (Option Cell)) (b : Bool) → (is_cell g ≡ true → false ≡ true) → None ≡ unwrap_or (or_else g (gone_if b)) None
nothing_there None true n = refl
nothing_there None false n = refl
nothing_there (Some None) b n = refl
nothing_there (Some (Some c)) b n = absurd (cc (n refl))
