-- A store stands for a history through each call.
use Rattle.std.proofs.Common.{◌≡◌, ℕ, zero, suc, ◌+◌, ◌-◌, ◌<◌, ◌≤◌, Bool, true, false, cond, ◌&&◌, ◌||◌, List, [], ◌∷◌, ◌++◌, map, take, drop, length, set, get_or, Option, unwrap_or, refl, sym, ap, subst, ◌∙◌, append_assoc, arith}
use Rattle.std.specs.Prelude.{is_some}
use Rattle.std.specs.List.{list_any, AllByRecursion}
use Rattle.std.proofs.lemmas.List.{length-append, length-take-le, take-append-drop}
use Rattle.std.proofs.lemmas.List.Folds.{list_any-append}
use Rattle.cache_model.specs.declared.cell.Cell.{Cell}
use Rattle.cache_model.specs.Maps.{CellMap, no_cells, all_applied, effect}
use Rattle.cache_model.specs.History.{Content, History, no_content, content_of, flattened, flattened_over, touches, is_optimistic, touched_above, touched_optimistically, IsUnfinished, IsSettled, BeginsUnfinished, KeepsContent, KeepsContents, Layered, StandsForHistory, with_mark}
use Rattle.cache_model.proofs.EffectLaws.{over, applied_by_effect, effect_where_covered}
use Rattle.layer_store.specs.declared.layer.Layer.{Layer}
use Rattle.layer_store.specs.Layers.{found_by, found_through, finished_count}
use Rattle.layer_store.specs.Stores.{kept_of}
use Rattle.layer_store.proofs.ListLaws.{all-append, all-set, all_front, get_above, set_above, drop_above}

-- a base, the number of contents in it, and layers
abbrev pub view : CellMap → ℕ → List Layer → Layered
view base base_len layers = record { base = base; base_len = base_len; kept = map kept_of layers }

-- ---- one layer and its content

-- a layer that says what some writes say keeps their content
pub keeps_effect : (l : Layer) (c : Content) → l.kind ≡ c.kind → l.finished ≡ c.finished → ((e f : List ℕ) → found_by l.changes e f ≡ effect c.writes e f) → KeepsContent (kept_of l) c
keeps_effect l c k m s = record {
  kind = k;
  mark = m;
  covered = λ e f. ap is_some (s e f) ∙ effect_where_covered c.writes e f;
  changed = λ map e f. ap (λ (o : Option (Option Cell)). unwrap_or o (map e f)) (s e f) ∙ sym (applied_by_effect map c.writes e f);
}

-- the mark of a layer is set with that of its content
pub keeps_mark : (l : Layer) (c : Content) → KeepsContent (kept_of l) c → KeepsContent (record { kind = l.kind; finished = true; says = found_by l.changes }) (with_mark c)
keeps_mark l c k = record { kind = k.kind; mark = refl; covered = k.covered; changed = k.changed }

-- ---- layers and their contents

pub keeps_length : (ls : List Layer) (cs : History) → KeepsContents (map kept_of ls) cs → length ls ≡ length cs
keeps_length [] [] s = refl
keeps_length [] (c ∷ cs) s = absurd s
keeps_length (l ∷ ls) [] s = absurd s
keeps_length (l ∷ ls) (c ∷ cs) s = ap suc (keeps_length ls cs s.1)

keeps_push : (ls : List Layer) (cs : History) (l : Layer) (c : Content) → KeepsContents (map kept_of ls) cs → KeepsContent (kept_of l) c → KeepsContents (map kept_of (ls ++ l ∷ [])) (cs ++ c ∷ [])
keeps_push [] [] l c s t = (t, tt)
keeps_push [] (d ∷ cs) l c s t = absurd s
keeps_push (k ∷ ls) [] l c s t = absurd s
keeps_push (k ∷ ls) (d ∷ cs) l c s t = (s.0, keeps_push ls cs l c s.1 t)

keeps_set : (ls : List Layer) (cs : History) (i : ℕ) (l : Layer) (c : Content) → KeepsContents (map kept_of ls) cs → KeepsContent (kept_of l) c → KeepsContents (map kept_of (set ls i l)) (set cs i c)
keeps_set [] [] i l c s t = tt
keeps_set [] (d ∷ cs) i l c s t = absurd s
keeps_set (k ∷ ls) [] i l c s t = absurd s
keeps_set (k ∷ ls) (d ∷ cs) zero l c s t = (t, s.1)
keeps_set (k ∷ ls) (d ∷ cs) (suc i) l c s t = (s.0, keeps_set ls cs i l c s.1 t)

keeps_drop : (ls : List Layer) (cs : History) (i : ℕ) → KeepsContents (map kept_of ls) cs → KeepsContents (map kept_of (drop i ls)) (drop i cs)
keeps_drop ls cs zero s = s
keeps_drop [] [] (suc i) s = tt
keeps_drop [] (c ∷ cs) (suc i) s = absurd s
keeps_drop (l ∷ ls) [] (suc i) s = absurd s
keeps_drop (l ∷ ls) (c ∷ cs) (suc i) s = keeps_drop ls cs i s.1

keeps_take : (ls : List Layer) (cs : History) (i : ℕ) → KeepsContents (map kept_of ls) cs → KeepsContents (map kept_of (take i ls)) (take i cs)
keeps_take ls cs zero s = tt
keeps_take [] [] (suc i) s = tt
keeps_take [] (c ∷ cs) (suc i) s = absurd s
keeps_take (l ∷ ls) [] (suc i) s = absurd s
keeps_take (l ∷ ls) (c ∷ cs) (suc i) s = (s.0, keeps_take ls cs i s.1)

keeps_at : (ls : List Layer) (cs : History) (i : ℕ) (l : Layer) (d : Content) → KeepsContents (map kept_of ls) cs → i < length ls → KeepsContent (kept_of (get_or ls i l)) (get_or cs i d)
keeps_at [] cs i l d s h = absurd (omega arith)
keeps_at (k ∷ ls) [] i l d s h = absurd s
keeps_at (k ∷ ls) (c ∷ cs) zero l d s h = s.0
keeps_at (k ∷ ls) (c ∷ cs) (suc i) l d s h = keeps_at ls cs i l d s.1 (omega arith)

-- ---- the map

flattened_over-append : (m : CellMap) (xs ys : History) → flattened_over m (xs ++ ys) ≡ flattened_over (flattened_over m xs) ys
flattened_over-append m [] ys = refl
flattened_over-append m (c ∷ xs) ys = flattened_over-append (all_applied m c.writes) xs ys

flattened_over_layers : (ls : List Layer) (cs : History) (m : CellMap) (e f : List ℕ) → KeepsContents (map kept_of ls) cs → flattened_over m cs e f ≡ unwrap_or (found_through ls e f) (m e f)
flattened_over_layers [] [] m e f s = refl
flattened_over_layers [] (c ∷ cs) m e f s = absurd s
flattened_over_layers (l ∷ ls) [] m e f s = absurd s
flattened_over_layers (l ∷ ls) (c ∷ cs) m e f s =
    flattened_over_layers ls cs (all_applied m c.writes) e f s.1
    ∙ ap (λ (o : Option Cell). unwrap_or (found_through ls e f) o) (sym (s.0.changed m e f))
    ∙ over (found_through ls e f) (found_by l.changes e f) (m e f)

-- what the layers say over the base is the flattened map
pub flattened_at : (base : CellMap) (n : ℕ) (ls : List Layer) (h : History) (e f : List ℕ) → StandsForHistory (view base n ls) h → flattened h e f ≡ unwrap_or (found_through ls e f) (base e f)
flattened_at base n ls h e f s =
    ap (λ (k : History). flattened k e f) s.whole
    ∙ ap (λ (m : CellMap). m e f) (flattened_over-append no_cells s.below s.above)
    ∙ flattened_over_layers ls s.above (flattened s.below) e f s.layers
    ∙ ap (λ (o : Option Cell). unwrap_or (found_through ls e f) o) (sym (s.base e f))

-- ---- covered cells

any_kept : (ls : List Layer) (cs : History) (e f : List ℕ) → KeepsContents (map kept_of ls) cs → list_any (λ (l : Layer). is_some (found_by l.changes e f)) ls ≡ list_any (touches e f) cs
any_kept [] [] e f s = refl
any_kept [] (c ∷ cs) e f s = absurd s
any_kept (l ∷ ls) [] e f s = absurd s
any_kept (l ∷ ls) (c ∷ cs) e f s = rw (s.0.covered e f, any_kept ls cs e f s.1) refl

pub any_above : (base : CellMap) (n : ℕ) (ls : List Layer) (h : History) (t : ℕ) (e f : List ℕ) → StandsForHistory (view base n ls) h → n ≤ t → list_any (λ (l : Layer). is_some (found_by l.changes e f)) (drop (t - n) ls) ≡ touched_above h t e f
any_above base n ls h t e f s le =
    any_kept (drop (t - n) ls) (drop (t - n) s.above) e f (keeps_drop ls s.above (t - n) s.layers)
    ∙ ap (λ (cs : History). list_any (touches e f) cs) (sym (ap (λ (k : History). drop t k) s.whole ∙ drop_above s.below s.above (t - n) t (omega (arith, s.count))))

guesses_kept : (ls : List Layer) (cs : History) (e f : List ℕ) → KeepsContents (map kept_of ls) cs → list_any (λ (l : Layer). is_optimistic l.kind && is_some (found_by l.changes e f)) ls ≡ touched_optimistically cs e f
guesses_kept [] [] e f s = refl
guesses_kept [] (c ∷ cs) e f s = absurd s
guesses_kept (l ∷ ls) [] e f s = absurd s
guesses_kept (l ∷ ls) (c ∷ cs) e f s = rw (s.0.kind, s.0.covered e f, guesses_kept ls cs e f s.1) refl

no_guess : (cs ds : History) (e f : List ℕ) → AllByRecursion (λ (c : Content). c.finished ≡ true) cs → AllByRecursion IsSettled (cs ++ ds) → touched_optimistically cs e f ≡ false
no_guess [] ds e f a s = refl
no_guess (c ∷ cs) ds e f a s = rw (s.0 a.0, no_guess cs ds e f a.1 s.1) refl

pub any_guess : (base : CellMap) (n : ℕ) (ls : List Layer) (h : History) (e f : List ℕ) → StandsForHistory (view base n ls) h → list_any (λ (l : Layer). is_optimistic l.kind && is_some (found_by l.changes e f)) ls ≡ touched_optimistically h e f
any_guess base n ls h e f s =
    let settled : AllByRecursion IsSettled (s.below ++ s.above) = subst (λ (k : History). AllByRecursion IsSettled k) s.whole s.settled in
    let guess = λ (c : Content). is_optimistic c.kind && touches e f c in
    guesses_kept ls s.above e f s.layers
    ∙ sym (ap (λ (k : History). touched_optimistically k e f) s.whole ∙ list_any-append guess s.below s.above ∙ ap (λ (b : Bool). b || touched_optimistically s.above e f) (no_guess s.below s.above e f s.squashed settled))

-- ---- tickets

pub tickets : (base : CellMap) (n : ℕ) (ls : List Layer) (h : History) → StandsForHistory (view base n ls) h → length h ≡ n + length ls
tickets base n ls h s = let k = keeps_length ls s.above s.layers in ap length s.whole ∙ omega (arith, length-append s.below s.above, s.count)

-- an unfinished ticket lies above the base
pub open_above : (base : CellMap) (n : ℕ) (ls : List Layer) (h : History) (t : ℕ) → StandsForHistory (view base n ls) h → IsUnfinished h t → (n < t) × (t ≤ n + length ls)
open_above base n ls h t s u =
    let whole : (content_of (s.below ++ s.above) t).finished ≡ false = subst (λ (g : History). (content_of g t).finished ≡ false) s.whole u.mark in
    let below : t ≤ n → ⊥ = λ le. clash (sym (all_front (λ (c : Content). c.finished ≡ true) s.below s.above (t - 1) no_content s.squashed (omega (arith, u.drawn, s.count))) ∙ whole) in
    (omega (arith, below), omega (arith, tickets base n ls h s, u.known))
  where
    clash : true ≡ false → ⊥
    clash e = cc

-- ---- the calls

pub stands_push : (base : CellMap) (n : ℕ) (ls : List Layer) (h : History) (l : Layer) (c : Content) → StandsForHistory (view base n ls) h → KeepsContent (kept_of l) c → IsSettled c → StandsForHistory (view base n (ls ++ l ∷ [])) (h ++ c ∷ [])
stands_push base n ls h l c s t settled = record {
  below = s.below;
  above = s.above ++ c ∷ [];
  whole = ap (λ (g : History). g ++ c ∷ []) s.whole ∙ append_assoc s.below s.above (c ∷ []);
  count = s.count;
  squashed = s.squashed;
  base = s.base;
  layers = keeps_push ls s.above l c s.layers t;
  settled = all-append IsSettled h (c ∷ []) s.settled (settled, tt);
}

pub stands_set : (base : CellMap) (n : ℕ) (ls : List Layer) (h : History) (at m : ℕ) (l : Layer) (c : Content) → StandsForHistory (view base n ls) h → KeepsContent (kept_of l) c → IsSettled c → m ≡ n + at → StandsForHistory (view base n (set ls at l)) (set h m c)
stands_set base n ls h at m l c s t settled place = record {
  below = s.below;
  above = set s.above at c;
  whole = ap (λ (g : History). set g m c) s.whole ∙ set_above s.below s.above at m c (place ∙ ap (λ (k : ℕ). k + at) (sym s.count));
  count = s.count;
  squashed = s.squashed;
  base = s.base;
  layers = keeps_set ls s.above at l c s.layers t;
  settled = all-set IsSettled h m c s.settled settled;
}

-- the layer at a ticket's place keeps its content
pub keeps_ticket : (base : CellMap) (n : ℕ) (ls : List Layer) (h : History) (at t : ℕ) (l : Layer) → StandsForHistory (view base n ls) h → at < length ls → t - 1 ≡ n + at → l ≡ get_or ls at l → KeepsContent (kept_of l) (content_of h t)
keeps_ticket base n ls h at t l s within place is =
    let kept = keeps_at ls s.above at l no_content s.layers within in
    let here : content_of h t ≡ get_or s.above at no_content = ap (λ (g : History). get_or g (t - 1) no_content) s.whole ∙ get_above s.below s.above at (t - 1) no_content (place ∙ ap (λ (k : ℕ). k + at) (sym s.count)) in
    subst (λ (c : Content). KeepsContent (kept_of l) c) (sym here) (subst (λ (k : Layer). KeepsContent (kept_of k) (get_or s.above at no_content)) (sym is) kept)

finished_taken : (ls : List Layer) (cs : History) → KeepsContents (map kept_of ls) cs → AllByRecursion (λ (c : Content). c.finished ≡ true) (take (finished_count ls) cs)
finished_taken [] cs s = tt
finished_taken (l ∷ ls) [] s = absurd s
finished_taken (l ∷ ls) (c ∷ cs) s = go l.finished refl (finished_taken ls cs s.1)
  where
    go : (b : Bool) → l.finished ≡ b → AllByRecursion (λ (d : Content). d.finished ≡ true) (take (finished_count ls) cs) → AllByRecursion (λ (d : Content). d.finished ≡ true) (take (cond b (suc (finished_count ls)) 0) (c ∷ cs))
    go true e r = (sym s.0.mark ∙ e, r)
    go false e r = tt

unfinished_next : (ls : List Layer) (cs : History) → KeepsContents (map kept_of ls) cs → BeginsUnfinished (drop (finished_count ls) cs)
unfinished_next [] [] s = tt
unfinished_next [] (c ∷ cs) s = absurd s
unfinished_next (l ∷ ls) [] s = absurd s
unfinished_next (l ∷ ls) (c ∷ cs) s = go l.finished refl (unfinished_next ls cs s.1)
  where
    go : (b : Bool) → l.finished ≡ b → BeginsUnfinished (drop (finished_count ls) cs) → BeginsUnfinished (drop (cond b (suc (finished_count ls)) 0) (c ∷ cs))
    go true e r = r
    go false e r = sym s.0.mark ∙ e

pub count_within : (ls : List Layer) → finished_count ls ≤ length ls
count_within [] = omega arith
count_within (l ∷ ls) = go l.finished (count_within ls)
  where
    go : (b : Bool) → finished_count ls ≤ length ls → cond b (suc (finished_count ls)) 0 ≤ suc (length ls)
    go true r = omega arith
    go false r = omega arith

-- the first unfinished content is the lowest that is kept
pub begins_unfinished : (base : CellMap) (n : ℕ) (ls : List Layer) (h : History) → StandsForHistory (view base n ls) h → BeginsUnfinished (drop (n + finished_count ls) h)
begins_unfinished base n ls h s =
    let rest : drop (n + finished_count ls) h ≡ drop (finished_count ls) s.above = ap (λ (g : History). drop (n + finished_count ls) g) s.whole ∙ drop_above s.below s.above (finished_count ls) (n + finished_count ls) (ap (λ (k : ℕ). k + finished_count ls) (sym s.count)) in
    subst BeginsUnfinished (sym rest) (unfinished_next ls s.above s.layers)

-- the finished front goes below
pub stands_squash : (base new : CellMap) (n : ℕ) (ls : List Layer) (h : History) → StandsForHistory (view base n ls) h → ((e f : List ℕ) → new e f ≡ unwrap_or (found_through (take (finished_count ls) ls) e f) (base e f))
    → StandsForHistory (view new (n + finished_count ls) (drop (finished_count ls) ls)) h
stands_squash base new n ls h s b =
    let k = finished_count ls in
    let within = count_within ls in
    let same = keeps_length ls s.above s.layers in
    record {
      below = s.below ++ take k s.above;
      above = drop k s.above;
      whole = s.whole ∙ ap (λ (cs : History). s.below ++ cs) (sym (take-append-drop k s.above)) ∙ sym (append_assoc s.below (take k s.above) (drop k s.above));
      count = omega (arith, length-append s.below (take k s.above), length-take-le k s.above (omega arith), s.count);
      squashed = all-append (λ (c : Content). c.finished ≡ true) s.below (take k s.above) s.squashed (finished_taken ls s.above s.layers);
      base = λ e f.
          b e f
          ∙ ap (λ (m : Option Cell). unwrap_or (found_through (take k ls) e f) m) (s.base e f)
          ∙ sym (flattened_over_layers (take k ls) (take k s.above) (flattened s.below) e f (keeps_take ls s.above k s.layers))
          ∙ sym (ap (λ (m : CellMap). m e f) (flattened_over-append no_cells s.below (take k s.above)));
      layers = keeps_drop ls s.above k s.layers;
      settled = s.settled;
    }
