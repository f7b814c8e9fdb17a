-- What is said of one cell, after one more thing is put below.
use Rattle.std.proofs.Common.{◌≡◌, ℕ, Bool, true, false, ◌||◌, cond, List, [], ◌∷◌, ◌++◌, Option, Some, None, refl, sym, ap, ◌∙◌}
use Rattle.std.specs.Prelude.{is_some, bytes_eq}
use Rattle.std.specs.declared.cmp.Ordering.{Ordering}
use Rattle.std.specs.declared.cmp.Ordering.TheVariants.{Less, Equal, Greater}
use Rattle.std.specs.Ordering.{is_eq, ordering_reverse}
use Rattle.std.specs.Cmp.{eq_by_cmp_equiv}
use Rattle.std.specs.Map.{lookup, keys_of}
use Rattle.std.specs.List.Sorted.{IsStrictlySortedBy}
use Rattle.std.specs.BTreeMap.{is_at}
use Rattle.std.specs.List.{list_any}
use Rattle.std.proofs.lemmas.List.Folds.{list_any-append}
use Rattle.std.proofs.lemmas.Map.{lookup-none}
use Rattle.std.proofs.lemmas.Map.Keys.{IsDistinct-from_sorted}
use Rattle.std.proofs.lemmas.Map.Entries.{none_past_head}
use Rattle.std.specs.Cmp.Lexicographic.{nat_list_cmp_total, texts_ties}
use Rattle.std.proofs.lemmas.Map.Lookups.{exact_bytes}
use Rattle.text_types.specs.Texts.{text_cmp}
use Rattle.cache_model.specs.declared.cell.Cell.{Cell}
use Rattle.cache_model.specs.declared.write.Write.{Write}
use Rattle.cache_model.specs.Keys.{field_name_of}
use Rattle.cache_model.specs.Maps.{or_else, hit, effect}
use Rattle.cache_model.proofs.EffectLaws.{or_else_assoc, or_else_none}
use Rattle.layer_store.specs.Layers.{gone_if}

-- the key that a look-up finds is the one that it looks for
pub found_text : (f k : List ℕ) → is_at (text_cmp f) k ≡ true → f ≡ k
found_text f k e = exact_bytes f k (cmp_equal (text_cmp f k) e)
  where
    cmp_equal : (o : Ordering) → is_eq o ≡ true → o ≡ Equal
    cmp_equal Less e = absurd cc
    cmp_equal Equal e = refl
    cmp_equal Greater e = absurd cc

-- a text is equal to itself in the order of texts
pub text_equal : (t : List ℕ) → text_cmp t t ≡ Equal
text_equal t = reverse_same (text_cmp t t) (nat_list_cmp_total.antisymm t t)
  where
    reverse_same : (o : Ordering) → o ≡ ordering_reverse o → o ≡ Equal
    reverse_same Less e = absurd cc
    reverse_same Equal e = refl
    reverse_same Greater e = absurd cc

-- a cell goes below a part that says nothing of it
pub put_below : (b : Bool) (x : Option Cell) (own below : Option (Option Cell)) → (b ≡ true → is_some (or_else own below) ≡ false) → or_else (cond b (Some x) own) below ≡ or_else (or_else own below) (cond b (Some x) None)
put_below true x (Some y) below n = absurd (cc (n refl))
put_below true x None (Some y) n = absurd (cc (n refl))
put_below true x None None n = refl
put_below false x own below n = sym (or_else_none (or_else own below))

-- what some writes say, and then some others
pub effect-append : (vs ws : List Write) (e f : List ℕ) → effect (vs ++ ws) e f ≡ or_else (effect ws e f) (effect vs e f)
effect-append [] ws e f = sym (or_else_none (effect ws e f))
effect-append (v ∷ vs) ws e f = ap (λ (a : Option (Option Cell)). or_else a (hit v e f)) (effect-append vs ws e f) ∙ or_else_assoc (effect ws e f) (effect vs e f) (hit v e f)

-- one more write is put below those that came after it
pub write_turn : (new old : List Write) (w : Write) (e f : List ℕ) (now before : Option (Option Cell)) → old ≡ new ++ w ∷ [] → now ≡ or_else before (hit w e f) → or_else now (effect new e f) ≡ or_else before (effect old e f)
write_turn new old w e f now before o n =
    rw (n, o) (or_else_assoc before (hit w e f) (effect new e f) ∙ ap (λ (a : Option (Option Cell)). or_else before a) (sym (effect-append new (w ∷ []) e f)))

-- the test of a look-up, turned round
pub turned : (a b : List ℕ) → is_at (text_cmp a) b ≡ bytes_eq b a
turned a b = (eq_by_cmp_equiv nat_list_cmp_total).symm a b ∙ sym (texts_ties b a)

-- two tombstones, one below the other
pub gone_or : (a : Option (Option Cell)) (b d : Bool) → or_else (or_else a (gone_if b)) (gone_if d) ≡ or_else a (gone_if (b || d))
gone_or (Some x) b d = refl
gone_or None true d = refl
gone_or None false d = refl

or_false : (b : Bool) → b || false ≡ b
or_false true = refl
or_false false = refl

-- one more name is put below
pub name_turn : (old new : List (List ℕ)) (x f : List ℕ) (now before start : Option (Option Cell)) → new ≡ old ++ x ∷ [] → now ≡ or_else before (gone_if (bytes_eq x (field_name_of f)))
    → before ≡ or_else start (gone_if (list_any (λ name. bytes_eq name (field_name_of f)) old)) → now ≡ or_else start (gone_if (list_any (λ name. bytes_eq name (field_name_of f)) new))
name_turn old new x f now before start o n b =
    let named = λ (name : List ℕ). bytes_eq name (field_name_of f) in
    n
    ∙ ap (λ (a : Option (Option Cell)). or_else a (gone_if (named x))) b
    ∙ gone_or start (list_any named old) (named x)
    ∙ ap (λ (t : Bool). or_else start (gone_if t)) (sym (ap (λ (names : List (List ℕ)). list_any named names) o ∙ list_any-append named old (x ∷ []) ∙ ap (λ (t : Bool). list_any named old || t) (or_false (named x))))

-- the cells of a part, then its names, then its object
pub all_below : (a cells : Option (Option Cell)) (named dropped : Bool) → or_else (or_else (or_else a cells) (gone_if named)) (gone_if dropped) ≡ or_else a (or_else cells (gone_if (dropped || named)))
all_below (Some x) cells named dropped = refl
all_below None (Some x) named dropped = refl
all_below None None true true = refl
all_below None None true false = refl
all_below None None false true = refl
all_below None None false false = refl

cell_step : (b : Bool) (a rest : Option (Option Cell)) (v : Option Cell) → or_else (or_else a (cond b (Some v) None)) rest ≡ or_else a (cond b (Some v) rest)
cell_step true (Some x) rest v = refl
cell_step true None rest v = refl
cell_step false (Some x) rest v = refl
cell_step false None rest v = refl

-- one more cell of some entries is put below
pub cell_turn : (old rest : List (List ℕ × Option Cell)) (k f : List ℕ) (v : Option Cell) (now before : Option (Option Cell)) → old ≡ (k, v) ∷ rest → now ≡ or_else before (cond (bytes_eq k f) (Some v) None)
    → or_else now (lookup (is_at (text_cmp f)) rest) ≡ or_else before (lookup (is_at (text_cmp f)) old)
cell_turn old rest k f v now before o n = rw (n, o, turned f k) (cell_step (bytes_eq k f) before (lookup (is_at (text_cmp f)) rest) v)

part_step : {X : Type 0} (says : Option X → Option (Option Cell)) (b : Bool) (a : Option (Option Cell)) (v : X) (rest : Option X) → says None ≡ None → (b ≡ true → rest ≡ None) → or_else (or_else a (cond b (says (Some v)) None)) (says rest) ≡ or_else a (says (cond b (Some v) rest))
part_step says true a v rest none n = rw (n refl, none) (or_else_none (or_else a (says (Some v))))
part_step says false a v rest none n = ap (λ (o : Option (Option Cell)). or_else o (says rest)) (or_else_none a)

-- no later entry has the first one's key
pub no_later : {X : Type 0} (k q : List ℕ) (v : X) (rest : List (List ℕ × X)) → IsStrictlySortedBy text_cmp (keys_of ((k, v) ∷ rest)) → is_at (text_cmp q) k ≡ true → lookup (is_at (text_cmp q)) rest ≡ None
no_later k q v rest s e = lookup-none (is_at (text_cmp q)) rest (none_past_head (eq_by_cmp_equiv nat_list_cmp_total) q (k, v) rest (IsDistinct-from_sorted text_cmp (keys_of ((k, v) ∷ rest)) s) e)

pub sorted_rest : {X : Type 0} (k : List ℕ) (v : X) (rest : List (List ℕ × X)) → IsStrictlySortedBy text_cmp (keys_of ((k, v) ∷ rest)) → IsStrictlySortedBy text_cmp (keys_of rest)
unfolding IsStrictlySortedBy
sorted_rest k v rest s = s.1

-- one more object of some entries is put below
pub part_turn : {X : Type 0} (says : Option X → Option (Option Cell)) (old rest : List (List ℕ × X)) (k e : List ℕ) (v : X) (now before : Option (Option Cell)) → says None ≡ None → old ≡ (k, v) ∷ rest → IsStrictlySortedBy text_cmp (keys_of old) → now ≡ or_else before (cond (bytes_eq k e) (says (Some v)) None)
    → or_else now (says (lookup (is_at (text_cmp e)) rest)) ≡ or_else before (says (lookup (is_at (text_cmp e)) old))
part_turn says old rest k e v now before none o s n =
    let sorted : IsStrictlySortedBy text_cmp (keys_of ((k, v) ∷ rest)) = rw o at s in
    rw (n, o, turned e k) (part_step says (bytes_eq k e) before v (lookup (is_at (text_cmp e)) rest) none (λ t. no_later k e v rest sorted (turned e k ∙ t)))
