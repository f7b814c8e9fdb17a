-- What layers say together.
use Rattle.std.proofs.Common.{◌≡◌, ◌≢◌, ℕ, ◌+◌, ◌-◌, ◌<◌, ◌≤◌, List, [], ◌∷◌, ◌++◌, take, length, get_or, Option, refl, sym, ap, ◌∙◌, arith}
use Rattle.std.proofs.lemmas.List.{take_more}
use Rattle.cache_model.specs.declared.cell.Cell.{Cell}
use Rattle.cache_model.specs.Maps.{or_else}
use Rattle.cache_model.proofs.EffectLaws.{or_else_assoc, or_else_none}
use Rattle.layer_store.specs.declared.layer.Layer.{Layer}
use Rattle.layer_store.specs.declared.fields.Found.{Found}
use Rattle.layer_store.specs.declared.fields.Found.TheVariants.{Cell as FoundCell, Gone, Nothing}
use Rattle.layer_store.specs.Layers.{found_by, found_through, IsFound}

-- the last layer is the newest
found_through-push : (ls : List Layer) (l : Layer) (e f : List ℕ) → found_through (ls ++ l ∷ []) e f ≡ or_else (found_by l.changes e f) (found_through ls e f)
found_through-push [] l e f = sym (or_else_none (found_by l.changes e f))
found_through-push (k ∷ ls) l e f = ap (λ (o : Option (Option Cell)). or_else o (found_by k.changes e f)) (found_through-push ls l e f) ∙ or_else_assoc (found_by l.changes e f) (found_through ls e f) (found_by k.changes e f)

-- what the last layer says is what all say
pub found_last : (r : Found) (a rest all : Option (Option Cell)) → IsFound r a → r ≢ Nothing → all ≡ or_else a rest → IsFound r all
found_last (FoundCell c) a rest all h n e = rw (e, h) refl
found_last Gone a rest all h n e = rw (e, h) refl
found_last Nothing a rest all h n e = absurd (n refl)

-- the layer below a place speaks first
pub last_layer : (ls : List Layer) (at : ℕ) (x : Layer) (e f : List ℕ) → 0 < at → at ≤ length ls → x ≡ get_or ls (at - 1) x → found_through (take at ls) e f ≡ or_else (found_by x.changes e f) (found_through (take (at - 1) ls) e f)
last_layer ls at x e f pos le is =
    let up : at ≡ at - 1 + 1 = omega arith in
    let t : take at ls ≡ take (at - 1) ls ++ x ∷ [] = ap (λ (n : ℕ). take n ls) up ∙ take_more ls (at - 1) x (omega arith) ∙ ap (λ (y : Layer). take (at - 1) ls ++ y ∷ []) (sym is) in
    ap (λ (ks : List Layer). found_through ks e f) t ∙ found_through-push (take (at - 1) ls) x e f

-- one more layer is put below those above it
pub merge_turn : (ls : List Layer) (at : ℕ) (x : Layer) (e f : List ℕ) (now before : Option (Option Cell)) → 0 < at → at ≤ length ls → x ≡ get_or ls (at - 1) x → now ≡ or_else before (found_by x.changes e f)
    → or_else now (found_through (take (at - 1) ls) e f) ≡ or_else before (found_through (take at ls) e f)
merge_turn ls at x e f now before pos le is n =
    rw (n, last_layer ls at x e f pos le is) (or_else_assoc before (found_by x.changes e f) (found_through (take (at - 1) ls) e f))
