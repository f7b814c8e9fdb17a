-- The tickets that are open are those that aren't finished in the history.
use Rattle.std.proofs.Common.{◌≡◌, ℕ, zero, suc, ◌-◌, ◌<◌, false, List, [], ◌∷◌, length, get_or, refl, sym, ap, ◌∙◌, arith}
use Rattle.cache_model.specs.History.{History, IsUnfinished, KeepsContent, content_of, is_optimistic}
use Rattle.layer_store.specs.declared.layer.Layer.{Layer}
use Rattle.layer_store.specs.declared.store.Store.{Store}
use Rattle.layer_store.specs.Bases.{base_at}
use Rattle.layer_store.specs.Stores.{Stands, IsOpen, CanFinish, kept_of}
use Rattle.layer_store.proofs.ListLaws.{at_place, at_place_from}
use Rattle.layer_store.proofs.StoreLaws.{tickets, open_above, keeps_ticket}

-- the item at a place within a list
pub item_at : {X : Type 0} (xs : List X) (i : ℕ) → i < length xs → X
item_at [] i l = absurd (omega arith)
item_at (x ∷ xs) zero l = x
item_at (x ∷ xs) (suc i) l = item_at xs i (omega arith)

pub item_is : {X : Type 0} (xs : List X) (i : ℕ) (d : X) (l : i < length xs) → get_or xs i d ≡ item_at xs i l
unfolding item_at
item_is [] i d l = absurd (omega arith)
item_is (x ∷ xs) zero d l = refl
item_is (x ∷ xs) (suc i) d l = item_is xs i d (omega arith)

-- what a kept layer and its content say of each other
kept_content : (store : Store) (h : History) (t : ℕ) → Stands store h → (l : t - store.base_len - 1 < length store.layers.items) → store.base_len < t
    → KeepsContent (kept_of (item_at store.layers.items (t - store.base_len - 1) l)) (content_of h t)
kept_content store h t s l above =
    let at = t - store.base_len - 1 in
    let layer = item_at store.layers.items at l in
    keeps_ticket (base_at store.base) store.base_len store.layers.items h at t layer s l (omega arith) (sym (item_is store.layers.items at layer l))

pub opened : (store : Store) (h : History) (t : ℕ) → Stands store h → IsUnfinished h t → IsOpen store t
opened store h t s u =
    let above = open_above (base_at store.base) store.base_len store.layers.items h t s u in
    let at = t - store.base_len - 1 in
    let within : at < length store.layers.items = omega (arith, above.0, above.1) in
    let layer = item_at store.layers.items at within in
    let kept = kept_content store h t s within above.0 in
    record {
      kept = record { above = above.0; drawn = above.1 };
      mark = at_place_from (λ (l : Layer). l.finished ≡ false) store.layers.items at layer within (ap (λ (l : Layer). l.finished) (item_is store.layers.items at layer within) ∙ kept.mark ∙ u.mark);
    }

pub unfinished : (store : Store) (h : History) (t : ℕ) → Stands store h → IsOpen store t → IsUnfinished h t
unfinished store h t s o =
    let at = t - store.base_len - 1 in
    let within : at < length store.layers.items = omega (arith, o.kept.above, o.kept.drawn) in
    let layer = item_at store.layers.items at within in
    let kept = kept_content store h t s within o.kept.above in
    record {
      drawn = omega (arith, o.kept.above);
      known = omega (arith, o.kept.drawn, tickets (base_at store.base) store.base_len store.layers.items h s);
      mark = sym kept.mark ∙ sym (ap (λ (l : Layer). l.finished) (item_is store.layers.items at layer within)) ∙ at_place (λ (l : Layer). l.finished ≡ false) store.layers.items at layer within o.mark;
    }

pub settled : (store : Store) (h : History) (t : ℕ) → Stands store h → IsUnfinished h t → is_optimistic (content_of h t).kind ≡ false → CanFinish store t
settled store h t s u k =
    let above = open_above (base_at store.base) store.base_len store.layers.items h t s u in
    let at = t - store.base_len - 1 in
    let within : at < length store.layers.items = omega (arith, above.0, above.1) in
    let layer = item_at store.layers.items at within in
    let kept = kept_content store h t s within above.0 in
    record {
      still_open = opened store h t s u;
      kind = at_place_from (λ (l : Layer). is_optimistic l.kind ≡ false) store.layers.items at layer within (ap (λ (l : Layer). is_optimistic l.kind) (item_is store.layers.items at layer within) ∙ ap is_optimistic kept.kind ∙ k);
    }
