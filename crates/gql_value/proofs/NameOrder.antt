-- A map from names to texts has its entries in the order of the names.
use Rattle.std.proofs.Common.{◌≡◌, ℕ, ◌+◌, ◌<◌, List, [], ◌∷◌, length, map, take, get_or, Bor, Less, Equal, Greater, refl, ap, sym, ◌∙◌}
use Rattle.std.proofs.lemmas.List.{take_more}
use Rattle.std.proofs.lemmas.List.Sums.{fold_push}
use Rattle.std.specs.Ordering.{match_ordering}
use Rattle.std.specs.BTreeMap.{insert_entry}
use Rattle.text_types.specs.Texts.{text_cmp}
use Rattle.gql_value.specs.Sorted.{by_name}

-- a borrowed name beside what it leads to
abbrev pub named : {X : Type 0} → Bor (List ℕ) × X → List ℕ × X
named e = (e.0.now, e.1)

-- borrowed names are in the order of the names
pub map-named-insert_entry : {X : Type 0} (es : List (Bor (List ℕ) × X)) (k : Bor (List ℕ)) (x : X)
    → map named (insert_entry (λ a b. text_cmp a.now b.now) es k x) ≡ insert_entry text_cmp (map named es) k.now x
map-named-insert_entry [] k x = refl
map-named-insert_entry (e ∷ es) k x =
    elim (text_cmp k.now e.0.now) as (λ o. map named (match_ordering o ((k, x) ∷ e ∷ es) ((e.0, x) ∷ es) (e ∷ insert_entry (λ a b. text_cmp a.now b.now) es k x))
    ≡ match_ordering o ((k.now, x) ∷ named e ∷ map named es) ((e.0.now, x) ∷ map named es) (named e ∷ insert_entry text_cmp (map named es) k.now x)) [
      | Less ↦ refl
      | Equal ↦ refl
      | Greater ↦ ap (λ more. named e ∷ more) (map-named-insert_entry es k x)
    ]

-- one more member by name
pub by_name-take : {X : Type 0} (members : List (List ℕ × X)) (i : ℕ) (m : List ℕ × X) → i < length members → m ≡ get_or members i m
    → by_name (take (i + 1) members) ≡ insert_entry text_cmp (by_name (take i members)) m.0 m.1
by_name-take members i m h at =
    ap by_name (take_more members i m h)
    ∙ fold_push (λ sorted n. insert_entry text_cmp sorted n.0 n.1) [] (take i members) (get_or members i m)
    ∙ ap (λ n. insert_entry text_cmp (by_name (take i members)) n.0 n.1) (sym at)
