-- One item more at the end of what was written.
use Rattle.std.proofs.Common.{◌≡◌, ℕ, ◌+◌, ◌<◌, List, [], ◌∷◌, ◌++◌, length, map, take, get_or, ap, sym, ◌∙◌, arith}
use Rattle.std.proofs.lemmas.List.{take_more, length-map, map-append, flat_map_more}
use Rattle.std.specs.List.{flat_map}
use Rattle.gql_value.specs.Text.{joined}
use Rattle.gql_value.proofs.Joining.{byte_before, join_with_byte-take, at_map}

-- the texts of a list up to the item at i, and that one
pub joined-more : {X : Type 0} (f : X → List ℕ) (xs : List X) (i : ℕ) (x : X) → i < length xs → x ≡ get_or xs i x
    → joined (take (i + 1) (map f xs)) ≡ joined (take i (map f xs)) ++ (byte_before 44 i ++ f x)
joined-more f xs i x h at = join_with_byte-take 44 (map f xs) i (f x) (omega (arith, length-map xs f)) (at_map f xs i x at)

-- the members up to the one at i, and that one
pub members-more : {X Y : Type 0} (f : Y → List ℕ) (g : X → Y) (xs : List X) (i : ℕ) (x : X) → i < length xs → x ≡ get_or xs i x
    → flat_map f (map g (take (i + 1) xs)) ≡ flat_map f (map g (take i xs)) ++ f (g x)
members-more f g xs i x h at =
    ap (λ ys. flat_map f (map g ys)) (take_more xs i x h)
    ∙ ap (flat_map f) (map-append g (take i xs) (get_or xs i x ∷ []))
    ∙ sym (flat_map_more f [] (map g (take i xs)) (g (get_or xs i x)))
    ∙ ap (λ y. flat_map f (map g (take i xs)) ++ f (g y)) (sym at)
