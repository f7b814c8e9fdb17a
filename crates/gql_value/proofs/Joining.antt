-- Pieces with a byte between, one more at a time.
use Rattle.std.proofs.Common.{◌≡◌, ℕ, ◌+◌, ◌<◌, ◌==◌, List, [], ◌∷◌, ◌++◌, length, map, take, get_or, if◌then◌else◌, refl, ap, sym, ◌∙◌, arith, append_assoc}
use Rattle.std.proofs.Math.ListN.{get_or-map}
use Rattle.std.proofs.lemmas.Bool.Decides.{nat_tests}
use Rattle.std.proofs.lemmas.List.{take_more, length-take-le}
use Rattle.std.specs.List.{join_with_byte}

-- what stands before a piece that so many pieces precede
abbrev pub byte_before : ℕ → ℕ → List ℕ
byte_before b count = if count == 0 then [] else b ∷ []

byte_before-more : (b count : ℕ) (next : List ℕ) → 0 < count → byte_before b count ++ next ≡ b ∷ next
byte_before-more b count next h = grind (arith, nat_tests)

join_with_byte-push : (b : ℕ) (pieces : List (List ℕ)) (next : List ℕ) → join_with_byte b (pieces ++ next ∷ []) ≡ join_with_byte b pieces ++ (byte_before b (length pieces) ++ next)
join_with_byte-push b [] next = refl
join_with_byte-push b (piece ∷ []) next = refl
join_with_byte-push b (piece ∷ second ∷ pieces) next =
    let rest : List (List ℕ) = second ∷ pieces in
    let before = piece ++ (b ∷ join_with_byte b rest) in
    ap (λ joined. piece ++ (b ∷ joined)) (join_with_byte-push b (second ∷ pieces) next ∙ ap (λ more. join_with_byte b rest ++ more) (byte_before-more b (length rest) next (omega arith)))
    ∙ sym (append_assoc piece (b ∷ join_with_byte b rest) (b ∷ next))
    ∙ ap (λ more. before ++ more) (sym (byte_before-more b (length (piece ∷ rest)) next (omega arith)))

-- the pieces up to the one at i, and that one
pub join_with_byte-take : (b : ℕ) (pieces : List (List ℕ)) (i : ℕ) (piece : List ℕ) → i < length pieces → piece ≡ get_or pieces i piece
    → join_with_byte b (take (i + 1) pieces) ≡ join_with_byte b (take i pieces) ++ (byte_before b i ++ piece)
join_with_byte-take b pieces i piece h at =
    ap (join_with_byte b) (take_more pieces i piece h)
    ∙ join_with_byte-push b (take i pieces) (get_or pieces i piece)
    ∙ ap (λ n. join_with_byte b (take i pieces) ++ (byte_before b n ++ get_or pieces i piece)) (length-take-le i pieces (omega arith))
    ∙ ap (λ p. join_with_byte b (take i pieces) ++ (byte_before b i ++ p)) (sym at)

-- what stands at i stands there as it is seen
pub at_map : {X Y : Type 0} (f : X → Y) (xs : List X) (i : ℕ) (x : X) → x ≡ get_or xs i x → f x ≡ get_or (map f xs) i (f x)
at_map f xs i x at = ap f at ∙ sym (get_or-map f xs i x)
