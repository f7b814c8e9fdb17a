-- What is read piece by piece.
use Rattle.std.proofs.Common.{◌≡◌, ℕ, ◌+◌, ◌-◌, ◌<◌, List, ◌++◌, length, take, drop, sym, ◌∙◌, ap, arith}
use Rattle.std.proofs.Math.Seq.{take-add}
use Rattle.std.proofs.lemmas.List.{drop-drop}

pub more_read : (old new : List ℕ) (at : ℕ) (file : List ℕ) → old ≡ take (length old) (drop at file) → length old < length new
    → new ≡ old ++ take (length new - length old) (drop (at + length old) file) → new ≡ take (length new) (drop at file)
more_read old new at file before grows piece =
    let k = length new - length old in
    let size : length old + k ≡ length new = omega arith in
    piece ∙ ap (λ l. l ++ take k (drop (at + length old) file)) before ∙ ap (λ l. take (length old) (drop at file) ++ take k l) (sym (drop-drop (length old) at file))
    ∙ sym (take-add (length old) k (drop at file)) ∙ ap (λ (n : ℕ). take n (drop at file)) size
