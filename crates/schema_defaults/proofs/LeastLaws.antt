-- The least line of a list, one item further.
use Rattle.std.proofs.Common.{◌≡◌, ℕ, ◌+◌, ◌<◌, List, length, take, get_or, refl, ap, sym, ◌∙◌}
use Rattle.std.specs.Prelude.{Option, None, Some}
use Rattle.std.specs.List.{fold}
use Rattle.std.proofs.lemmas.List.Sums.{fold_more}
use Rattle.schema_rules.specs.Lines.{earlier, least_by}

pub least_more : {X : Type 0} (line : X → Option ℕ) (xs : List X) (i : ℕ) (x : X) (least found : Option ℕ)
    → i < length xs → x ≡ get_or xs i x → least ≡ least_by line (take i xs) → found ≡ line x
    → earlier least found ≡ least_by line (take (i + 1) xs)
least_more line xs i x least found within is so_far here =
    ap (λ o. earlier o found) so_far
    ∙ ap (earlier (least_by line (take i xs))) (here ∙ ap line is)
    ∙ sym (fold_more (λ o y. earlier o (line y)) None xs i x within)
