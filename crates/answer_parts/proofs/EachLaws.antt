-- Something for each of some items, or the first refusal: one item further.
use Rattle.std.proofs.Common.{◌≡◌, ℕ, ◌+◌, ◌<◌, List, [], ◌∷◌, ◌++◌, length, drop, get_or, refl, sym, ap, ◌∙◌, append_assoc, append-nil}
use Rattle.std.specs.List.{enumerate_from}
use Rattle.std.specs.Result.{result_map_both}
use Rattle.std.specs.declared.result.Result.{Result}
use Rattle.std.specs.declared.result.Result.TheVariants.{Ok, Err}
use Rattle.check_model.proofs.ListLaws.{next_left}
use Rattle.answer_model.specs.Paths.{onto, each}

-- what was given so far, and what the items that are left give
abbrev pub after : {Y E : Type 0} → List Y → Result (List Y) E → Result (List Y) E
after done more = result_map_both (λ ys. done ++ ys) (λ e. e) more

onto_after : {Y E : Type 0} (done : List Y) (y : Y) (more : Result (List Y) E) → after done (onto (Ok y) more) ≡ after (done ++ y ∷ []) more
onto_after done y (Ok ys) = ap Ok (sym (append_assoc done (y ∷ []) ys))
onto_after done y (Err e) = refl

-- an item gives something
pub each_next : {X Y E : Type 0} (f : X → Result Y E) (x : X) (rest more : List X) (done : List Y) (y : Y) (whole : Result (List Y) E)
    → rest ≡ x ∷ more → f x ≡ Ok y → whole ≡ after done (each f rest)
    → whole ≡ after (done ++ y ∷ []) (each f more)
each_next f x rest more done y whole is here so_far =
    so_far
    ∙ ap (λ xs. after done (each f xs)) is
    ∙ ap (λ r. after done (onto r (each f more))) here
    ∙ onto_after done y (each f more)

-- an item is refused
pub each_stop : {X Y E : Type 0} (f : X → Result Y E) (x : X) (rest more : List X) (done : List Y) (e : E) (whole : Result (List Y) E)
    → rest ≡ x ∷ more → f x ≡ Err e → whole ≡ after done (each f rest)
    → whole ≡ Err e
each_stop f x rest more done e whole is here so_far =
    so_far
    ∙ ap (λ xs. after done (each f xs)) is
    ∙ ap (λ r. after done (onto r (each f more))) here

-- nothing is left
pub each_done : {X Y E : Type 0} (f : X → Result Y E) (rest : List X) (done : List Y) (whole : Result (List Y) E)
    → rest ≡ [] → whole ≡ after done (each f rest) → whole ≡ Ok done
each_done f rest done whole none so_far =
    so_far ∙ ap (λ xs. after done (each f xs)) none ∙ ap Ok (append-nil done)

-- ---- items with their places

pub next_item : {X : Type 0} (xs : List X) (i : ℕ) (x : X) → i < length xs → x ≡ get_or xs i x
    → enumerate_from i (drop i xs) ≡ (i, x) ∷ enumerate_from (i + 1) (drop (i + 1) xs)
next_item xs i x within is = ap (enumerate_from i) (next_left xs i x within is)
