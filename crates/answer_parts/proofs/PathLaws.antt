-- Paths as they are told, one step further, and a test on joined lists.
use Rattle.std.proofs.Common.{◌≡◌, ℕ, ◌+◌, ◌<◌, List, [], ◌∷◌, ◌++◌, length, map, take, get_or, refl, sym, ap, ◌∙◌, append_assoc, Bool, ◌||◌}
use Rattle.std.proofs.lemmas.List.{map-append}
use Rattle.std.specs.Prelude.{codes}
use Rattle.std.specs.List.{join_with_byte, list_any}
use Rattle.check_model.proofs.ListLaws.{next_taken}
use Rattle.gql_value.specs.Json.{dotted}
use Rattle.answer_model.specs.declared.step.Step.{Step}
use Rattle.answer_model.specs.Paths.{step_text, path_text}

joined_more : (b : ℕ) (first : List ℕ) (pieces : List (List ℕ)) (next : List ℕ)
    → join_with_byte b (first ∷ (pieces ++ next ∷ [])) ≡ join_with_byte b (first ∷ pieces) ++ (b ∷ next)
joined_more b first [] next = refl
joined_more b first (p ∷ ps) next =
    ap (λ joined. first ++ (b ∷ joined)) (joined_more b p ps next)
    ∙ sym (append_assoc first (b ∷ join_with_byte b (p ∷ ps)) (b ∷ next))

-- the text of a path with one step more
pub path_more : (path : List Step) (i : ℕ) (step : Step) → i < length path → step ≡ get_or path i step
    → path_text (take (i + 1) path) ≡ path_text (take i path) ++ (46 ∷ step_text step)
path_more path i step within is =
    ap path_text (next_taken path i step within is)
    ∙ ap (λ pieces. dotted (codes "data" ∷ pieces)) (map-append step_text (take i path) (step ∷ []))
    ∙ joined_more 46 (codes "data") (map step_text (take i path)) (step_text step)

-- a test on what is made of each item
pub any_map : {X Y : Type 0} (p : Y → Bool) (f : X → Y) (xs : List X) → list_any p (map f xs) ≡ list_any (λ x. p (f x)) xs
any_map p f [] = refl
any_map p f (x ∷ xs) = ap (λ b. p (f x) || b) (any_map p f xs)
