-- Folds over what is left of a list, and chunked bodies that have ended.
use Rattle.std.proofs.Common.{◌≡◌, ℕ, ◌+◌, ◌<◌, List, [], ◌∷◌, length, map, drop, get_or, fold, refl, ap, sym, ◌∙◌}
use Rattle.std.proofs.lemmas.List.{drop_more}
use Rattle.http_model.specs.Chunks.{reading, whole, malformed, too_long, with_step, chunk_step, chunk_after}
use Rattle.http_model.specs.declared.chunk.ChunkPhase.{ChunkPhase}
use Rattle.http_model.specs.declared.chunk.ChunkStep.{ChunkStep}

-- the next item, and then the rest
pub fold-drop : {A B : Type 0} (f : B → A → B) (a : B) (xs : List A) (i : ℕ) (x : A) → i < length xs → x ≡ get_or xs i x → fold f a (drop i xs) ≡ fold f (f a x) (drop (i + 1) xs)
fold-drop f a xs i x h at = ap (fold f a) (drop_more xs i x h) ∙ ap (λ y. fold f (f a y) (drop (i + 1) xs)) (sym at)

-- the same of the items as they are seen
pub fold-map-drop : {A B C : Type 0} (f : B → C → B) (h : A → C) (a : B) (xs : List A) (i : ℕ) (x : A) → i < length xs → x ≡ get_or xs i x → fold f a (map h (drop i xs)) ≡ fold f (f a (h x)) (map h (drop (i + 1) xs))
fold-map-drop f h a xs i x l at = ap (λ ys. fold f a (map h ys)) (drop_more xs i x l) ∙ ap (λ y. fold f (f a (h y)) (map h (drop (i + 1) xs))) (sym at)

-- behind the end nothing is read
pub chunk_after-whole : (came bytes : List ℕ) → fold chunk_after (whole came) bytes ≡ whole came
chunk_after-whole came [] = refl
chunk_after-whole came (b ∷ bytes) = chunk_after-whole came bytes

pub chunk_after-malformed : (bytes : List ℕ) → fold chunk_after malformed bytes ≡ malformed
chunk_after-malformed [] = refl
chunk_after-malformed (b ∷ bytes) = chunk_after-malformed bytes

pub chunk_after-too_long : (bytes : List ℕ) → fold chunk_after too_long bytes ≡ too_long
chunk_after-too_long [] = refl
chunk_after-too_long (b ∷ bytes) = chunk_after-too_long bytes

-- one more byte of a body that is being read
pub chunk_after-drop : (phase : ChunkPhase) (came bytes : List ℕ) (i : ℕ) (step : ChunkStep) → i < length bytes → chunk_step phase (get_or bytes i 0) ≡ step
    → fold chunk_after (reading phase came) (drop i bytes) ≡ fold chunk_after (with_step came (get_or bytes i 0) step) (drop (i + 1) bytes)
chunk_after-drop phase came bytes i step h is =
    ap (fold chunk_after (reading phase came)) (drop_more bytes i 0 h)
    ∙ ap (λ s. fold chunk_after (with_step came (get_or bytes i 0) s) (drop (i + 1) bytes)) is
