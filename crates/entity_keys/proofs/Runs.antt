-- One run of a text that is written with its escapes: what needs none, and the byte behind it.
use Rattle.std.proofs.Common.{◌≡◌, ℕ, zero, suc, ◌+◌, ◌<◌, ◌==◌, false, List, ◌++◌, take, drop, length, get_or, ap, sym, subst, ◌∙◌, arith, append_assoc, IsUtf8}
use Rattle.std.specs.Str.{IsCharBoundary}
use Rattle.std.proofs.lemmas.Bool.Decides.{nat_tests}
use Rattle.std.proofs.lemmas.List.{get_or-take, get_or-drop, take-append-drop, drop_more, length-drop}
use Rattle.std.proofs.lemmas.List.Concat.{flat_map-append}
use Rattle.std.proofs.lemmas.Str.{IsUtf8-drop, IsCharBoundary-before_ascii, IsCharBoundary-after_ascii}
use Rattle.cache_model.specs.Keys.{escaped, escaped_byte}
use Rattle.entity_keys.specs.Escapes.{IsEscaped}

pub positive : (n : ℕ) → (n == 0) ≡ false → 0 < n
positive zero e = absurd cc
positive (suc n) e = omega arith

mark_is_ascii : (b : ℕ) → IsEscaped b → b < 128
mark_is_ascii b e = grind (arith, nat_tests)

pub before_end : (bs : List ℕ) (i : ℕ) → 0 < length (drop i bs) → i < length bs
before_end bs i h = omega (arith, length-drop i bs)

-- the text may be cut behind its mark
pub cut_behind : (bs : List ℕ) (i : ℕ) → IsUtf8 bs → i < length bs → IsEscaped (get_or bs i 0) → IsCharBoundary (drop i bs) 1
cut_behind bs i u l m =
    let first : get_or (drop i bs) 0 0 ≡ get_or bs i 0 = get_or-drop i bs 0 0 ∙ ap (λ n. get_or bs n 0) (omega arith) in
    IsCharBoundary-after_ascii (drop i bs) 0
    (IsUtf8-drop bs i u (IsCharBoundary-before_ascii bs i l (mark_is_ascii (get_or bs i 0) m)))
    (omega (arith, length-drop i bs))
    (subst (λ b. b < 128) (sym first) (mark_is_ascii (get_or bs i 0) m))

pub behind_is_text : (bs : List ℕ) (i : ℕ) → IsUtf8 bs → i < length bs → IsEscaped (get_or bs i 0) → IsUtf8 (drop 1 (drop i bs))
behind_is_text bs i u l m =
    IsUtf8-drop (drop i bs) 1
    (IsUtf8-drop bs i u (IsCharBoundary-before_ascii bs i l (mark_is_ascii (get_or bs i 0) m)))
    (cut_behind bs i u l m)

escaped_run : (bs : List ℕ) (i : ℕ) → i < length bs → escaped (take i bs) ≡ take i bs
    → escaped bs ≡ take i bs ++ (escaped_byte (get_or bs i 0) ++ escaped (drop (i + 1) bs))
escaped_run bs i l plain =
    ap escaped (sym (take-append-drop i bs))
    ∙ flat_map-append escaped_byte (take i bs) (drop i bs)
    ∙ ap (λ z. z ++ escaped (drop i bs)) plain
    ∙ ap (λ z. take i bs ++ escaped z) (drop_more bs i 0 l)

pub run_written : (key bs : List ℕ) (i : ℕ) → i < length bs → escaped (take i bs) ≡ take i bs
    → ((key ++ take i bs) ++ escaped_byte (get_or bs i 0)) ++ escaped (drop (i + 1) bs) ≡ key ++ escaped bs
run_written key bs i l plain =
    append_assoc (key ++ take i bs) (escaped_byte (get_or bs i 0)) (escaped (drop (i + 1) bs))
    ∙ append_assoc key (take i bs) (escaped_byte (get_or bs i 0) ++ escaped (drop (i + 1) bs))
    ∙ ap (λ z. key ++ z) (sym (escaped_run bs i l plain))

pub mark_byte : (bs : List ℕ) (i : ℕ) → get_or (take 1 (drop i bs)) 0 0 ≡ get_or bs i 0
mark_byte bs i = get_or-take 1 (drop i bs) 0 0 (omega arith) ∙ get_or-drop i bs 0 0 ∙ ap (λ n. get_or bs n 0) (omega arith)

pub drop_behind : (bs : List ℕ) (i : ℕ) → i < length bs → drop 1 (drop i bs) ≡ drop (i + 1) bs
drop_behind bs i l = ap (drop 1) (drop_more bs i 0 l)
