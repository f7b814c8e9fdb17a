-- The value of a block string is text where its characters are.
use Rattle.std.proofs.Common.{◌≡◌, ◌≤◌, ◌<◌, ℕ, zero, suc, ◌+◌, ◌==◌, Bool, true, false, cond, List, [], ◌∷◌, ◌++◌, length, take, drop, get_or, map, Option, Some, None, unwrap_or, refl, sym, subst, arith, append_assoc, append-nil, length-append, IsUtf8}
use Rattle.std.specs.List.{prefix_len, list_all, join_with_byte}
use Rattle.std.proofs.Math.Seq.{take-append_seam, drop-append-add}
use Rattle.std.proofs.lemmas.Bool.{eqb-true}
use Rattle.std.proofs.lemmas.Bool.Decides.{nat_tests}
use Rattle.std.proofs.lemmas.Str.{IsUtf8-nil, IsUtf8-append, IsUtf8-take, IsUtf8-drop, IsUtf8-from_ascii, IsCharBoundary-before_ascii, IsCharBoundary-after_ascii}
use Rattle.gql_tokens.specs.Characters.{begins_with, is_white_space}
use Rattle.gql_tokens.specs.Blocks.{in_first_line, lines_of, is_blank, indent_of, lesser, common_indent, dedented, without_blank_ends, block_value_of}
use Rattle.gql_tokens.proofs.NameLaws.{both}
use Rattle.gql_tokens.proofs.BlockLaws.{without_indent-drop}

-- ---- a text may be cut at an ASCII character

at_seam : (front : List ℕ) (b : ℕ) (back : List ℕ) → get_or (front ++ b ∷ back) (length front) 0 ≡ b
at_seam [] b back = refl
at_seam (a ∷ front) b back = at_seam front b back

inside : (front : List ℕ) (b : ℕ) (back : List ℕ) → length front < length (front ++ b ∷ back)
inside front b back = let e = length-append front (b ∷ back) in omega arith

before_ascii : (front : List ℕ) (b : ℕ) (back : List ℕ) → b < 128 → IsUtf8 (front ++ b ∷ back) → IsUtf8 front
before_ascii front b back h u =
    let seam = at_seam front b back in
    subst IsUtf8 (take-append_seam front (b ∷ back)) (IsUtf8-take (front ++ b ∷ back) (length front) u (IsCharBoundary-before_ascii (front ++ b ∷ back) (length front) (inside front b back) (rw seam h)))

behind_ascii : (front : List ℕ) (b : ℕ) (back : List ℕ) → b < 128 → IsUtf8 (front ++ b ∷ back) → IsUtf8 back
behind_ascii front b back h u =
    let seam = at_seam front b back in
    subst IsUtf8 (drop-append-add front (b ∷ back) 1) (IsUtf8-drop (front ++ b ∷ back) (length front + 1) u (IsCharBoundary-after_ascii (front ++ b ∷ back) (length front) u (inside front b back) (rw seam h)))

-- ---- lines

abbrev AllText : List (List ℕ) → Type 0
AllText [] = Unit {0}
AllText (line ∷ lines) = IsUtf8 line × AllText lines

abbrev onto : List ℕ → List (List ℕ) → List (List ℕ)
onto front [] = front ∷ []
onto front (line ∷ lines) = (front ++ line) ∷ lines

onto_none : (lines : List (List ℕ)) → AllText (onto [] lines) → AllText lines
onto_none [] h = tt
onto_none (line ∷ lines) h = h

onto_line : (front : List ℕ) (b : ℕ) (lines : List (List ℕ)) → AllText (onto (front ++ b ∷ []) lines) → AllText (onto front (in_first_line b lines))
onto_line front b [] h = h
onto_line front b (line ∷ lines) h = (subst IsUtf8 (append_assoc front (b ∷ []) line) h.0, h.1)

ended_line : (front : List ℕ) (b : ℕ) (rest : List ℕ) → b < 128 → IsUtf8 (front ++ b ∷ rest) → ((p : List ℕ) → IsUtf8 (p ++ rest) → AllText (onto p (lines_of rest))) → AllText (onto front ([] ∷ lines_of rest))
ended_line front b rest h u more = (subst IsUtf8 (sym (append-nil front)) (before_ascii front b rest h u), onto_none (lines_of rest) (more [] (behind_ascii front b rest h u)))

lines_text : (text front : List ℕ) → IsUtf8 (front ++ text) → AllText (onto front (lines_of text))
lines_text [] front u = (u, tt)
lines_text (b ∷ rest) front u = by (b == 10) (b == 13) refl refl (begins_with (10 ∷ []) rest) refl (lines_text rest)
  where
    by : (x y : Bool) → (b == 10) ≡ x → (b == 13) ≡ y → (z : Bool) → begins_with (10 ∷ []) rest ≡ z → ((p : List ℕ) → IsUtf8 (p ++ rest) → AllText (onto p (lines_of rest))) → AllText (onto front (lines_of (b ∷ rest)))
    by true y ex ey z ez more = let ten = eqb-true b 10 ex in rw ex (ended_line front b rest (omega arith) u more)
    by false true ex ey true ez more = let thirteen = eqb-true b 13 ey in rw (ex, ey, ez) (more front (IsUtf8-append front rest (before_ascii front b rest (omega arith) u) (behind_ascii front b rest (omega arith) u)))
    by false true ex ey false ez more = let thirteen = eqb-true b 13 ey in rw (ex, ey, ez) (ended_line front b rest (omega arith) u more)
    by false false ex ey z ez more = rw (ex, ey) (onto_line front b (lines_of rest) (more (front ++ b ∷ []) (subst IsUtf8 (sym (append_assoc front (b ∷ []) rest)) u)))

-- ---- indents

white_byte : (b : ℕ) → is_white_space b ≡ true → b < 128
white_byte b h = grind (arith, nat_tests)

white_drop : (n : ℕ) (line : List ℕ) → list_all is_white_space (take n line) ≡ true → IsUtf8 line → IsUtf8 (drop n line)
white_drop zero line h u = u
white_drop (suc n) [] h u = IsUtf8-nil
white_drop (suc n) (b ∷ line) h u = white_drop n line (both _ _ h).1 (behind_ascii [] b line (white_byte b (both _ _ h).0) u)

all_take : (p : ℕ → Bool) (n : ℕ) (xs : List ℕ) → list_all p xs ≡ true → list_all p (take n xs) ≡ true
all_take p zero xs h = refl
all_take p (suc n) [] h = refl
all_take p (suc n) (x ∷ xs) h = let parts = both (p x) (list_all p xs) h in rw parts.0 (all_take p n xs parts.1)

prefix_take : (p : ℕ → Bool) (n : ℕ) (xs : List ℕ) → n ≤ prefix_len p xs → list_all p (take n xs) ≡ true
prefix_take p zero xs h = refl
prefix_take p (suc n) [] h = refl
prefix_take p (suc n) (x ∷ xs) h = here (p x) refl h (prefix_take p n xs)
  where
    here : (t : Bool) → p x ≡ t → suc n ≤ cond t (1 + prefix_len p xs) 0 → (n ≤ prefix_len p xs → list_all p (take n xs) ≡ true) → list_all p (take (suc n) (x ∷ xs)) ≡ true
    here true e h more = rw e (more (omega arith))
    here false e h more = absurd (omega arith)

abbrev Below : ℕ → Option ℕ → Type 0
Below n None = Unit {0}
Below n (Some m) = n ≤ m

below_lesser : (n i : ℕ) (o : Option ℕ) → Below n (lesser (Some i) o) → (n ≤ i) × Below n o
below_lesser n i None h = (h, tt)
below_lesser n i (Some m) h = (omega arith, omega arith)

below_own : (o : Option ℕ) → Below (unwrap_or o 0) o
below_own None = tt
below_own (Some m) = omega arith

dropped_text : (n : ℕ) (lines : List (List ℕ)) → Below n (common_indent lines) → AllText lines → AllText (map (λ line. drop n line) lines)
dropped_text n [] b h = tt
dropped_text n (line ∷ lines) b h = by (is_blank line) refl b (dropped_text n lines)
  where
    by : (t : Bool) → is_blank line ≡ t → Below n (common_indent (line ∷ lines)) → (Below n (common_indent lines) → AllText lines → AllText (map (λ line. drop n line) lines)) → AllText (map (λ line. drop n line) (line ∷ lines))
    by true e b more = (white_drop n line (all_take is_white_space n line e) h.0, more (rw e at b) h.1)
    by false e b more = let parts = below_lesser n (indent_of line) (common_indent lines) (rw e at b) in (white_drop n line (prefix_take is_white_space n line parts.0) h.0, more parts.1 h.1)

dedented_text : (lines : List (List ℕ)) → AllText lines → AllText (dedented lines)
dedented_text [] h = tt
dedented_text (first ∷ others) h = (h.0, subst AllText (sym (without_indent-drop (common_indent others) others)) (dropped_text (unwrap_or (common_indent others) 0) others (below_own (common_indent others)) h.1))

-- ---- the lines kept, and joined

drop_text : (n : ℕ) (lines : List (List ℕ)) → AllText lines → AllText (drop n lines)
drop_text zero lines h = h
drop_text (suc n) [] h = tt
drop_text (suc n) (line ∷ lines) h = drop_text n lines h.1

take_text : (n : ℕ) (lines : List (List ℕ)) → AllText lines → AllText (take n lines)
take_text zero lines h = tt
take_text (suc n) [] h = tt
take_text (suc n) (line ∷ lines) h = (h.0, take_text n lines h.1)

line_end_text : IsUtf8 (10 ∷ [])
line_end_text = IsUtf8-from_ascii (10 ∷ []) ascii
  where
    ascii : (i : ℕ) → get_or (10 ∷ []) i 0 < 128
    ascii zero = omega arith
    ascii (suc i) = omega arith

join_text : (lines : List (List ℕ)) → AllText lines → IsUtf8 (join_with_byte 10 lines)
join_text [] h = IsUtf8-nil
join_text (line ∷ []) h = h.0
join_text (line ∷ next ∷ lines) h = IsUtf8-append line (10 ∷ join_with_byte 10 (next ∷ lines)) h.0 (IsUtf8-append (10 ∷ []) (join_with_byte 10 (next ∷ lines)) line_end_text (join_text (next ∷ lines) h.1))

pub block_text : (raw : List ℕ) → IsUtf8 raw → IsUtf8 (block_value_of raw)
block_text raw u =
    let lines = dedented_text (lines_of raw) (onto_none (lines_of raw) (lines_text raw [] u)) in
    let kept = drop_text (prefix_len is_blank (dedented (lines_of raw))) (dedented (lines_of raw)) lines in
    join_text (without_blank_ends (dedented (lines_of raw))) (take_text _ (drop (prefix_len is_blank (dedented (lines_of raw))) (dedented (lines_of raw))) kept)
