-- Lines of block strings.
use Rattle.std.proofs.Common.{◌≡◌, ℕ, suc, ◌+◌, ◌-◌, ◌==◌, Bool, true, false, not, cond, List, [], ◌∷◌, ◌++◌, length, take, drop, map, Option, Some, None, unwrap_or, refl, sym, ap, subst, ◌∙◌, arith, append-nil}
use Rattle.std.specs.Prelude.{flat_map, reverse}
use mathlib.Core.List.{reverse_aux}
use Rattle.std.specs.List.{prefix_len, suffix_len, join_with_byte}
use Rattle.std.specs.Borrow.{Bor}
use Rattle.std.proofs.lemmas.List.{drop-map, take-map, length-map}
use Rattle.std.proofs.lemmas.Bool.{eqb-true}
use Rattle.gql_tokens.proofs.NameLaws.{both}
use Rattle.gql_tokens.specs.Characters.{begins_with, is_line_end, line_end_len}
use Rattle.gql_tokens.specs.Blocks.{lines_of, is_blank, lesser, common_indent, without_indent, dedented, without_blank_ends, block_value_of}
use Rattle.gql_tokens.specs.Readings.{texts, lines_left}

-- what stands behind the first line: nothing, or a line end and further lines
abbrev pub lines_behind : List ℕ → List (List ℕ)
lines_behind [] = []
lines_behind (b ∷ behind) = lines_of (drop (line_end_len b behind - 1) behind)

abbrev pub in_line : ℕ → Bool
in_line b = not (is_line_end b)

lf_line : (text : List ℕ) → begins_with (10 ∷ []) text ≡ true → lines_of text ≡ [] ∷ lines_of (drop 1 text)
lf_line [] h = absurd cc
lf_line (b ∷ rest) h = let ten : 10 ≡ b = eqb-true 10 b (both _ _ h).0 in subst (λ (c : ℕ). lines_of (c ∷ rest) ≡ [] ∷ lines_of rest) ten refl

pub lines_split : (text : List ℕ) → lines_of text ≡ take (prefix_len in_line text) text ∷ lines_behind (drop (prefix_len in_line text) text)
lines_split [] = refl
lines_split (b ∷ rest) = by (b == 10) (b == 13) refl refl (begins_with (10 ∷ []) rest) refl (lines_split rest)
  where
    split_at : ℕ → Type 0
    split_at c = lines_of (c ∷ rest) ≡ take (prefix_len in_line (c ∷ rest)) (c ∷ rest) ∷ lines_behind (drop (prefix_len in_line (c ∷ rest)) (c ∷ rest))

    by : (x y : Bool) → (b == 10) ≡ x → (b == 13) ≡ y → (z : Bool) → begins_with (10 ∷ []) rest ≡ z
        → lines_of rest ≡ take (prefix_len in_line rest) rest ∷ lines_behind (drop (prefix_len in_line rest) rest)
        → split_at b
    by true y ex ey z ez more = let ten : 10 ≡ b = sym (eqb-true b 10 ex) in subst split_at ten refl
    by false true ex ey true ez more = let thirteen : 13 ≡ b = sym (eqb-true b 13 ey) in subst split_at thirteen (rw ez (lf_line rest ez))
    by false true ex ey false ez more = let thirteen : 13 ≡ b = sym (eqb-true b 13 ey) in subst split_at thirteen (rw ez refl)
    by false false ex ey z ez more = let one : 1 + prefix_len in_line rest ≡ suc (prefix_len in_line rest) = omega arith in rw (ex, ey, one, more) refl

-- the least indent, line by line
lesser_assoc : (a b c : Option ℕ) → lesser (lesser a b) c ≡ lesser a (lesser b c)
lesser_assoc None b c = refl
lesser_assoc (Some n) None c = refl
lesser_assoc (Some n) (Some m) None = refl
lesser_assoc (Some n) (Some m) (Some k) = ap Some (omega arith)

common_indent-cons : (line : List ℕ) (lines : List (List ℕ)) → common_indent (line ∷ lines) ≡ lesser (common_indent (line ∷ [])) (common_indent lines)
common_indent-cons line lines = by (is_blank line) refl
  where
    by : (t : Bool) → is_blank line ≡ t → common_indent (line ∷ lines) ≡ lesser (common_indent (line ∷ [])) (common_indent lines)
    by true e = rw e refl
    by false e = rw e refl

pub indent_turn : (so_far : Option ℕ) (line : List ℕ) (lines : List (List ℕ)) → lesser (lesser so_far (common_indent (line ∷ []))) (common_indent lines) ≡ lesser so_far (common_indent (line ∷ lines))
indent_turn so_far line lines = rw (common_indent-cons line lines) (lesser_assoc so_far (common_indent (line ∷ [])) (common_indent lines))

pub without_indent-drop : (indent : Option ℕ) (lines : List (List ℕ)) → without_indent indent lines ≡ map (λ line. drop (unwrap_or indent 0) line) lines
without_indent-drop (Some n) lines = refl
without_indent-drop None [] = refl
without_indent-drop None (line ∷ lines) = ap (λ (others : List (List ℕ)). line ∷ others) (without_indent-drop None lines)

-- lines joined, the first and then each behind its line end
pub join-flat : (first : List ℕ) (others : List (List ℕ)) → join_with_byte 10 (first ∷ others) ≡ first ++ flat_map (λ line. 10 ∷ line) others
join-flat first [] = sym (append-nil first)
join-flat first (next ∷ others) = ap (λ (more : List ℕ). first ++ (10 ∷ more)) (join-flat next others)

-- references and their texts
pub texts_blank : (lines : List (Bor (List ℕ))) → prefix_len (λ (line : Bor (List ℕ)). is_blank line.now) lines ≡ prefix_len is_blank (texts lines)
texts_blank [] = refl
texts_blank (line ∷ lines) = ap (λ (n : ℕ). cond (is_blank line.now) (1 + n) 0) (texts_blank lines)

pub texts-reverse : (lines : List (Bor (List ℕ))) → texts (reverse lines) ≡ reverse (texts lines)
texts-reverse lines = onto lines []
  where
    onto : (xs ys : List (Bor (List ℕ))) → texts (reverse_aux xs ys) ≡ reverse_aux (texts xs) (texts ys)
    onto [] ys = refl
    onto (x ∷ xs) ys = onto xs (x ∷ ys)

pub kept_ends : (lines kept : List (Bor (List ℕ))) (n m : ℕ) → n ≡ prefix_len (λ (line : Bor (List ℕ)). is_blank line.now) lines → kept ≡ drop n lines
    → m ≡ suffix_len (λ (line : Bor (List ℕ)). is_blank line.now) kept
    → texts (take (length kept - m) kept) ≡ without_blank_ends (texts lines)
kept_ends lines kept n m en ek em =
    let leading : n ≡ prefix_len is_blank (texts lines) = en ∙ texts_blank lines in
    let same : texts kept ≡ drop (prefix_len is_blank (texts lines)) (texts lines) = ap texts ek ∙ sym (drop-map (λ (line : Bor (List ℕ)). line.now) n lines) ∙ ap (λ (k : ℕ). drop k (texts lines)) leading in
    let trailing : m ≡ suffix_len is_blank (texts kept) = em ∙ texts_blank (reverse kept) ∙ ap (prefix_len is_blank) (texts-reverse kept) in
    let long : length (texts kept) ≡ length kept = length-map kept (λ (line : Bor (List ℕ)). line.now) in
    sym (take-map (λ (line : Bor (List ℕ)). line.now) (length kept - m) kept)
    ∙ ap (λ (k : ℕ). take k (texts kept)) (omega arith)
    ∙ ap (λ (lines : List (List ℕ)). take (length lines - suffix_len is_blank lines) lines) same

pub nothing : (text : List ℕ) → length text ≡ 0 → text ≡ []
nothing [] h = refl
nothing (b ∷ rest) h = absurd (omega arith)

-- the steps of the code, one after another
pub block_steps : (raw : List ℕ) (first : Bor (List ℕ)) (others : Option (Bor (List ℕ))) (indent : ℕ) (lines kept : List (Bor (List ℕ))) (bytes : List ℕ)
    → lines_of raw ≡ first.now ∷ lines_left others → indent ≡ unwrap_or (common_indent (lines_left others)) 0
    → texts lines ≡ first.now ∷ map (λ line. drop indent line) (lines_left others)
    → texts kept ≡ without_blank_ends (texts lines) → bytes ≡ join_with_byte 10 (texts kept) → bytes ≡ block_value_of raw
block_steps raw first others indent lines kept bytes split e l k j =
    let rest = lines_left others in
    let dedent : texts lines ≡ dedented (lines_of raw) = l
    ∙ ap (λ (n : ℕ). first.now ∷ map (λ line. drop n line) rest) e
    ∙ ap (λ (more : List (List ℕ)). first.now ∷ more) (sym (without_indent-drop (common_indent rest) rest))
    ∙ ap dedented (sym split) in
    j ∙ ap (λ (all : List (List ℕ)). join_with_byte 10 all) (k ∙ ap without_blank_ends dedent)
