-- Each token takes a byte at least, and none behind its text; and it is neither a fault nor an end.
use Rattle.std.proofs.Common.{◌≡◌, ◌≤◌, ◌<◌, ◌&&◌, ◌||◌, ◌==◌, ℕ, zero, suc, ◌+◌, ◌-◌, Bool, true, false, cond, not, List, [], ◌∷◌, length, take, drop, Option, Some, None, refl, subst, arith, length-drop, codes}
use Rattle.std.specs.Option.{option_map}
use Rattle.std.specs.List.{prefix_len}
use Rattle.std.proofs.lemmas.List.Sums.{prefix_len-le-length}
use Rattle.gql_tokens.specs.declared.token.Kind.{Kind}
use Rattle.gql_tokens.specs.declared.token.Kind.TheVariants.{Bang, Dollar, Ampersand, ParenOpen, ParenClose, Spread, Colon, Equals, At, BracketOpen, BracketClose, BraceOpen, Pipe, BraceClose, Name, Integer, String}
use Rattle.gql_tokens.specs.Characters.{begins_with}
use Rattle.gql_tokens.specs.Runs.{Rule, run, run_on, run_behind}
use Rattle.gql_tokens.specs.Names.{is_name_start, is_name_continue, is_digit}
use Rattle.gql_tokens.specs.Numbers.{has_sign, is_integer, number_len, continues_number, integer_len}
use Rattle.gql_tokens.specs.Strings.{string_character, string_len}
use Rattle.gql_tokens.specs.Blocks.{block_mark, block_character, block_len}
use Rattle.gql_tokens.specs.Lexemes.{punctuator, of_kind, name_token, integer_token, string_token, punctuator_token, token_at}
use Rattle.gql_tokens.specs.Heads.{is_last}
use Rattle.gql_tokens.proofs.Choices.{choice}
use Rattle.gql_tokens.proofs.NameLaws.{both}

-- a token of this length goes on, and lies within so many bytes
pub record Lies (most : ℕ) (t : Kind × ℕ) : Type 0 where
  pub goes_on : is_last t.0 ≡ false
  pub some : 0 < t.1
  pub within : t.1 ≤ most

abbrev AllLie : ℕ → Option (Kind × ℕ) → Type 0
AllLie most o = (t : Kind × ℕ) → o ≡ Some t → Lies most t

-- ---- what a text begins with is no longer than it

pub begins_len : (front text : List ℕ) → begins_with front text ≡ true → length front ≤ length text
begins_len [] text h = omega arith
begins_len (f ∷ front) [] h = absurd cc
begins_len (f ∷ front) (b ∷ text) h = let more : length front ≤ length text = begins_len front text (both _ _ h).1 in omega arith

run_on_within : (rule : Rule) (o : Option (List ℕ × ℕ)) (others : ℕ → List ℕ × ℕ) (n : ℕ) → ((k : ℕ) → (others k).1 ≤ n) → (run_on others o).1 ≤ suc n
run_on_within rule None others n h = omega arith
run_on_within rule (Some c) others n h = let more = h (c.1 - 1) in omega arith

run_behind_within : (rule : Rule) (k : ℕ) (text : List ℕ) → (run_behind rule k text).1 ≤ length text
run_behind_within rule zero [] = omega arith
run_behind_within rule (suc k) [] = omega arith
run_behind_within rule (suc k) (b ∷ rest) = let more = run_behind_within rule k rest in omega arith
run_behind_within rule zero (b ∷ rest) = run_on_within rule (rule (b ∷ rest)) (λ left. run_behind rule left rest) (length rest) (λ k. run_behind_within rule k rest)

pub run_within : (rule : Rule) (text : List ℕ) → (run rule text).1 ≤ length text
run_within rule text = run_behind_within rule 0 text

-- ---- names

name_lies : (b : ℕ) (rest : List ℕ) → is_name_start b ≡ true → AllLie (length (b ∷ rest)) (name_token (b ∷ rest))
name_lies b rest h t e =
    subst (Lies (length (b ∷ rest))) (cc)
    (let started : prefix_len is_name_continue (b ∷ rest) ≡ 1 + prefix_len is_name_continue rest = rw h refl in
    let inside = prefix_len-le-length is_name_continue (b ∷ rest) in
    let here : Lies (length (b ∷ rest)) (Name, prefix_len is_name_continue (b ∷ rest)) = record { goes_on = refl; some = omega arith; within = inside } in here)

-- ---- integers

some_digits : (n : ℕ) (text : List ℕ) → is_integer (take n text) ≡ true → 0 < n
some_digits zero text h = absurd cc
some_digits (suc n) text h = omega arith

pub number_within : (text : List ℕ) → number_len text ≤ length text
number_within [] = omega arith
number_within (b ∷ rest) = signed (has_sign (b ∷ rest))
  where
    signed : (s : Bool) → (cond s 1 0) + prefix_len is_digit (cond s (drop 1 (b ∷ rest)) (b ∷ rest)) ≤ length (b ∷ rest)
    signed true = let inside = prefix_len-le-length is_digit rest in omega arith
    signed false = let inside = prefix_len-le-length is_digit (b ∷ rest) in omega arith

abbrev NumbersLie : List ℕ → Option ℕ → Type 0
NumbersLie text o = (n : ℕ) → o ≡ Some n → (0 < n) × (n ≤ length text)

integer_lies : (text : List ℕ) → NumbersLie text (integer_len text)
integer_lies text =
    choice (NumbersLie text) (is_integer (take (number_len text) text) && not (continues_number (drop (number_len text) text))) (Some (number_len text)) None
    (λ h n e. let same : number_len text ≡ n = cc in let inside = number_within text in let some = some_digits (number_len text) text (both _ _ h).0 in (omega arith, omega arith))
    (λ h n e. absurd cc)

-- ---- strings

abbrev LensLie : ℕ → Option ℕ → Type 0
LensLie most o = (n : ℕ) → o ≡ Some n → (0 < n) × (n ≤ most)

-- a run between marks of so many bytes
marked : (rule : Rule) (mark inner : List ℕ) (marks : ℕ) → marks ≡ length mark + length mark → 0 < length mark
    → LensLie (length inner + length mark) (cond (begins_with mark (drop (run rule inner).1 inner)) (Some ((run rule inner).1 + marks)) None)
marked rule mark inner marks two some =
    choice (LensLie (length inner + length mark)) (begins_with mark (drop (run rule inner).1 inner)) (Some ((run rule inner).1 + marks)) None
    (λ h n e.
    let same : (run rule inner).1 + marks ≡ n = cc in
    let closing = begins_len mark (drop (run rule inner).1 inner) h in
    let cut : length (drop (run rule inner).1 inner) ≡ length inner - (run rule inner).1 = length-drop (run rule inner).1 inner in
    (omega arith, omega arith))
    (λ h n e. absurd cc)

-- a token of this kind, by its length
of_kind_lies : (kind : Kind) (most : ℕ) (o : Option ℕ) → is_last kind ≡ false → LensLie most o → AllLie most (option_map (of_kind kind) o)
of_kind_lies kind most None k h t e = absurd cc
of_kind_lies kind most (Some n) k h t e =
    let same : (kind, n) ≡ t = cc in
    let inside = h n refl in
    let here : Lies most (kind, n) = record { goes_on = k; some = inside.0; within = inside.1 } in
    subst (Lies most) same here

lens_weaker : (most more : ℕ) (o : Option ℕ) → most ≤ more → LensLie most o → LensLie more o
lens_weaker most more o w h n e = let inside = h n e in (omega arith, omega arith)

string_lies : (b : ℕ) (rest : List ℕ) → AllLie (length (b ∷ rest)) (string_token (b ∷ rest))
string_lies b rest =
    of_kind_lies String (length (b ∷ rest)) _ refl
    (choice (LensLie (length (b ∷ rest))) (begins_with block_mark (b ∷ rest)) (block_len (drop 3 (b ∷ rest))) (string_len rest)
    (λ h.
    let three = begins_len block_mark (b ∷ rest) h in
    let cut : length (drop 3 (b ∷ rest)) ≡ length (b ∷ rest) - 3 = length-drop 3 (b ∷ rest) in
    lens_weaker (length (drop 3 (b ∷ rest)) + 3) (length (b ∷ rest)) (block_len (drop 3 (b ∷ rest))) (omega arith) (marked block_character block_mark (drop 3 (b ∷ rest)) 6 refl (omega arith)))
    (λ h. lens_weaker (length rest + 1) (length (b ∷ rest)) (string_len rest) (omega arith) (marked string_character (34 ∷ []) rest 2 refl (omega arith))))

-- ---- punctuators

abbrev GoOn : Option Kind → Type 0
GoOn o = (kind : Kind) → o ≡ Some kind → is_last kind ≡ false

this : (kind : Kind) → is_last kind ≡ false → GoOn (Some kind)
this kind h other e = let same : kind ≡ other = cc in subst (λ (k : Kind). is_last k ≡ false) same h

none : GoOn None
none kind e = absurd cc

punctuators_go_on : (b : ℕ) → GoOn (punctuator b)
punctuators_go_on b =
    choice GoOn (b == 33) (Some Bang) _ (λ _. this Bang refl) (λ _.
    choice GoOn (b == 36) (Some Dollar) _ (λ _. this Dollar refl) (λ _.
    choice GoOn (b == 38) (Some Ampersand) _ (λ _. this Ampersand refl) (λ _.
    choice GoOn (b == 40) (Some ParenOpen) _ (λ _. this ParenOpen refl) (λ _.
    choice GoOn (b == 41) (Some ParenClose) _ (λ _. this ParenClose refl) (λ _.
    choice GoOn (b == 58) (Some Colon) _ (λ _. this Colon refl) (λ _.
    choice GoOn (b == 61) (Some Equals) _ (λ _. this Equals refl) (λ _.
    choice GoOn (b == 64) (Some At) _ (λ _. this At refl) (λ _.
    choice GoOn (b == 91) (Some BracketOpen) _ (λ _. this BracketOpen refl) (λ _.
    choice GoOn (b == 93) (Some BracketClose) _ (λ _. this BracketClose refl) (λ _.
    choice GoOn (b == 123) (Some BraceOpen) _ (λ _. this BraceOpen refl) (λ _.
    choice GoOn (b == 124) (Some Pipe) _ (λ _. this Pipe refl) (λ _.
    choice GoOn (b == 125) (Some BraceClose) None (λ _. this BraceClose refl) (λ _. none)))))))))))))

single_lies : (most : ℕ) (o : Option Kind) → 0 < most → GoOn o → AllLie most (option_map (λ kind. of_kind kind 1) o)
single_lies most None m h t e = absurd cc
single_lies most (Some kind) m h t e =
    let same : (kind, 1) ≡ t = cc in
    let here : Lies most (kind, 1) = record { goes_on = h kind refl; some = omega arith; within = omega arith } in
    subst (Lies most) same here

punctuator_lies : (b : ℕ) (rest : List ℕ) → AllLie (length (b ∷ rest)) (punctuator_token b (b ∷ rest))
punctuator_lies b rest =
    choice (AllLie (length (b ∷ rest))) (begins_with (codes "...") (b ∷ rest)) (Some (Spread, 3)) _
    (λ h t e.
    let three = begins_len (codes "...") (b ∷ rest) h in
    let same : (Spread, 3) ≡ t = cc in
    let here : Lies (length (b ∷ rest)) (Spread, 3) = record { goes_on = refl; some = omega arith; within = three } in
    subst (Lies (length (b ∷ rest))) same here)
    (λ h. single_lies (length (b ∷ rest)) (punctuator b) (omega arith) (punctuators_go_on b))

-- ---- all tokens

pub token_lies : (text : List ℕ) (t : Kind × ℕ) → token_at text ≡ Some t → Lies (length text) t
token_lies [] t e = absurd cc
token_lies (b ∷ rest) t e =
    choice (AllLie (length (b ∷ rest))) (is_name_start b) (name_token (b ∷ rest)) _
    (λ h. name_lies b rest h)
    (λ h. choice (AllLie (length (b ∷ rest))) (is_digit b || b == 45) (integer_token (b ∷ rest)) _
    (λ i. of_kind_lies Integer (length (b ∷ rest)) (integer_len (b ∷ rest)) refl (integer_lies (b ∷ rest)))
    (λ i. choice (AllLie (length (b ∷ rest))) (b == 34) (string_token (b ∷ rest)) (punctuator_token b (b ∷ rest))
    (λ j. string_lies b rest)
    (λ j. punctuator_lies b rest)))
    t e
