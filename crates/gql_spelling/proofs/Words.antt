-- Names, integers and punctuators at the front of a text lex to themselves.
use Rattle.std.proofs.Common.{◌≡◌, ◌<◌, ℕ, ◌+◌, ◌&&◌, ◌||◌, ◌==◌, Bool, true, false, not, cond, List, [], ◌∷◌, ◌++◌, length, take, drop, Option, Some, None, refl, sym, ap, subst, ◌∙◌, arith}
use Rattle.std.specs.Option.{option_map}
use Rattle.std.specs.List.{prefix_len, list_all}
use Rattle.std.proofs.Math.Seq.{take-append_seam, drop-append_seam}
use Rattle.std.proofs.lemmas.Bool.{eqb-true}
use Rattle.std.proofs.lemmas.Bool.Decides.{nat_tests}
use Rattle.gql_tokens.specs.declared.token.Kind.{Kind}
use Rattle.gql_tokens.specs.declared.token.Kind.TheVariants.{Bang, Dollar, Ampersand, ParenOpen, ParenClose, Spread, Colon, Equals, At, BracketOpen, BracketClose, BraceOpen, Pipe, BraceClose, Name, Integer}
use Rattle.gql_tokens.specs.Characters.{is_white_space, is_line_end}
use Rattle.gql_tokens.specs.Names.{is_name_start, is_name_continue, is_digit, IsName}
use Rattle.gql_tokens.specs.Numbers.{is_whole, unsigned_part, has_sign, is_integer, number_len, continues_number, integer_len, IsInteger}
use Rattle.gql_tokens.specs.Lexemes.{of_kind, name_token, integer_token, ignored_len, token_at}
use Rattle.gql_tokens.proofs.Choices.{choice}
use Rattle.gql_tokens.proofs.NameLaws.{both}
use Rattle.gql_spelling.specs.Spelling.{mark_of}

-- what follows a word of this kind doesn't continue it
abbrev pub Stops : Kind → List ℕ → Type 0
Stops kind [] = Unit {0}
Stops kind (b ∷ rest) = (is_name_continue b ≡ false) × (((b == 34) ≡ false) × (kind ≡ Integer → (b == 46) ≡ false))

abbrev pub FirstFails : (ℕ → Bool) → List ℕ → Type 0
FirstFails p [] = Unit {0}
FirstFails p (b ∷ rest) = p b ≡ false

clash : (b : Bool) → b ≡ true → b ≡ false → ⊥
clash true t f = cc
clash false t f = cc

neither : (a b : Bool) → (a || b) ≡ false → (a ≡ false) × (b ≡ false)
neither true b e = absurd cc
neither false b e = (refl, e)

prefix_stop : (p : ℕ → Bool) (xs back : List ℕ) → list_all p xs ≡ true → FirstFails p back → prefix_len p (xs ++ back) ≡ length xs
prefix_stop p [] [] a f = refl
prefix_stop p [] (b ∷ back) a f = rw f refl
prefix_stop p (x ∷ xs) back a f =
    let parts = both (p x) (list_all p xs) a in
    let more = prefix_stop p xs back parts.1 f in
    rw parts.0 (omega arith)

-- ---- nothing of a token is ignored

visible : (b : ℕ) (rest : List ℕ) → 32 < b → b < 127 → (b == 35) ≡ false → (b == 44) ≡ false → ignored_len (b ∷ rest) ≡ 0
visible b rest low high h c =
    let white : is_white_space b ≡ false = grind (arith, nat_tests) in
    let end : is_line_end b ≡ false = grind (arith, nat_tests) in
    let mark : (239 == b) ≡ false = grind (arith, nat_tests) in
    rw (white, c, end, h, mark) refl

-- ---- names

start_visible : (b : ℕ) → is_name_start b ≡ true → (32 < b) × ((b < 127) × (((b == 35) ≡ false) × ((b == 44) ≡ false)))
start_visible b h = (grind (arith, nat_tests), (grind (arith, nat_tests), (grind (arith, nat_tests), grind (arith, nat_tests))))

at_name : (b : ℕ) (rest : List ℕ) → is_name_start b ≡ true → token_at (b ∷ rest) ≡ name_token (b ∷ rest)
at_name b rest h = choice (λ (o : Option (Kind × ℕ)). o ≡ name_token (b ∷ rest)) (is_name_start b) (name_token (b ∷ rest)) _ (λ _. refl) (λ f. absurd (clash (is_name_start b) h f))

all_continue : (text : List ℕ) → IsName text → list_all is_name_continue text ≡ true
all_continue [] h = absurd cc
all_continue (b ∷ rest) h = let parts = both (is_name_start b) (list_all is_name_continue rest) h in rw parts.0 parts.1

name_stops : (back : List ℕ) (kind : Kind) → Stops kind back → FirstFails is_name_continue back
name_stops [] kind s = tt
name_stops (b ∷ back) kind s = s.0

pub name_lexes : (text back : List ℕ) → IsName text → Stops Name back → (ignored_len (text ++ back) ≡ 0) × (token_at (text ++ back) ≡ Some (Name, length text))
name_lexes [] back h s = absurd cc
name_lexes (b ∷ rest) back h s =
    let start = (both (is_name_start b) (list_all is_name_continue rest) h).0 in
    let seen = start_visible b start in
    let count = prefix_stop is_name_continue (b ∷ rest) back (all_continue (b ∷ rest) h) (name_stops back Name s) in
    (visible b (rest ++ back) seen.0 seen.1.0 seen.1.1.0 seen.1.1.1, at_name b (rest ++ back) start ∙ ap (λ (n : ℕ). Some (Name, n)) count)

-- ---- integers

digit_visible : (b : ℕ) → (is_digit b || b == 45) ≡ true → (32 < b) × ((b < 127) × (((b == 35) ≡ false) × (((b == 44) ≡ false) × (is_name_start b ≡ false))))
digit_visible b h = (grind (arith, nat_tests), (grind (arith, nat_tests), (grind (arith, nat_tests), (grind (arith, nat_tests), grind (arith, nat_tests)))))

at_integer : (b : ℕ) (rest : List ℕ) → is_name_start b ≡ false → (is_digit b || b == 45) ≡ true → token_at (b ∷ rest) ≡ integer_token (b ∷ rest)
at_integer b rest n h =
    choice (λ (o : Option (Kind × ℕ)). o ≡ integer_token (b ∷ rest)) (is_name_start b) (name_token (b ∷ rest)) _ (λ t. absurd (clash (is_name_start b) t n))
    (λ _. choice (λ (o : Option (Kind × ℕ)). o ≡ integer_token (b ∷ rest)) (is_digit b || b == 45) (integer_token (b ∷ rest)) _ (λ _. refl) (λ f. absurd (clash (is_digit b || b == 45) h f)))

digit_stops : (back : List ℕ) → Stops Integer back → FirstFails is_digit back
digit_stops [] s = tt
digit_stops (b ∷ back) s = (neither (is_name_start b) (is_digit b) s.0).1

continues_not : (back : List ℕ) → Stops Integer back → continues_number back ≡ false
continues_not [] s = refl
continues_not (b ∷ back) s =
    let parts = neither (is_name_start b) (is_digit b) s.0 in
    rw (parts.1, s.1.1 refl, parts.0) refl

whole_all : (text : List ℕ) → is_whole text ≡ true → list_all is_digit text ≡ true
whole_all [] h = refl
whole_all (d ∷ ds) h = (both (is_digit d && list_all is_digit ds) (not (d == 48) || length ds == 0) h).0

integer_first : (b : ℕ) (rest : List ℕ) → is_whole (unsigned_part (b ∷ rest)) ≡ true → (is_digit b || b == 45) ≡ true
integer_first b rest h = signed (has_sign (b ∷ rest)) refl h
  where
    signed : (s : Bool) → has_sign (b ∷ rest) ≡ s → is_whole (cond s (drop 1 (b ∷ rest)) (b ∷ rest)) ≡ true → (is_digit b || b == 45) ≡ true
    signed true e w = let minus : 45 ≡ b = eqb-true 45 b (both (45 == b) true e).0 in subst (λ (c : ℕ). (is_digit c || c == 45) ≡ true) minus refl
    signed false e w = rw (both (is_digit b) (list_all is_digit rest) (whole_all (b ∷ rest) w)).0 refl

number_len_is : (b : ℕ) (rest back : List ℕ) → is_whole (unsigned_part (b ∷ rest)) ≡ true → FirstFails is_digit back → number_len ((b ∷ rest) ++ back) ≡ length (b ∷ rest)
number_len_is b rest back h f = signed (has_sign (b ∷ rest)) h
  where
    signed : (s : Bool) → is_whole (cond s (drop 1 (b ∷ rest)) (b ∷ rest)) ≡ true → cond s 1 0 + prefix_len is_digit (cond s (drop 1 ((b ∷ rest) ++ back)) ((b ∷ rest) ++ back)) ≡ length (b ∷ rest)
    signed true w = let count = prefix_stop is_digit rest back (whole_all rest w) f in omega arith
    signed false w = let count = prefix_stop is_digit (b ∷ rest) back (whole_all (b ∷ rest) w) f in omega arith

integer_len_is : (b : ℕ) (rest back : List ℕ) → IsInteger (b ∷ rest) → Stops Integer back → integer_len ((b ∷ rest) ++ back) ≡ Some (length (b ∷ rest))
integer_len_is b rest back h s =
    let text = b ∷ rest in
    let whole = (both _ _ h).0 in
    let count = number_len_is b rest back whole (digit_stops back s) in
    subst (λ (n : ℕ). cond (is_integer (take n (text ++ back)) && not (continues_number (drop n (text ++ back)))) (Some n) None ≡ Some (length text)) (sym count)
    (fits (take (length text) (text ++ back)) (drop (length text) (text ++ back)) (take-append_seam text back) (drop-append_seam text back))
  where
    fits : (front behind : List ℕ) → front ≡ b ∷ rest → behind ≡ back → cond (is_integer front && not (continues_number behind)) (Some (length (b ∷ rest))) None ≡ Some (length (b ∷ rest))
    fits front behind ef eb =
        let one : is_integer front ≡ true = ap is_integer ef ∙ h in
        let two : continues_number behind ≡ false = ap continues_number eb ∙ continues_not back s in
        rw (one, two) refl

pub integer_lexes : (text back : List ℕ) → IsInteger text → Stops Integer back → (ignored_len (text ++ back) ≡ 0) × (token_at (text ++ back) ≡ Some (Integer, length text))
integer_lexes [] back h s = absurd cc
integer_lexes (b ∷ rest) back h s =
    let first = integer_first b rest (both _ _ h).0 in
    let seen = digit_visible b first in (
      visible b (rest ++ back) seen.0 seen.1.0 seen.1.1.0 seen.1.1.1.0,
      at_integer b (rest ++ back) seen.1.1.1.1 first ∙ ap (option_map (of_kind Integer)) (integer_len_is b rest back h s),
    )

-- ---- punctuators

abbrev pub Marked : Kind → List ℕ → Type 0
Marked kind back = (ignored_len (mark_of kind ++ back) ≡ 0) × (token_at (mark_of kind ++ back) ≡ Some (kind, length (mark_of kind)))

pub bang_lexes : (back : List ℕ) → Marked Bang back
bang_lexes back = (refl, refl)

pub dollar_lexes : (back : List ℕ) → Marked Dollar back
dollar_lexes back = (refl, refl)

pub ampersand_lexes : (back : List ℕ) → Marked Ampersand back
ampersand_lexes back = (refl, refl)

pub paren_open_lexes : (back : List ℕ) → Marked ParenOpen back
paren_open_lexes back = (refl, refl)

pub paren_close_lexes : (back : List ℕ) → Marked ParenClose back
paren_close_lexes back = (refl, refl)

pub spread_lexes : (back : List ℕ) → Marked Spread back
spread_lexes back = (refl, refl)

pub colon_lexes : (back : List ℕ) → Marked Colon back
colon_lexes back = (refl, refl)

pub equals_lexes : (back : List ℕ) → Marked Equals back
equals_lexes back = (refl, refl)

pub at_lexes : (back : List ℕ) → Marked At back
at_lexes back = (refl, refl)

pub bracket_open_lexes : (back : List ℕ) → Marked BracketOpen back
bracket_open_lexes back = (refl, refl)

pub bracket_close_lexes : (back : List ℕ) → Marked BracketClose back
bracket_close_lexes back = (refl, refl)

pub brace_open_lexes : (back : List ℕ) → Marked BraceOpen back
brace_open_lexes back = (refl, refl)

pub pipe_lexes : (back : List ℕ) → Marked Pipe back
pipe_lexes back = (refl, refl)

pub brace_close_lexes : (back : List ℕ) → Marked BraceClose back
brace_close_lexes back = (refl, refl)
