-- What stands written, part by part, and that it is the canonical text.
use Rattle.std.proofs.Common.{◌≡◌, ℕ, suc, ◌+◌, ◌<◌, Bool, false, List, [], ◌∷◌, ◌++◌, length, get_or, drop, drop-cons, add-one, refl, sym, ap, subst, ◌∙◌, append_assoc, append-nil}
use Rattle.std.specs.Prelude.{Result, Ok, Err, OnOk}
use Rattle.gql_tokens.specs.Tokens.{Token}
use Rattle.gql_spelling.specs.Spelling.{is_word, space_before, spaced}
use Rattle.gql_printing.specs.Progress.{Progress, begun, space_for, after, written}

pub written_append : (p : Progress) (a b : List Token) → written p (a ++ b) ≡ written (written p a) b
written_append p [] b = refl
written_append p (token ∷ a) b = written_append (after p token) a b

-- the space before these tokens, which follow a word or not
abbrev gap : Bool → List Token → List ℕ
gap after_word [] = []
gap after_word (token ∷ tokens) = space_for after_word token.kind

gap_is : (token : Token) (tokens : List Token) → gap (is_word token.kind) tokens ≡ space_before token.kind tokens
gap_is token [] = refl
gap_is token (next ∷ tokens) = refl

regroup : (a b c d : List ℕ) → (a ++ (b ++ c)) ++ d ≡ a ++ (b ++ (c ++ d))
regroup a b c d = simp append_assoc

text_written : (p : Progress) (tokens : List Token) → (written p tokens).0 ≡ p.0 ++ (gap p.1 tokens ++ spaced tokens)
unfolding after
text_written p [] = sym (append-nil p.0)
text_written p (token ∷ tokens) =
    text_written (after p token) tokens
    ∙ ap (λ (space : List ℕ). (p.0 ++ (space_for p.1 token.kind ++ token.text)) ++ (space ++ spaced tokens)) (gap_is token tokens)
    ∙ regroup p.0 (space_for p.1 token.kind) token.text (space_before token.kind tokens ++ spaced tokens)

first_gap : (tokens : List Token) → gap false tokens ≡ []
first_gap [] = refl
first_gap (token ∷ tokens) = refl

pub spaced_written : (tokens : List Token) → (written begun tokens).0 ≡ spaced tokens
spaced_written tokens = text_written begun tokens ∙ ap (λ (space : List ℕ). space ++ spaced tokens) (first_gap tokens)

-- ---- parts of what a function writes

pub drop_turn : {A : Type 0} (xs : List A) (i : ℕ) (x : A) → i < length xs → x ≡ get_or xs i x → drop i xs ≡ x ∷ drop (i + 1) xs
drop_turn xs i x lt is = rw add-one (drop-cons xs i x lt ∙ ap (λ (y : _). y ∷ drop (suc i) xs) (sym is))

-- one item more is written in a loop
pub turn : (all now next : Progress) (a b rest : List Token) → rest ≡ a ++ b → all ≡ written now rest → next ≡ written now a → all ≡ written next b
turn all now next a b rest e h n = h ∙ ap (written now) e ∙ written_append now a b ∙ ap (λ (p : Progress). written p b) (sym n)

-- a part is written, and then the others
pub then : {A E : Type 0} (r : Result A E) (first now last : Progress) (a b : List Token) → now ≡ written first a → OnOk r (last ≡ written now b) → OnOk r (last ≡ written first (a ++ b))
then (Ok x) first now last a b e h = h ∙ ap (λ (p : Progress). written p b) e ∙ sym (written_append first a b)
then (Err x) first now last a b e h = tt

pub written_as : {A E : Type 0} (r : Result A E) (first last : Progress) (a b : List Token) → a ≡ b → OnOk r (last ≡ written first a) → OnOk r (last ≡ written first b)
written_as r first last a b e h = subst (λ (t : List Token). OnOk r (last ≡ written first t)) e h
