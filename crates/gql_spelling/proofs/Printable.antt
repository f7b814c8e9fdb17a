-- The tokens of each text can be printed.
use Rattle.std.proofs.Common.{◌≡◌, ℕ, zero, suc, ◌-◌, ◌||◌, ◌&&◌, ◌==◌, true, false, not, List, [], ◌∷◌, take, drop, Option, Some, None, refl, sym, subst, codes}
use Rattle.std.specs.Option.{option_map}
use Rattle.std.specs.List.{prefix_len}
use Rattle.std.proofs.lemmas.Bool.{eqb-true}
use Rattle.gql_tokens.specs.declared.token.Place.{Place}
use Rattle.gql_tokens.specs.declared.token.Kind.{Kind}
use Rattle.gql_tokens.specs.declared.token.Kind.TheVariants.{Bang, Dollar, Ampersand, ParenOpen, ParenClose, Spread, Colon, Equals, At, BracketOpen, BracketClose, BraceOpen, Pipe, BraceClose, Name, Integer, String}
use Rattle.gql_tokens.specs.Characters.{begins_with}
use Rattle.gql_tokens.specs.Names.{is_name_start, is_name_continue, is_digit}
use Rattle.gql_tokens.specs.Numbers.{is_integer, number_len, continues_number}
use Rattle.gql_tokens.specs.Places.{first_place, place_behind}
use Rattle.gql_tokens.specs.Lexemes.{punctuator, of_kind, name_token, integer_token, string_token, punctuator_token, ignored_len, token_at}
use Rattle.gql_tokens.specs.Tokens.{Token, string_value_of, taken, lexed, tokens_behind}
use Rattle.gql_tokens.proofs.Choices.{choice}
use Rattle.gql_tokens.proofs.NameLaws.{both}
use Rattle.gql_tokens.proofs.FormLaws.{name_front}
use Rattle.gql_spelling.specs.Spelling.{IsTextOf, printed_text, ArePrintable, TokensArePrintable}
use Rattle.gql_spelling.proofs.Texts.{value_text}

-- the token's text can be printed
abbrev Prints : List ℕ → Option (Kind × ℕ) → Type 0
Prints text o = (t : Kind × ℕ) → o ≡ Some t → IsTextOf t.0 (printed_text t.0 (take t.1 text))

prints : (text : List ℕ) (kind : Kind) (n : ℕ) → IsTextOf kind (printed_text kind (take n text)) → Prints text (Some (kind, n))
prints text kind n h t e = let same : (kind, n) ≡ t = cc in subst (λ (u : Kind × ℕ). IsTextOf u.0 (printed_text u.0 (take u.1 text))) same h

nothing : (text : List ℕ) → Prints text None
nothing text t e = absurd cc

integer_prints : (text : List ℕ) → Prints text (integer_token text)
integer_prints text =
    choice (λ (o : Option ℕ). Prints text (option_map (of_kind Integer) o)) (is_integer (take (number_len text) text) && not (continues_number (drop (number_len text) text))) (Some (number_len text)) None
    (λ h. prints text Integer (number_len text) (both (is_integer (take (number_len text) text)) (not (continues_number (drop (number_len text) text))) h).0)
    (λ _. nothing text)

string_prints : (text : List ℕ) (o : Option ℕ) → Prints text (option_map (of_kind String) o)
string_prints text None = nothing text
string_prints text (Some n) = prints text String n (string_value_of (take n text), (value_text (take n text), refl))

abbrev Marks : ℕ → List ℕ → Option Kind → Type 0
Marks b rest o = Prints (b ∷ rest) (option_map (λ kind. of_kind kind 1) o)

mark : (n b : ℕ) (rest : List ℕ) (kind : Kind) → (b == n) ≡ true → IsTextOf kind (printed_text kind (n ∷ [])) → Marks b rest (Some kind)
mark n b rest kind e h = prints (b ∷ rest) kind 1 (subst (λ (c : ℕ). IsTextOf kind (printed_text kind (c ∷ []))) (sym (eqb-true b n e)) h)

punctuator_prints : (b : ℕ) (rest : List ℕ) → Marks b rest (punctuator b)
punctuator_prints b rest =
    choice (Marks b rest) (b == 33) (Some Bang) _ (λ e. mark 33 b rest Bang e refl) (λ _.
    choice (Marks b rest) (b == 36) (Some Dollar) _ (λ e. mark 36 b rest Dollar e refl) (λ _.
    choice (Marks b rest) (b == 38) (Some Ampersand) _ (λ e. mark 38 b rest Ampersand e refl) (λ _.
    choice (Marks b rest) (b == 40) (Some ParenOpen) _ (λ e. mark 40 b rest ParenOpen e refl) (λ _.
    choice (Marks b rest) (b == 41) (Some ParenClose) _ (λ e. mark 41 b rest ParenClose e refl) (λ _.
    choice (Marks b rest) (b == 58) (Some Colon) _ (λ e. mark 58 b rest Colon e refl) (λ _.
    choice (Marks b rest) (b == 61) (Some Equals) _ (λ e. mark 61 b rest Equals e refl) (λ _.
    choice (Marks b rest) (b == 64) (Some At) _ (λ e. mark 64 b rest At e refl) (λ _.
    choice (Marks b rest) (b == 91) (Some BracketOpen) _ (λ e. mark 91 b rest BracketOpen e refl) (λ _.
    choice (Marks b rest) (b == 93) (Some BracketClose) _ (λ e. mark 93 b rest BracketClose e refl) (λ _.
    choice (Marks b rest) (b == 123) (Some BraceOpen) _ (λ e. mark 123 b rest BraceOpen e refl) (λ _.
    choice (Marks b rest) (b == 124) (Some Pipe) _ (λ e. mark 124 b rest Pipe e refl) (λ _.
    choice (Marks b rest) (b == 125) (Some BraceClose) None (λ e. mark 125 b rest BraceClose e refl) (λ _. nothing (b ∷ rest))))))))))))))

dots : (text : List ℕ) → begins_with (codes "...") text ≡ true → take 3 text ≡ codes "..."
dots [] h = absurd cc
dots (a ∷ []) h = let parts = both (46 == a) _ h in absurd cc
dots (a ∷ b ∷ []) h = let parts = both (46 == a) _ h in let more = both (46 == b) _ parts.1 in absurd cc
dots (a ∷ b ∷ c ∷ rest) h =
    let one = both (46 == a) _ h in
    let two = both (46 == b) _ one.1 in
    let three = both (46 == c) _ two.1 in
    same (eqb-true 46 a one.0) (eqb-true 46 b two.0) (eqb-true 46 c three.0)
  where
    same : 46 ≡ a → 46 ≡ b → 46 ≡ c → a ∷ b ∷ c ∷ [] ≡ 46 ∷ 46 ∷ 46 ∷ []
    same x y z = cc

token_prints : (b : ℕ) (rest : List ℕ) → Prints (b ∷ rest) (token_at (b ∷ rest))
token_prints b rest =
    choice (Prints (b ∷ rest)) (is_name_start b) (name_token (b ∷ rest)) _
    (λ h. prints (b ∷ rest) Name (prefix_len is_name_continue (b ∷ rest)) (name_front b rest h)) (λ _.
    choice (Prints (b ∷ rest)) (is_digit b || b == 45) (integer_token (b ∷ rest)) _
    (λ _. integer_prints (b ∷ rest)) (λ _.
    choice (Prints (b ∷ rest)) (b == 34) (string_token (b ∷ rest)) (punctuator_token b (b ∷ rest))
    (λ _. string_prints (b ∷ rest) _) (λ _.
    choice (Prints (b ∷ rest)) (begins_with (codes "...") (b ∷ rest)) (Some (Spread, 3)) (option_map (λ kind. of_kind kind 1) (punctuator b))
    (λ h. prints (b ∷ rest) Spread 3 (dots (b ∷ rest) h)) (λ _. punctuator_prints b rest))))

-- ---- all tokens

clash : true ≡ false → ⊥
clash e = cc

taken_prints : (others : ℕ → List Token) (place : Place) (b : ℕ) (rest : List ℕ) (o : Option (Kind × ℕ)) → token_at (b ∷ rest) ≡ o → ((k : ℕ) → ArePrintable (others k)) → ArePrintable (taken others place (b ∷ rest) o)
taken_prints others place b rest None e h = ((λ l. absurd (clash l)), tt)
taken_prints others place b rest (Some t) e h = ((λ _. token_prints b rest t e), h (t.1 - 1))

behind_prints : (k : ℕ) (place : Place) (text : List ℕ) → ArePrintable (tokens_behind k place text)
behind_prints zero place [] = ((λ l. absurd (clash l)), tt)
behind_prints (suc k) place [] = ((λ l. absurd (clash l)), tt)
behind_prints (suc k) place (b ∷ rest) = behind_prints k (place_behind place b rest) rest
behind_prints zero place (b ∷ rest) =
    lexed_prints (λ left. tokens_behind left (place_behind place b rest) rest) place b rest (λ k. behind_prints k (place_behind place b rest) rest)
  where
    lexed_prints : (others : ℕ → List Token) (place : Place) (b : ℕ) (rest : List ℕ) → ((k : ℕ) → ArePrintable (others k)) → ArePrintable (lexed others place (b ∷ rest))
    lexed_prints others place b rest h =
        choice ArePrintable (ignored_len (b ∷ rest) == 0) (taken others place (b ∷ rest) (token_at (b ∷ rest))) (others (ignored_len (b ∷ rest) - 1))
        (λ _. taken_prints others place b rest (token_at (b ∷ rest)) refl h) (λ _. h (ignored_len (b ∷ rest) - 1))

pub tokens_print : TokensArePrintable
tokens_print text = behind_prints 0 first_place text
