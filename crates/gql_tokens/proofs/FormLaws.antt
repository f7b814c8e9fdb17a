-- A token's text is of its kind's form.
use Rattle.std.proofs.Common.{◌≡◌, ◌&&◌, ◌||◌, ◌==◌, ℕ, suc, ◌+◌, Bool, true, false, cond, not, List, [], ◌∷◌, take, drop, Option, Some, None, unwrap_or, refl, subst, ◌∙◌, arith, codes}
use Rattle.std.specs.Option.{option_map}
use Rattle.std.specs.List.{prefix_len, list_all}
use Rattle.gql_tokens.specs.declared.token.Kind.{Kind}
use Rattle.gql_tokens.specs.declared.token.Kind.TheVariants.{Bang, Dollar, Ampersand, ParenOpen, ParenClose, Spread, Colon, Equals, At, BracketOpen, BracketClose, BraceOpen, Pipe, BraceClose, Name, Integer, String, Fault, End}
use Rattle.gql_tokens.specs.Characters.{begins_with}
use Rattle.gql_tokens.specs.Names.{is_name_start, is_name_continue, is_digit, IsName}
use Rattle.gql_tokens.specs.Numbers.{is_integer, number_len, continues_number, IsInteger}
use Rattle.gql_tokens.specs.Lexemes.{punctuator, of_kind, name_token, integer_token, string_token, punctuator_token, token_at}
use Rattle.gql_tokens.specs.Heads.{head_of}
use Rattle.gql_tokens.proofs.Choices.{choice}
use Rattle.gql_tokens.proofs.NameLaws.{both}

-- a name's text is a name, an integer's text an integer
pub record Formed (text : List ℕ) (t : Kind × ℕ) : Type 0 where
  pub name : t.0 ≡ Name → IsName (take t.1 text)
  pub integer : t.0 ≡ Integer → IsInteger (take t.1 text)

abbrev AllFormed : List ℕ → Option (Kind × ℕ) → Type 0
AllFormed text o = (t : Kind × ℕ) → o ≡ Some t → Formed text t

-- what passes at the front passes
pub front_passes : (p : ℕ → Bool) (xs : List ℕ) → list_all p (take (prefix_len p xs) xs) ≡ true
front_passes p [] = refl
front_passes p (x ∷ xs) = here (p x) refl (front_passes p xs)
  where
    here : (t : Bool) → p x ≡ t → list_all p (take (prefix_len p xs) xs) ≡ true → list_all p (take (cond t (1 + prefix_len p xs) 0) (x ∷ xs)) ≡ true
    here false e more = refl
    here true e more = let one : 1 + prefix_len p xs ≡ suc (prefix_len p xs) = omega arith in rw (one, e) more

pub name_front : (b : ℕ) (rest : List ℕ) → is_name_start b ≡ true → IsName (take (prefix_len is_name_continue (b ∷ rest)) (b ∷ rest))
name_front b rest h =
    let started : prefix_len is_name_continue (b ∷ rest) ≡ suc (prefix_len is_name_continue rest) = rw h (omega arith) in
    rw (started, h) (front_passes is_name_continue rest)

name_formed : (b : ℕ) (rest : List ℕ) → is_name_start b ≡ true → AllFormed (b ∷ rest) (name_token (b ∷ rest))
name_formed b rest h t e =
    let same : (Name, prefix_len is_name_continue (b ∷ rest)) ≡ t = cc in
    let here : Formed (b ∷ rest) (Name, prefix_len is_name_continue (b ∷ rest)) = record { name = λ _. name_front b rest h; integer = λ i. absurd cc } in
    subst (Formed (b ∷ rest)) same here

integer_formed : (text : List ℕ) → AllFormed text (integer_token text)
integer_formed text =
    choice (λ (o : Option ℕ). AllFormed text (option_map (of_kind Integer) o)) (is_integer (take (number_len text) text) && not (continues_number (drop (number_len text) text))) (Some (number_len text)) None
    (λ h t e.
    let same : (Integer, number_len text) ≡ t = cc in
    let here : Formed text (Integer, number_len text) = record { name = λ i. absurd cc; integer = λ _. (both _ _ h).0 } in
    subst (Formed text) same here)
    (λ h t e. absurd cc)

-- a token of another kind
other_formed : (text : List ℕ) (kind : Kind) (o : Option ℕ) → (kind ≡ Name → ⊥) → (kind ≡ Integer → ⊥) → AllFormed text (option_map (of_kind kind) o)
other_formed text kind None n i t e = absurd cc
other_formed text kind (Some len) n i t e =
    let same : (kind, len) ≡ t = cc in
    let here : Formed text (kind, len) = record { name = λ k. absurd (n k); integer = λ k. absurd (i k) } in
    subst (Formed text) same here

abbrev Single : Option Kind → Type 0
Single o = (kind : Kind) → o ≡ Some kind → (kind ≡ Name → ⊥) × (kind ≡ Integer → ⊥)

this : (kind : Kind) → (kind ≡ Name → ⊥) → (kind ≡ Integer → ⊥) → Single (Some kind)
this kind n i other e = let same : kind ≡ other = cc in (λ k. n (same ∙ k), λ k. i (same ∙ k))

punctuators_single : (b : ℕ) → Single (punctuator b)
punctuators_single b =
    choice Single (b == 33) (Some Bang) _ (λ _. this Bang (λ k. absurd cc) (λ k. absurd cc)) (λ _.
    choice Single (b == 36) (Some Dollar) _ (λ _. this Dollar (λ k. absurd cc) (λ k. absurd cc)) (λ _.
    choice Single (b == 38) (Some Ampersand) _ (λ _. this Ampersand (λ k. absurd cc) (λ k. absurd cc)) (λ _.
    choice Single (b == 40) (Some ParenOpen) _ (λ _. this ParenOpen (λ k. absurd cc) (λ k. absurd cc)) (λ _.
    choice Single (b == 41) (Some ParenClose) _ (λ _. this ParenClose (λ k. absurd cc) (λ k. absurd cc)) (λ _.
    choice Single (b == 58) (Some Colon) _ (λ _. this Colon (λ k. absurd cc) (λ k. absurd cc)) (λ _.
    choice Single (b == 61) (Some Equals) _ (λ _. this Equals (λ k. absurd cc) (λ k. absurd cc)) (λ _.
    choice Single (b == 64) (Some At) _ (λ _. this At (λ k. absurd cc) (λ k. absurd cc)) (λ _.
    choice Single (b == 91) (Some BracketOpen) _ (λ _. this BracketOpen (λ k. absurd cc) (λ k. absurd cc)) (λ _.
    choice Single (b == 93) (Some BracketClose) _ (λ _. this BracketClose (λ k. absurd cc) (λ k. absurd cc)) (λ _.
    choice Single (b == 123) (Some BraceOpen) _ (λ _. this BraceOpen (λ k. absurd cc) (λ k. absurd cc)) (λ _.
    choice Single (b == 124) (Some Pipe) _ (λ _. this Pipe (λ k. absurd cc) (λ k. absurd cc)) (λ _.
    choice Single (b == 125) (Some BraceClose) None (λ _. this BraceClose (λ k. absurd cc) (λ k. absurd cc)) (λ _. (λ kind e. absurd cc))))))))))))))

single_formed : (text : List ℕ) (o : Option Kind) → Single o → AllFormed text (option_map (λ kind. of_kind kind 1) o)
single_formed text None h t e = absurd cc
single_formed text (Some kind) h t e =
    let same : (kind, 1) ≡ t = cc in
    let here : Formed text (kind, 1) = record { name = λ k. absurd ((h kind refl).0 k); integer = λ k. absurd ((h kind refl).1 k) } in
    subst (Formed text) same here

spread_formed : (text : List ℕ) → AllFormed text (Some (Spread, 3))
spread_formed text t e =
    let same : (Spread, 3) ≡ t = cc in
    let here : Formed text (Spread, 3) = record { name = λ k. absurd cc; integer = λ k. absurd cc } in
    subst (Formed text) same here

token_formed : (text : List ℕ) → AllFormed text (token_at text)
token_formed [] t e = absurd cc
token_formed (b ∷ rest) t e =
    choice (AllFormed (b ∷ rest)) (is_name_start b) (name_token (b ∷ rest)) _
    (λ h. name_formed b rest h)
    (λ h. choice (AllFormed (b ∷ rest)) (is_digit b || b == 45) (integer_token (b ∷ rest)) _
    (λ i. integer_formed (b ∷ rest))
    (λ i. choice (AllFormed (b ∷ rest)) (b == 34) (string_token (b ∷ rest)) (punctuator_token b (b ∷ rest))
    (λ j. other_formed (b ∷ rest) String _ (λ k. absurd cc) (λ k. absurd cc))
    (λ j. choice (AllFormed (b ∷ rest)) (begins_with (codes "...") (b ∷ rest)) (Some (Spread, 3)) _ (λ k. spread_formed (b ∷ rest)) (λ k. single_formed (b ∷ rest) (punctuator b) (punctuators_single b)))))
    t e

pub head_formed : (text : List ℕ) (kind : Kind) (len : ℕ) → head_of text ≡ (kind, len) → Formed text (kind, len)
head_formed text kind len e = subst (Formed text) e (whole text)
  where
    last : (kind : Kind) → (kind ≡ Name → ⊥) → (kind ≡ Integer → ⊥) → (text : List ℕ) → Formed text (kind, 0)
    last kind n i text = record { name = λ k. absurd (n k); integer = λ k. absurd (i k) }

    whole : (text : List ℕ) → Formed text (head_of text)
    whole [] = last End (λ k. absurd cc) (λ k. absurd cc) []
    whole (b ∷ rest) = here (token_at (b ∷ rest)) refl
      where
        here : (o : Option (Kind × ℕ)) → token_at (b ∷ rest) ≡ o → Formed (b ∷ rest) (unwrap_or o (Fault, 0))
        here None e = last Fault (λ k. absurd cc) (λ k. absurd cc) (b ∷ rest)
        here (Some t) e = token_formed (b ∷ rest) t e
