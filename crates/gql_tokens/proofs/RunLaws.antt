-- A run goes on behind each character.
use Rattle.std.proofs.Common.{◌≡◌, ◌≤◌, ◌<◌, ℕ, zero, suc, ◌+◌, ◌-◌, Bool, true, false, List, [], ◌∷◌, ◌++◌, length, take, drop, Option, Some, None, refl, ap, ◌∙◌, arith}
use Rattle.std.specs.List.{prefix_len}
use Rattle.gql_tokens.specs.Characters.{is_plain}
use Rattle.gql_tokens.specs.Runs.{Rule, run, run_behind, Begins}

pub skip_value : (rule : Rule) (k : ℕ) (text : List ℕ) → (run_behind rule k text).0 ≡ (run rule (drop k text)).0
skip_value rule zero [] = refl
skip_value rule (suc k) [] = refl
skip_value rule zero (b ∷ rest) = refl
skip_value rule (suc k) (b ∷ rest) = skip_value rule k rest

pub skip_len : (rule : Rule) (k : ℕ) (text : List ℕ) → k ≤ length text → (run_behind rule k text).1 ≡ k + (run rule (drop k text)).1
skip_len rule zero [] h = refl
skip_len rule (suc k) [] h = absurd (omega arith)
skip_len rule zero (b ∷ rest) h = omega arith
skip_len rule (suc k) (b ∷ rest) h = let e = skip_len rule k rest (omega arith) in omega arith

behind : (b : ℕ) (rest : List ℕ) (n : ℕ) → 0 < n → drop (n - 1) rest ≡ drop n (b ∷ rest)
behind b rest zero h = absurd (omega arith)
behind b rest (suc n) h = let e : suc n - 1 ≡ n = omega arith in rw e refl

-- the run of a text is what its first character means, and then the run behind it
pub run_value : (rule : Rule) (text : List ℕ) (c : List ℕ × ℕ) → rule text ≡ Some c → 0 < c.1 → c.1 ≤ length text → (run rule text).0 ≡ c.0 ++ (run rule (drop c.1 text)).0
run_value rule [] c e h w = absurd (omega arith)
run_value rule (b ∷ rest) c e h w = rw e (ap (λ (bytes : List ℕ). c.0 ++ bytes) (skip_value rule (c.1 - 1) rest ∙ ap (λ (text : List ℕ). (run rule text).0) (behind b rest c.1 h)))

pub run_len : (rule : Rule) (text : List ℕ) (c : List ℕ × ℕ) → rule text ≡ Some c → 0 < c.1 → c.1 ≤ length text → (run rule text).1 ≡ c.1 + (run rule (drop c.1 text)).1
run_len rule [] c e h w = absurd (omega arith)
run_len rule (b ∷ rest) c e h w =
    let skipped = skip_len rule (c.1 - 1) rest (omega arith) in
    let same : (run rule (drop (c.1 - 1) rest)).1 ≡ (run rule (drop c.1 (b ∷ rest))).1 = ap (λ (text : List ℕ). (run rule text).1) (behind b rest c.1 h) in
    rw e (omega arith)

pub run_stop : (rule : Rule) (text : List ℕ) → rule text ≡ None → run rule text ≡ ([], 0)
run_stop rule [] e = refl
run_stop rule (b ∷ rest) e = rw e refl

-- what the rule says of one character, as the beginning of the run
pub one_begins : (rule : Rule) (text : List ℕ) (o : Option (List ℕ × ℕ)) → rule text ≡ o → ((c : List ℕ × ℕ) → o ≡ Some c → (0 < c.1) × (c.1 ≤ length text)) → Begins rule text o
one_begins rule text None e h = run_stop rule text e
one_begins rule text (Some c) e h = (run_value rule text c e (h c refl).0 (h c refl).1, run_len rule text c e (h c refl).0 (h c refl).1)

-- the rule takes a plain byte alone, and it means itself
abbrev pub TakesPlain : Rule → Type 0
TakesPlain rule = (b : ℕ) (rest : List ℕ) → is_plain b ≡ true → rule (b ∷ rest) ≡ Some (b ∷ [], 1)

none_more : (n : ℕ) → n ≡ 0 + n
none_more n = omega arith

one_more : (n k m : ℕ) → n ≡ k + m → 1 + n ≡ suc k + m
one_more n k m e = omega arith

pub plain_begin : (rule : Rule) → TakesPlain rule → (text : List ℕ) → Begins rule text (Some (take (prefix_len is_plain text) text, prefix_len is_plain text))
plain_begin rule h [] = (refl, refl)
plain_begin rule h (b ∷ rest) = here (is_plain b) refl (plain_begin rule h rest)
  where
    here : (t : Bool) → is_plain b ≡ t → Begins rule rest (Some (take (prefix_len is_plain rest) rest, prefix_len is_plain rest))
        → Begins rule (b ∷ rest) (Some (take (prefix_len is_plain (b ∷ rest)) (b ∷ rest), prefix_len is_plain (b ∷ rest)))
    here false e more = rw e (refl, none_more (run rule (b ∷ rest)).1)
    here true e more =
        let k = prefix_len is_plain rest in
        let one : 1 + k ≡ suc k = omega arith in
        rw (e, one, h b rest e) (ap (λ (bytes : List ℕ). b ∷ bytes) more.0, one_more (run rule rest).1 k (run rule (drop k rest)).1 more.1)
