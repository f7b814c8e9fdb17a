-- Equal keys come from equal parts.
use Rattle.std.proofs.Common.{◌≡◌, ℕ, ◌&&◌, ◌||◌, Bool, true, false, List, [], ◌∷◌, ◌++◌, refl, sym, arith, ◌⊎◌, inl, inr}
use Rattle.std.specs.List.{list_all}
use Rattle.std.proofs.lemmas.Bool.Decides.{nat_tests}
use Rattle.cache_model.specs.Keys.{is_name_start, is_digit, IsName, escaped, places_text, keyed_text, embedded_text, root_text}
use Rattle.entity_keys.proofs.Splits.{Lacks, Lacks-append, no_split, split_first}
use Rattle.entity_keys.proofs.EscapeLaws.{after, escaped_lacks_dot, escaped_same}

-- the bytes that part a key: a dot, a colon, an at sign
abbrev IsPart : ℕ → Type 0
IsPart b = (b ≡ 46) ⊎ ((b ≡ 58) ⊎ (b ≡ 64))

start_is_no_part : (p b : ℕ) → IsPart p → is_name_start b ≡ true → b ≡ p → ⊥
start_is_no_part p b k s e = grind (arith, nat_tests)

more_is_no_part : (p b : ℕ) → IsPart p → (is_name_start b || is_digit b) ≡ true → b ≡ p → ⊥
more_is_no_part p b k s e = grind (arith, nat_tests)

pub left_of : (a b : Bool) → (a && b) ≡ true → a ≡ true
left_of true b e = refl
left_of false b e = e

right_of : (a b : Bool) → (a && b) ≡ true → b ≡ true
right_of true b e = e
right_of false b e = absurd cc

more_lack : (p : ℕ) → IsPart p → (bs : List ℕ) → list_all (λ c. is_name_start c || is_digit c) bs ≡ true → Lacks p bs
more_lack p k [] e = tt
more_lack p k (b ∷ bs) e = (
  more_is_no_part p b k (left_of (is_name_start b || is_digit b) (list_all (λ c. is_name_start c || is_digit c) bs) e),
  more_lack p k bs (right_of (is_name_start b || is_digit b) (list_all (λ c. is_name_start c || is_digit c) bs) e),
)

-- a name lacks the bytes that part a key
pub name_lacks : (p : ℕ) → IsPart p → (name : List ℕ) → IsName name → Lacks p name
name_lacks p k [] e = absurd cc
name_lacks p k (b ∷ bs) e = (
  start_is_no_part p b k (left_of (is_name_start b) (list_all (λ c. is_name_start c || is_digit c) bs) e),
  more_lack p k bs (right_of (is_name_start b) (list_all (λ c. is_name_start c || is_digit c) bs) e),
)

pub keyed_same : (name id other other_id : List ℕ) → IsName name → IsName other → keyed_text name id ≡ keyed_text other other_id → (name ≡ other) × (id ≡ other_id)
keyed_same name id other other_id n m e =
    let r = split_first 58 name other (escaped id) (escaped other_id) (name_lacks 58 (inr (inl refl)) name n) (name_lacks 58 (inr (inl refl)) other m) e in
    (r.0, escaped_same id other_id r.1)

pub keyed_no_root : (name id root : List ℕ) → IsName root → keyed_text name id ≡ root_text root → ⊥
keyed_no_root name id root n e = no_split 58 root name (escaped id) (name_lacks 58 (inr (inl refl)) root n) (sym e)

pub embedded_no_root : (parent field places name root : List ℕ) → IsName root → embedded_text parent field places name ≡ root_text root → ⊥
embedded_no_root parent field places name root n e = no_split 46 root parent (escaped field ++ (places_text places ++ (64 ∷ name))) (name_lacks 46 (inl refl) root n) (sym e)

pub keyed_not_embedded : (name id parent field places type_name : List ℕ) → IsName name → keyed_text name id ≡ embedded_text parent field places type_name → ⊥
keyed_not_embedded name id parent field places type_name n e =
    no_split 46 (keyed_text name id) parent (escaped field ++ (places_text places ++ (64 ∷ type_name)))
    (Lacks-append 46 name (58 ∷ escaped id) (name_lacks 46 (inl refl) name n) (after 58 46 (omega arith), escaped_lacks_dot id)) e
