-- Equal keys of fields come from equal parts: a name has no parenthesis, so a key is cut at its first one.
use Rattle.std.proofs.Common.{◌≡◌, ℕ, ◌||◌, true, List, [], ◌∷◌, ◌++◌, refl, sym, ap, arith}
use Rattle.std.specs.List.{list_all}
use Rattle.std.proofs.lemmas.Bool.{and_parts}
use Rattle.std.proofs.lemmas.Bool.Decides.{nat_tests}
use Rattle.gql_value.specs.declared.value.Value.{Value}
use Rattle.gql_value.specs.declared.value.Value.TheVariants.{Obj}
use Rattle.gql_value.specs.Sorted.{sorted_text_of}
use Rattle.cache_model.specs.Keys.{is_name_start, is_digit, IsName, field_text}
use Rattle.entity_keys.specs.Fields.{field_key_text}
use Rattle.entity_keys.proofs.Splits.{Lacks, no_split, split_first, split_last}
use Rattle.field_key_laws.specs.Laws.{AreWrittenAlike}
use Rattle.field_key_laws.specs.Values.{sorted_value, has_numbers}
use Rattle.field_key_laws.proofs.SortedLaws.{sorted_texts_by_values, sorted_texts_of_values, none_and_some}

start_is_no_parenthesis : (b : ℕ) → is_name_start b ≡ true → b ≡ 40 → ⊥
start_is_no_parenthesis b s e = grind (arith, nat_tests)

more_is_no_parenthesis : (b : ℕ) → (is_name_start b || is_digit b) ≡ true → b ≡ 40 → ⊥
more_is_no_parenthesis b s e = grind (arith, nat_tests)

more_lack : (bs : List ℕ) → list_all (λ c. is_name_start c || is_digit c) bs ≡ true → Lacks 40 bs
more_lack [] e = tt
more_lack (b ∷ bs) e =
    let parts = and_parts (is_name_start b || is_digit b) (list_all (λ c. is_name_start c || is_digit c) bs) e in
    (more_is_no_parenthesis b parts.0, more_lack bs parts.1)

-- a name has no parenthesis
name_lacks : (name : List ℕ) → IsName name → Lacks 40 name
name_lacks [] e = absurd cc
name_lacks (b ∷ bs) e =
    let parts = and_parts (is_name_start b) (list_all (λ c. is_name_start c || is_digit c) bs) e in
    (start_is_no_parenthesis b parts.0, more_lack bs parts.1)

-- two names, each with a text in parentheses
texts_same : (name other text other_text : List ℕ) → IsName name → IsName other → field_text name text ≡ field_text other other_text → (name ≡ other) × (text ≡ other_text)
texts_same name other text other_text n m e =
    let r = split_first 40 name other (text ++ (41 ∷ [])) (other_text ++ (41 ∷ [])) (name_lacks name n) (name_lacks other m) e in
    (r.0, (split_last 41 text other_text [] [] tt tt r.1).0)

-- a name alone isn't one with a text in parentheses
name_alone : (name other text : List ℕ) → IsName name → name ≡ field_text other text → ⊥
name_alone name other text n e = no_split 40 name other (text ++ (41 ∷ [])) (name_lacks name n) e

pub keys_same : (name other : List ℕ) (arguments other_arguments : List (List ℕ × Value)) → IsName name → IsName other
    → field_key_text name arguments ≡ field_key_text other other_arguments → (name ≡ other) × AreWrittenAlike arguments other_arguments
keys_same name other [] [] n m e = (e, tt)
keys_same name other [] (o ∷ others) n m e = absurd (name_alone name other (sorted_text_of (Obj (o ∷ others))) n e)
keys_same name other (a ∷ arguments) [] n m e = absurd (name_alone other name (sorted_text_of (Obj (a ∷ arguments))) m (sym e))
keys_same name other (a ∷ arguments) (o ∷ others) n m e = texts_same name other (sorted_text_of (Obj (a ∷ arguments))) (sorted_text_of (Obj (o ∷ others))) n m e

-- ---- arguments as values

by_values : (arguments others : List (List ℕ × Value)) → has_numbers (Obj arguments) ≡ true → has_numbers (Obj others) ≡ true → AreWrittenAlike arguments others → sorted_value (Obj arguments) ≡ sorted_value (Obj others)
by_values [] [] h k a = refl
by_values [] (o ∷ others) h k a = absurd a
by_values (a ∷ arguments) [] h k e = absurd e
by_values (a ∷ arguments) (o ∷ others) h k e = sorted_texts_by_values (Obj (a ∷ arguments)) (Obj (o ∷ others)) h k e

pub keys_by_values : (name other : List ℕ) (arguments others : List (List ℕ × Value)) → IsName name → IsName other → has_numbers (Obj arguments) ≡ true → has_numbers (Obj others) ≡ true
    → field_key_text name arguments ≡ field_key_text other others → (name ≡ other) × (sorted_value (Obj arguments) ≡ sorted_value (Obj others))
keys_by_values name other arguments others n m h k e =
    let parts = keys_same name other arguments others n m e in
    (parts.0, by_values arguments others h k parts.1)

pub keys_of_values : (name : List ℕ) (arguments others : List (List ℕ × Value)) → sorted_value (Obj arguments) ≡ sorted_value (Obj others) → field_key_text name arguments ≡ field_key_text name others
keys_of_values name [] [] e = refl
keys_of_values name [] (o ∷ others) e = absurd (none_and_some o others (sorted_texts_of_values (Obj []) (Obj (o ∷ others)) e))
keys_of_values name (a ∷ arguments) [] e = absurd (none_and_some a arguments (sym (sorted_texts_of_values (Obj (a ∷ arguments)) (Obj []) e)))
keys_of_values name (a ∷ arguments) (o ∷ others) e = ap (field_text name) (sorted_texts_of_values (Obj (a ∷ arguments)) (Obj (o ∷ others)) e)
