-- The keys of a map in order: those before a key lack it.
use Rattle.std.proofs.Common.{◌≡◌, ℕ, List, [], ◌∷◌, ◌++◌, map, String, Global, Less, string_bytes, string_cmp, is_eq, bytes_eq, false, refl, ap, sym, ◌∙◌, subst}
use Rattle.std.proofs.lemmas.Map.Text.{is_eq-slice_cmp}
use Rattle.std.specs.List.{AllByRecursion}
use Rattle.std.specs.List.Sorted.{IsStrictlySortedBy}
use Rattle.std.specs.Map.{keys_of}
use Rattle.serde_json.proofs.Views.{Entry}
use Rattle.text_types.specs.Names.{names_of, Lacks}
use Rattle.gql_value.specs.declared.value.Value.{Value}
use Rattle.gql_value.proofs.Conversion.{SameMembers, named_data, named_view}

all_middle : (P : String Global → Type 0) (front : List Entry) (e : Entry) (rest : List Entry) → AllByRecursion P (keys_of (front ++ e ∷ rest)) → P e.0
all_middle P [] e rest h = h.0
all_middle P (x ∷ front) e rest h = all_middle P front e rest h.1

Lacks-front : (front : List Entry) (e : Entry) (rest : List Entry) → IsStrictlySortedBy string_cmp (keys_of (front ++ e ∷ rest)) → Lacks (map named_view front) (string_bytes e.0)
unfolding IsStrictlySortedBy
Lacks-front [] e rest sorted = tt
Lacks-front (x ∷ front) e rest sorted =
    let below : string_cmp x.0 e.0 ≡ Less = all_middle (λ y. string_cmp x.0 y ≡ Less) front e rest sorted.0 in
    (sym (is_eq-slice_cmp (string_bytes x.0) (string_bytes e.0)) ∙ ap is_eq below, Lacks-front front e rest sorted.1)

names_of-named_data : (values : List (List ℕ × Value)) → names_of (map named_data values) ≡ names_of values
names_of-named_data [] = refl
names_of-named_data (m ∷ values) = ap (λ ns. m.0 ∷ ns) (names_of-named_data values)

-- what was converted from the entries before this one lacks its name
pub Lacks-SameMembers : (values : List (List ℕ × Value)) (front : List Entry) (e : Entry) (rest : List Entry) → SameMembers values front → IsStrictlySortedBy string_cmp (keys_of (front ++ e ∷ rest)) → Lacks values (string_bytes e.0)
Lacks-SameMembers values front e rest same sorted =
    subst (AllByRecursion (λ n. bytes_eq n (string_bytes e.0) ≡ false)) (sym (ap names_of same) ∙ names_of-named_data values) (Lacks-front front e rest sorted)
