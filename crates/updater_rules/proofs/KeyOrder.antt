-- The keys of a table in order: those before a key lack it, and each adds one setting.
use Rattle.std.proofs.Common.{◌≡◌, ℕ, List, Option, Ok, [], ◌∷◌, ◌++◌, map, String, Global, Less, string_bytes, string_cmp, is_eq, bytes_eq, false, ap, sym, ◌∙◌, subst}
use Rattle.std.proofs.lemmas.List.{map-append}
use Rattle.std.proofs.lemmas.Map.Text.{is_eq-slice_cmp}
use Rattle.std.specs.List.{AllByRecursion}
use Rattle.std.specs.List.Sorted.{IsStrictlySortedBy}
use Rattle.std.specs.Map.{keys_of}
use Rattle.toml.proofs.Views.{Entry}
use Rattle.toml.specs.Data.{Data}
use Rattle.schema_model.specs.declared.schema.Schema.{Schema}
use Rattle.text_types.specs.Names.{names_of, Lacks}
use Rattle.rules_model.specs.Judgement.{then_with, judged_key, keys_onto}
use Rattle.rules_model.specs.Keys.{KeySettings}

-- the names of entries
abbrev pub entry_names : List Entry → List (List ℕ)
entry_names entries = map (λ e. string_bytes e.0) entries

all_middle : (P : String Global → Type 0) (front : List Entry) (e : Entry) (rest : List Entry) → AllByRecursion P (keys_of (front ++ e ∷ rest)) → P e.0
all_middle P [] e rest h = h.0
all_middle P (x ∷ front) e rest h = all_middle P front e rest h.1

lacks_front : (front : List Entry) (e : Entry) (rest : List Entry) → IsStrictlySortedBy string_cmp (keys_of (front ++ e ∷ rest)) → AllByRecursion (λ n. bytes_eq n (string_bytes e.0) ≡ false) (entry_names front)
unfolding IsStrictlySortedBy
lacks_front [] e rest sorted = tt
lacks_front (x ∷ front) e rest sorted =
    let below : string_cmp x.0 e.0 ≡ Less = all_middle (λ y. string_cmp x.0 y ≡ Less) front e rest sorted.0 in
    (sym (is_eq-slice_cmp (string_bytes x.0) (string_bytes e.0)) ∙ ap is_eq below, lacks_front front e rest sorted.1)

-- settings with the names of the entries before this one lack its name
pub lacks_next : (keys : KeySettings) (front : List Entry) (e : Entry) (rest : List Entry) → names_of keys ≡ entry_names front → IsStrictlySortedBy string_cmp (keys_of (front ++ e ∷ rest)) → Lacks keys (string_bytes e.0)
lacks_next keys front e rest same sorted = subst (AllByRecursion (λ n. bytes_eq n (string_bytes e.0) ≡ false)) (sym same) (lacks_front front e rest sorted)

-- one more setting beside one more entry of its name
pub named_more : (keys : KeySettings) (front : List Entry) (e : Entry) (found : Option (List ℕ)) → names_of keys ≡ entry_names front → names_of (keys ++ (string_bytes e.0, found) ∷ []) ≡ entry_names (front ++ e ∷ [])
named_more keys front e found same =
    map-append (λ p. p.0) keys ((string_bytes e.0, found) ∷ []) ∙ ap (λ ns. ns ++ string_bytes e.0 ∷ []) same ∙ sym (map-append (λ x. string_bytes x.0) front (e ∷ []))

-- the settings that are left, behind one more
pub keys_step : (schema : Schema) (keys : KeySettings) (p : List ℕ × Data) (ps : List (List ℕ × Data)) (found : Option (List ℕ)) → judged_key schema p ≡ Ok found → keys_onto schema keys (p ∷ ps) ≡ keys_onto schema (keys ++ (p.0, found) ∷ []) ps
keys_step schema keys p ps found is = ap (then_with (λ f. keys_onto schema (keys ++ (p.0, f) ∷ []) ps)) is
