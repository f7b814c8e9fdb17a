-- What was converted so far, beside the JSON that it was converted from.
use Rattle.std.proofs.Common.{◌≡◌, ℕ, ◌+◌, ◌<◌, List, [], ◌∷◌, ◌++◌, length, map, drop, get_or, Option, None, string_bytes, refl, ap, ap₂, sym, ◌∙◌}
use Rattle.std.proofs.lemmas.List.{map-append, drop_more}
use Rattle.std.specs.Prelude.{decimal}
use Rattle.std.specs.Option.{option_or}
use Rattle.serde_json.specs.Data.{Data, Members}
use Rattle.serde_json.specs.View.{view, items_view, members_view}
use Rattle.serde_json.proofs.Views.{Entry}
use Rattle.serde_json.specs.declared.value.Value as json
use Rattle.gql_value.specs.declared.value.Value.{Value}
use Rattle.gql_value.specs.declared.refusal.Refusal.{Refusal}
use Rattle.gql_value.specs.declared.refusal.Refusal.TheVariants.{Memory, NotWhole}
use Rattle.gql_value.specs.Refusal.{IsStepsOf}
use Rattle.gql_value.specs.Json.{data_of, members_of, behind, not_whole, not_whole_from, not_whole_in}

-- these values are these items
abbrev pub SameItems : List Value → List json.Value → Type 0
SameItems values items = map data_of values ≡ map view items

-- a name with the data of its value
abbrev pub named_data : List ℕ × Value → List ℕ × Data
named_data m = (m.0, data_of m.1)

-- the name of an entry with its data
abbrev pub named_view : Entry → List ℕ × Data
named_view e = (string_bytes e.0, view e.1)

-- these named values are these entries
abbrev pub SameMembers : List (List ℕ × Value) → List Entry → Type 0
SameMembers values entries = map named_data values ≡ map named_view entries

-- one more on each side
pub SameMembers-more : (values : List (List ℕ × Value)) (entries : List Entry) (v : Value) (e : Entry) → data_of v ≡ view e.1 → SameMembers values entries → SameMembers (values ++ (string_bytes e.0, v) ∷ []) (entries ++ e ∷ [])
SameMembers-more values entries v e d s = map-append named_data values ((string_bytes e.0, v) ∷ []) ∙ ap₂ (λ a b. a ++ (string_bytes e.0, b) ∷ []) s d ∙ sym (map-append named_view entries (e ∷ []))

view_members : (entries : List Entry) → members_of (map named_view entries) ≡ members_view entries
view_members [] = refl
view_members (e ∷ es) = ap (λ ms. Members.member (string_bytes e.0) (view e.1) ms) (view_members es)

-- all of them make the same object
pub SameMembers-view : (values : List (List ℕ × Value)) (entries : List Entry) → SameMembers values entries → members_of (map named_data values) ≡ members_view entries
SameMembers-view values entries s = ap members_of s ∙ view_members entries

-- the first number of what is left of a list: in its first item, or behind that
pub not_whole_from-drop : (items : List json.Value) (i : ℕ) (x : json.Value) → i < length items → x ≡ get_or items i x
    → not_whole_from i (items_view (drop i items)) ≡ option_or (behind (decimal i) (not_whole (view x))) (not_whole_from (i + 1) (items_view (drop (i + 1) items)))
not_whole_from-drop items i x h at =
    ap (λ xs. not_whole_from i (items_view xs)) (drop_more items i x h)
    ∙ ap (λ y. option_or (behind (decimal i) (not_whole (view y))) (not_whole_from (i + 1) (items_view (drop (i + 1) items)))) (sym at)

-- a whole member leads on to the next
pub whole_member : (e : Entry) (es : List Entry) → not_whole (view e.1) ≡ None → not_whole_in (members_view (e ∷ es)) ≡ not_whole_in (members_view es)
whole_member e es w = ap (λ o. option_or (behind (string_bytes e.0) o) (not_whole_in (members_view es))) w

-- what is told of a first part is told of the whole
pub IsStepsOf-option_or : (first more : Option (List (List ℕ))) (refusal : Refusal) → IsStepsOf first refusal → IsStepsOf (option_or first more) refusal
IsStepsOf-option_or first more Memory told = tt
IsStepsOf-option_or first more (NotWhole steps) told = ap (λ o. option_or o more) told
