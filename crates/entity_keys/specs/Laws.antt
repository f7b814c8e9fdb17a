-- Equal keys come from equal parts, where type names and field names are names of the language.
use Rattle.std.specs.Prelude.{◌≡◌, ℕ, ◌<◌, ◌^◌, List}
use Rattle.std.specs.List.{AllByRecursion}
use Rattle.cache_model.specs.Keys.{IsName, keyed_text, embedded_text, root_text, field_name_of}

-- each index fits in 64 bits
abbrev pub ArePlaces : List ℕ → Type 0
ArePlaces places = AllByRecursion (λ place. place < 2 ^ 64) places

-- two keyed objects have equal keys only where type and id are equal
abbrev pub KeyedByParts : Type 0
KeyedByParts = (name id other other_id : List ℕ) → IsName name → IsName other
    → keyed_text name id ≡ keyed_text other other_id
    → (name ≡ other) × (id ≡ other_id)

-- two embedded objects have equal keys only where parent, field key, indexes and type are equal, whatever the parents are
abbrev pub EmbeddedByParts : Type 0
EmbeddedByParts = (parent field places name other other_field other_places other_name : List ℕ)
    → IsName (field_name_of field) → IsName (field_name_of other_field)
    → ArePlaces places → ArePlaces other_places → IsName name → IsName other_name
    → embedded_text parent field places name ≡ embedded_text other other_field other_places other_name
    → (parent ≡ other) × ((field ≡ other_field) × ((places ≡ other_places) × (name ≡ other_name)))

-- no keyed object has the key of a root object
abbrev pub KeyedIsNoRoot : Type 0
KeyedIsNoRoot = (name id root : List ℕ) → IsName root → keyed_text name id ≡ root_text root → ⊥

-- no keyed object has the key of an embedded object
abbrev pub KeyedIsNotEmbedded : Type 0
KeyedIsNotEmbedded = (name id parent field places type_name : List ℕ) → IsName name
    → keyed_text name id ≡ embedded_text parent field places type_name → ⊥

-- no embedded object has the key of a root object
abbrev pub EmbeddedIsNoRoot : Type 0
EmbeddedIsNoRoot = (parent field places name root : List ℕ) → IsName root
    → embedded_text parent field places name ≡ root_text root → ⊥
