-- The texts of keys. They follow the keys of urql's Graphcache, with escapes, so that equal texts come from equal parts.
use Rattle.std.specs.Prelude.{◌≡◌, ℕ, ◌==◌, Bool, true, false, ◌&&◌, ◌||◌, if◌then◌else◌, nat_le, List, [], ◌∷◌, ◌++◌, flat_map, take, length, position, unwrap_or, codes}
use Rattle.std.specs.Fmt.{decimal}
use Rattle.std.specs.List.{list_all}

-- a letter or an underscore, with which a name starts (GraphQL October 2021, 2.1.9)
abbrev pub is_name_start : ℕ → Bool
is_name_start b = (nat_le 65 b && nat_le b 90) || (nat_le 97 b && nat_le b 122) || b == 95

-- a digit (GraphQL October 2021, 2.1.9)
abbrev pub is_digit : ℕ → Bool
is_digit b = nat_le 48 b && nat_le b 57

-- a name: a letter or underscore, then letters, underscores and digits (GraphQL October 2021, 2.1.9)
abbrev pub is_name : List ℕ → Bool
is_name [] = false
is_name (b ∷ bs) = is_name_start b && list_all (λ c. is_name_start c || is_digit c) bs

-- the text is a name
abbrev pub IsName : List ℕ → Type 0
IsName text = is_name text ≡ true

-- what stands for one byte of an id or a field key inside an entity key: `%25` for `%`, which is byte 37, and `%2E` for `.`, which is byte 46
abbrev pub escaped_byte : ℕ → List ℕ
escaped_byte b = if b == 37 then codes "%25" else (if b == 46 then codes "%2E" else b ∷ [])

-- a text with its escapes
abbrev pub escaped : List ℕ → List ℕ
escaped = flat_map escaped_byte

-- the key of an object of a type that has an id of its own
abbrev pub keyed_text : List ℕ → List ℕ → List ℕ
keyed_text name id = name ++ (codes ":" ++ escaped id)

-- the indexes that lead into a list, a dot before each
abbrev pub places_text : List ℕ → List ℕ
places_text = flat_map (λ place. codes "." ++ decimal place)

-- the key of an object without an id: its parent's key, the field that leads to it, the indexes where that field holds lists, and its type
abbrev pub embedded_text : List ℕ → List ℕ → List ℕ → List ℕ → List ℕ
embedded_text parent field places name = parent ++ (codes "." ++ (escaped field ++ (places_text places ++ (codes "@" ++ name))))

-- the key of a root object: its type's name
abbrev pub root_text : List ℕ → List ℕ
root_text name = name

-- the key of a field with arguments, of which this is the text
abbrev pub field_text : List ℕ → List ℕ → List ℕ
field_text name arguments = name ++ (codes "(" ++ (arguments ++ codes ")"))

-- the name of a field key: its part before the first `(`, which is byte 40
abbrev pub field_name_of : List ℕ → List ℕ
field_name_of field = take (unwrap_or (position (λ b. b == 40) field) (length field)) field
