-- What an index of names stands for.
use Rattle.std.specs.Prelude.{◌≡◌, ℕ, List, bytes_eq}
use Rattle.std.specs.List.{position_from}
use Rattle.std.specs.BTreeMap.{BTreeMap, get}
use Rattle.text_types.specs.Texts.{text_cmp}

-- the index has the first place of each name
abbrev pub IsIndex : BTreeMap (List ℕ) ℕ → List (List ℕ) → Type 0
IsIndex places names = (name : List ℕ) → get text_cmp places name ≡ position_from (bytes_eq name) 0 names
