-- The texts of which a line is made: a line is a JSON object (RFC 8259, 4) without spaces, behind which stands LF.
use Rattle.std.specs.Prelude.{ℕ, Bool, if◌then◌else◌, List, ◌++◌, codes, decimal, map, flat_map}
use Rattle.gql_value.specs.Text.{quoted, list_text, text_of}
use Rattle.cache_model.specs.declared.cell.Link.{fold-Link}
use Rattle.cache_model.specs.declared.cell.Link.TheOpen.{Link-F}
use Rattle.cache_model.specs.declared.cell.Link.{Link}
use Rattle.cache_model.specs.declared.cell.Cell.{Cell}
use Rattle.cache_model.specs.declared.cell.Cell.TheVariants as cell

-- a name of a member with the text of its value
abbrev pub Member : Type 0
Member = List ℕ × List ℕ

-- one more member behind others; no name of a line needs an escape
abbrev pub member_text : Member → List ℕ
member_text m = codes ",\"" ++ (m.0 ++ (codes "\":" ++ m.1))

-- a line: its first member `out` says what it is
abbrev pub line : List ℕ → List Member → List ℕ
line word members = codes "{\"out\":\"" ++ (word ++ (codes "\"" ++ (flat_map member_text members ++ codes "}\n")))

-- true or false
abbrev pub truth_text : Bool → List ℕ
truth_text truth = if truth then codes "true" else codes "false"

-- a word that needs no escape, as a string
abbrev pub word_text : List ℕ → List ℕ
word_text word = codes "\"" ++ (word ++ codes "\"")

-- numbers as an array
abbrev pub numbers_text : List ℕ → List ℕ
numbers_text numbers = list_text (map decimal numbers)

-- where a field leads, one level of it: null, the key of an object, or a list
abbrev pub link_step : Link-F (List ℕ) → List ℕ
link_step Link-F.Null = codes "null"
link_step (Link-F.Entity entity) = quoted entity
link_step (Link-F.List texts) = list_text texts

-- where a field leads
abbrev pub link_text : Link → List ℕ
link_text = fold-Link (List ℕ) link_step

-- what a field holds
abbrev pub cell_text : Cell → List ℕ
cell_text (cell.Leaf value) = codes "{\"leaf\":" ++ (text_of value ++ codes "}")
cell_text (cell.Link link) = codes "{\"link\":" ++ (link_text link ++ codes "}")

-- a cell with its place: the key of the object, the key of the field, and what it holds
abbrev pub placed_text : List ℕ × List ℕ × Cell → List ℕ
placed_text placed = codes "[" ++ (quoted placed.0 ++ (codes "," ++ (quoted placed.1 ++ (codes "," ++ (cell_text placed.2 ++ codes "]")))))

-- cells in their order
abbrev pub cells_text : List (List ℕ × List ℕ × Cell) → List ℕ
cells_text cells = list_text (map placed_text cells)
