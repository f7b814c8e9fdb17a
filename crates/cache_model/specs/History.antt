-- What each ticket stands for, the map that all tickets make, and what a store may keep in place of them.
use Rattle.std.specs.Prelude.{◌≡◌, ℕ, ◌-◌, ◌≤◌, Bool, true, false, ◌&&◌, List, [], ◌∷◌, ◌++◌, drop, length, Option, slice_set, slice_index_or, is_some, unwrap_or}
use Rattle.std.specs.List.{list_any, AllByRecursion}
use Rattle.cache_model.specs.declared.cell.Cell.{Cell}
use Rattle.cache_model.specs.declared.write.Write.{Write}
use Rattle.cache_model.specs.declared.kind.Kind.{Kind}
use Rattle.cache_model.specs.declared.kind.Kind.TheVariants.{Empty, Optimistic, Final}
use Rattle.cache_model.specs.Maps.{CellMap, no_cells, covers, all_applied}

-- what a ticket stands for at a moment: a kind, the mark 'finished', and its writes
pub record Content : Type 0 where
  pub kind : Kind
  pub finished : Bool
  pub writes : List Write

-- the contents of tickets 1, 2, 3 and so on (the layers of urql's Graphcache, in order of first sending)
abbrev pub History : Type 0
History = List Content

-- the content of a ticket that was just drawn
abbrev pub no_content : Content
no_content = record { kind = Empty; finished = false; writes = [] }

-- the content of a ticket
abbrev pub content_of : History → ℕ → Content
content_of history ticket = slice_index_or history (ticket - 1) no_content

-- the history after one more ticket was drawn
abbrev pub reserved : History → History
reserved history = history ++ no_content ∷ []

-- the history after a ticket's whole content was replaced
abbrev pub filled : History → ℕ → List Write → Kind → History
filled history ticket writes kind = slice_set history (ticket - 1) (record { kind = kind; finished = false; writes = writes })

-- a content with the mark
abbrev pub with_mark : Content → Content
with_mark content = record { kind = content.kind; finished = true; writes = content.writes }

-- the history after a ticket was finished
abbrev pub finished : History → ℕ → History
finished history ticket = slice_set history (ticket - 1) (with_mark (content_of history ticket))

-- a map after the writes of some contents, one content after another
abbrev pub flattened_over : CellMap → History → CellMap
flattened_over map [] = map
flattened_over map (content ∷ history) = flattened_over (all_applied map content.writes) history

-- the one plain map of a history: all writes of all contents in order of their tickets, whatever the order in which they came
abbrev pub flattened : History → CellMap
flattened = flattened_over no_cells

-- a content has a write that covers the cell
abbrev pub touches : List ℕ → List ℕ → Content → Bool
touches entity field content = list_any (λ write. covers write entity field) content.writes

-- the kind is Optimistic
abbrev pub is_optimistic : Kind → Bool
is_optimistic Empty = false
is_optimistic Optimistic = true
is_optimistic Final = false

-- an Optimistic content of the history has a write that covers the cell
abbrev pub touched_optimistically : History → List ℕ → List ℕ → Bool
touched_optimistically history entity field = list_any (λ content. is_optimistic content.kind && touches entity field content) history

-- a content of a later ticket has a write that covers the cell
abbrev pub touched_above : History → ℕ → List ℕ → List ℕ → Bool
touched_above history ticket entity field = list_any (λ content. touches entity field content) (drop ticket history)

-- a query that looked at these cells is blocked: an optimistic write covers one of them
abbrev pub is_blocked : List (List ℕ × List ℕ) → History → Bool
is_blocked visited history = list_any (λ cell. touched_optimistically history cell.0 cell.1) visited

-- a query that looked at these cells is shadowed as of a ticket: a write of a later ticket covers one of them
abbrev pub is_shadowed : List (List ℕ × List ℕ) → History → ℕ → Bool
is_shadowed visited history ticket = list_any (λ cell. touched_above history ticket cell.0 cell.1) visited

-- the ticket was drawn and isn't finished
pub record IsUnfinished (history : History) (ticket : ℕ) : Type 0 where
  pub drawn : 1 ≤ ticket
  pub known : ticket ≤ length history
  pub mark : (content_of history ticket).finished ≡ false

-- a content that is finished isn't Optimistic
abbrev pub IsSettled : Content → Type 0
IsSettled content = content.finished ≡ true → is_optimistic content.kind ≡ false

-- the first of some contents, where there is one, is unfinished
abbrev pub BeginsUnfinished : History → Type 0
BeginsUnfinished [] = Unit {0}
BeginsUnfinished (content ∷ history) = content.finished ≡ false

-- what is kept of a content: its kind, its mark, and of each cell nothing, or what stands there after it
pub record Kept : Type 0 where
  pub kind : Kind
  pub finished : Bool
  pub says : List ℕ → List ℕ → Option (Option Cell)

-- something kept stands for a content: same kind, same mark, it covers the same cells, and it changes every map alike
pub record KeepsContent (kept : Kept) (content : Content) : Type 0 where
  pub kind : kept.kind ≡ content.kind
  pub mark : kept.finished ≡ content.finished
  pub covered : (entity field : List ℕ) → is_some (kept.says entity field) ≡ touches entity field content
  pub changed : (map : CellMap) (entity field : List ℕ) → unwrap_or (kept.says entity field) (map entity field) ≡ all_applied map content.writes entity field

-- one kept thing for each content, in order
abbrev pub KeepsContents : List Kept → History → Type 0
KeepsContents [] [] = Unit {0}
KeepsContents [] (content ∷ history) = ⊥
KeepsContents (kept ∷ others) [] = ⊥
KeepsContents (kept ∷ others) (content ∷ history) = KeepsContent kept content × KeepsContents others history

-- what a store has in place of a history: a base map for the lowest contents, their number, and what it keeps of the others
pub record Layered : Type 0 where
  pub base : CellMap
  pub base_len : ℕ
  pub kept : List Kept

-- it stands for a history: the lowest contents are finished and the base is the map that they make; each other content has what is kept of it; no finished content is Optimistic
pub record StandsForHistory (layered : Layered) (history : History) : Type 0 where
  pub below : History
  pub above : History
  pub whole : history ≡ below ++ above
  pub count : length below ≡ layered.base_len
  pub squashed : AllByRecursion (λ content. content.finished ≡ true) below
  pub base : (entity field : List ℕ) → layered.base entity field ≡ flattened below entity field
  pub layers : KeepsContents layered.kept above
  pub settled : AllByRecursion IsSettled history
