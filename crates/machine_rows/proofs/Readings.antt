-- What operations read, by where their root field leads, and when two values of the runs are alike. Links and values are opened here once, since that doesn't compute outside the crates of their types.
use Rattle.std.proofs.Common.{◌≡◌, ℕ, Bool, true, false, cond, not, List, [], ◌∷◌, ◌++◌, map, codes, Option, Some, None, refl, ap, ◌∙◌}
use Rattle.gql_value.specs.declared.value.Value.{map-Value}
use Rattle.gql_value.specs.declared.value.Value.TheOpen.{Value-F}
use Rattle.gql_value.specs.declared.value.Value.TheFolds.{fold-roll-Value}
use Rattle.gql_value.specs.declared.value.Value.TheViews.{roll-Value, out-roll-Value}
use Rattle.cache_model.specs.declared.cell.Cell.TheVariants as cell
use Rattle.cache_model.specs.declared.cell.Link.TheOpen.{Link-F}
use Rattle.cache_model.specs.declared.cell.Link.TheViews.{out-roll-Link}
use Rattle.cache_model.specs.Maps.{CellMap}
use Rattle.machine_model.specs.Operations.{Reading}
use Rattle.machine_model.specs.Readings.{Likeness, like_level, like_step, same_value}
use Rattle.machine_rows.specs.Values.{null, list}
use Rattle.machine_rows.specs.Operations.{Operation, Leaf, asked_by}
use Rattle.machine_rows.specs.Queries.{todo_told}
use Rattle.machine_rows.specs.Mutations.{done_told}
use Rattle.machine_rows.specs.Reading.{Found, looked, together, or_null, object_found, linked, item_found, link_in, leaf_names, leaf_found, plain_found, entity_found, reading_found, read_by}
use Rattle.machine_rows.specs.Writing.{link_to, links_to}

abbrev pub reading_of : Operation → Found → Reading
reading_of operation found = reading_found (asked_by operation).name (looked (codes "Query") (asked_by operation).field found)

abbrev pub entity_in : Operation → CellMap → List ℕ → Found
entity_in operation cells = entity_found cells (asked_by operation).leaves (asked_by operation).author

-- the root leads to an object
entity_read : (operation : Operation) (entity : List ℕ) (cells : CellMap)
    → cells (codes "Query") (asked_by operation).field ≡ Some (cell.Link (link_to entity))
    → read_by operation cells ≡ reading_of operation (entity_in operation cells entity)
entity_read operation entity cells e =
    ap (λ at. reading_of operation (link_in (entity_in operation cells) at)) e
    ∙ ap (λ link. reading_of operation (linked (entity_in operation cells) link)) (out-roll-Link (Link-F.Entity entity))

-- the root leads to a list of one object
list_read : (operation : Operation) (entity : List ℕ) (cells : CellMap)
    → cells (codes "Query") (asked_by operation).field ≡ Some (cell.Link (links_to (entity ∷ [])))
    → read_by operation cells ≡ reading_of operation (together list (entity_in operation cells entity ∷ []))
list_read operation entity cells e =
    ap (λ at. reading_of operation (link_in (entity_in operation cells) at)) e
    ∙ ap (λ link. reading_of operation (linked (entity_in operation cells) link)) (out-roll-Link (Link-F.List (link_to entity ∷ [])))
    ∙ ap (λ link. reading_of operation (together list (item_found (entity_in operation cells) link ∷ []))) (out-roll-Link (Link-F.Entity entity))

-- an object with an author
abbrev pub authored : CellMap → List Leaf → List Leaf → List ℕ → Found → Found
authored cells leaves inner entity author =
    object_found cells entity (leaf_names leaves ++ codes "author" ∷ [])
    (map (leaf_found cells entity) leaves ++ or_null false (looked entity (codes "author") author) ∷ [])

author_read : (cells : CellMap) (leaves inner : List Leaf) (entity author : List ℕ)
    → cells entity (codes "author") ≡ Some (cell.Link (link_to author))
    → entity_found cells leaves (Some inner) entity ≡ authored cells leaves inner entity (plain_found cells inner author)
author_read cells leaves inner entity author e =
    ap (λ at. authored cells leaves inner entity (link_in (plain_found cells inner) at)) e
    ∙ ap (λ link. authored cells leaves inner entity (linked (plain_found cells inner) link)) (out-roll-Link (Link-F.Entity author))

abbrev pub with_author : CellMap → List Leaf → Option (List Leaf) → List ℕ → List ℕ → Found
with_author cells leaves None entity author = plain_found cells leaves entity
with_author cells leaves (Some inner) entity author = authored cells leaves inner entity (plain_found cells inner author)

author_found : (cells : CellMap) (leaves : List Leaf) (inner : Option (List Leaf)) (entity author : List ℕ)
    → cells entity (codes "author") ≡ Some (cell.Link (link_to author))
    → entity_found cells leaves inner entity ≡ with_author cells leaves inner entity author
author_found cells leaves None entity author e = refl
author_found cells leaves (Some inner) entity author e = author_read cells leaves inner entity author e

-- ---- where the root field leads to

pub data Root : Type 0 where
  nowhere : Root
  to_one : List ℕ → Root
  to_list : List ℕ → Root
  to_authored : List ℕ → List ℕ → Root

-- the cells say so
abbrev pub Leads : Root → Operation → CellMap → Type 0
Leads nowhere operation cells = Unit {0}
Leads (to_one entity) operation cells = cells (codes "Query") (asked_by operation).field ≡ Some (cell.Link (link_to entity))
Leads (to_list entity) operation cells = cells (codes "Query") (asked_by operation).field ≡ Some (cell.Link (links_to (entity ∷ [])))
Leads (to_authored entity author) operation cells =
    (cells (codes "Query") (asked_by operation).field ≡ Some (cell.Link (link_to entity)))
    × (cells entity (codes "author") ≡ Some (cell.Link (link_to author)))

-- what is read then, without a link that is to be opened
abbrev pub now_by : Root → Operation → CellMap → Reading
now_by nowhere operation cells = read_by operation cells
now_by (to_one entity) operation cells = reading_of operation (entity_in operation cells entity)
now_by (to_list entity) operation cells = reading_of operation (together list (entity_in operation cells entity ∷ []))
now_by (to_authored entity author) operation cells =
    reading_of operation (with_author cells (asked_by operation).leaves (asked_by operation).author entity author)

pub read_is : (root : Root) (operation : Operation) (cells : CellMap) → Leads root operation cells → read_by operation cells ≡ now_by root operation cells
read_is nowhere operation cells e = refl
read_is (to_one entity) operation cells e = entity_read operation entity cells e
read_is (to_list entity) operation cells e = list_read operation entity cells e
read_is (to_authored entity author) operation cells e =
    entity_read operation entity cells e.0
    ∙ ap (reading_of operation) (author_found cells (asked_by operation).leaves (asked_by operation).author entity author e.1)

-- ---- values

pub same_rolled : (x y : Value-F _) → same_value (roll-Value x) (roll-Value y) ≡ like_level (map-Value _ _ same_value x) y
same_rolled x y =
    ap (λ (like : Likeness). like (roll-Value y)) (fold-roll-Value Likeness like_step x)
    ∙ ap (like_level (map-Value _ _ same_value x)) (out-roll-Value y)

-- a reading that was null is null again
pub nulls_unchanged : not (same_value null null) ≡ false
nulls_unchanged = ap not (same_rolled Value-F.Null Value-F.Null)

done_alike : (now last : Bool) → same_value (done_told (codes "todo") now) (done_told (codes "todo") last) ≡ cond now last (not last)
done_alike true true = simp same_rolled
done_alike true false = simp same_rolled
done_alike false true = simp same_rolled
done_alike false false = simp same_rolled

pub done_changed : (now last : Bool) → not (same_value (done_told (codes "todo") now) (done_told (codes "todo") last)) ≡ not (cond now last (not last))
done_changed now last = ap not (done_alike now last)

todo_alike : same_value todo_told todo_told ≡ true
todo_alike = simp same_rolled

pub todo_unchanged : not (same_value todo_told todo_told) ≡ false
todo_unchanged = ap not todo_alike
