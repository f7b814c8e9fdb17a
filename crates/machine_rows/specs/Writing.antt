-- What an answer writes, and what of it is told.
use Rattle.std.specs.Prelude.{ℕ, List, [], ◌∷◌, ◌++◌, map, flat_map, codes, Option, Some, None, Result}
use Rattle.std.specs.declared.result.Result.TheVariants.{Ok, Err}
use Rattle.gql_model.specs.declared.executable.OperationKind.{OperationKind}
use Rattle.gql_model.specs.declared.executable.OperationKind.TheVariants.{Query}
use Rattle.gql_value.specs.declared.value.Value.{Value, out-Value}
use Rattle.gql_value.specs.declared.value.Value.TheOpen.{Value-F}
use Rattle.cache_model.specs.declared.cell.Cell.{Cell}
use Rattle.cache_model.specs.declared.cell.Cell.TheVariants as cell
use Rattle.cache_model.specs.declared.cell.Link.{Link}
use Rattle.cache_model.specs.declared.cell.Link.TheOpen.{Link-F}
use Rattle.cache_model.specs.declared.cell.Link.TheViews.{roll-Link}
use Rattle.cache_model.specs.declared.write.Write.{Write}
use Rattle.cache_model.specs.declared.write.Write.TheVariants.{Set}
use Rattle.cache_model.specs.Keys.{keyed_text, embedded_text}
use Rattle.machine_rows.specs.Values.{null, object, members_in, text_in, member_named}
use Rattle.machine_rows.specs.Operations.{Operation, Leaf, Asked, kind_of, asked_by}

-- a link to the object of this key
abbrev pub link_to : List ℕ → Link
link_to entity = roll-Link (Link-F.Entity entity)

-- a link to a list of objects with these keys
abbrev pub links_to : List (List ℕ) → Link
links_to entities = roll-Link (Link-F.List (map link_to entities))

-- the key of an object, by its type and its id; without an id it is embedded in the root under the field that leads to it
abbrev pub key_with : List ℕ → List ℕ → List ℕ → List ℕ
key_with field type [] = embedded_text (codes "Query") field [] type
key_with field type (b ∷ id) = keyed_text type (b ∷ id)

-- the text of the member of this name; an empty one where the member is missing or no text
abbrev pub text_named : List ℕ → List (List ℕ × Value) → List ℕ
text_named name members = text_in (out-Value (member_named name members))

-- the key of the object at this field, by its members `__typename` and `id`
abbrev pub entity_of : List ℕ → List (List ℕ × Value) → List ℕ
entity_of field members = key_with field (text_named (codes "__typename") members) (text_named (codes "id") members)

-- the write of the member of this name to its cell, as null where the member is missing
abbrev pub leaf_write : List ℕ → List (List ℕ × Value) → List ℕ → Write
leaf_write entity members name = Set entity name (cell.Leaf (member_named name members))

-- the writes of an object's `__typename` and of the leaves that were asked for
abbrev pub leaf_writes : List ℕ → List (List ℕ × Value) → List Leaf → List Write
leaf_writes entity members leaves =
    leaf_write entity members (codes "__typename") ∷ map (λ leaf. leaf_write entity members leaf.name) leaves

-- the link of an object to its author, and what is written of the author
abbrev pub author_writes : List ℕ → List Leaf → List (List ℕ × Value) → List Write
author_writes entity leaves author =
    Set entity (codes "author") (cell.Link (link_to (entity_of (codes "author") author)))
    ∷ leaf_writes (entity_of (codes "author") author) author leaves

-- what is written of the object of this key: its leaves, and its author where `Some` leaves of that are asked
abbrev pub object_writes : List ℕ → Asked → List (List ℕ × Value) → Option (List Leaf) → List Write
object_writes entity asked members None = leaf_writes entity members asked.leaves
object_writes entity asked members (Some inner) =
    leaf_writes entity members asked.leaves
    ++ author_writes entity inner (members_in (out-Value (member_named (codes "author") members)))

-- what is written of an object that the root field leads to, under the key that its members tell
abbrev pub entity_writes : Asked → List (List ℕ × Value) → List Write
entity_writes asked members = object_writes (entity_of asked.field members) asked members asked.author

-- the root field of a query has a cell of its own, and that of a mutation has none
abbrev pub root_write : OperationKind → List ℕ → Cell → List Write
root_write Query field at = Set (codes "Query") field at ∷ []
root_write _ field at = []

-- the writes of what the root field has; anything else than null, an object or a list doesn't fit
abbrev pub root_written : OperationKind → Asked → Value-F Value → Result (List Write) (List ℕ)
root_written kind asked Value-F.Null = Ok (root_write kind asked.field (cell.Leaf null))
root_written kind asked (Value-F.Obj members) =
    Ok (root_write kind asked.field (cell.Link (link_to (entity_of asked.field members))) ++ entity_writes asked members)
root_written kind asked (Value-F.List items) =
    Ok
    (root_write kind asked.field (cell.Link (links_to (map (λ item. entity_of asked.field (members_in (out-Value item))) items)))
    ++ flat_map (λ item. entity_writes asked (members_in (out-Value item))) items)
root_written kind asked _ = Err (codes "data." ++ asked.name)

-- what an answer has for the root field
abbrev pub root_in : Asked → Value → Value
root_in asked answer = member_named asked.name (members_in (out-Value answer))

-- the writes of an operation's answer, or the path of its root field where the answer doesn't fit; errors change nothing
abbrev pub written_by : Operation → Value → Value → Result (List Write) (List ℕ)
written_by operation answer errors = root_written (kind_of operation) (asked_by operation) (out-Value (root_in (asked_by operation) answer))

-- an answer of a mutation cut to the leaves that were asked for
abbrev pub cut : List Leaf → Value-F Value → Value
cut leaves (Value-F.Obj members) = object (map (λ leaf. (leaf.name, member_named leaf.name members)) leaves)
cut leaves _ = null

-- an answer cut to the root field and the leaves below it that were asked for
abbrev pub projected_by : Operation → Value → Value
projected_by operation answer =
    object (((asked_by operation).name, cut (asked_by operation).leaves (out-Value (root_in (asked_by operation) answer))) ∷ [])
