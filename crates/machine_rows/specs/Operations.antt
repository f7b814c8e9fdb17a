-- The operations of the runs, over this schema:
--     type Query { me: User todo(id: ID!): Todo todos: [Todo!]! }
--     type Mutation { setDone(id: ID!, done: Boolean!): Todo rename(id: ID!, name: String!): User }
--     type User { id: ID! name: String! nick: String }
--     type Todo { id: ID! text: String! done: Boolean! author: User }
use Rattle.std.specs.Prelude.{ℕ, Bool, true, false, if◌then◌else◌, List, [], ◌∷◌, ◌++◌, codes, Some, None, Option, Result, bytes_eq}
use Rattle.std.specs.declared.result.Result.TheVariants.{Ok, Err}
use Rattle.gql_model.specs.declared.executable.OperationKind.{OperationKind}
use Rattle.gql_model.specs.declared.executable.OperationKind.TheVariants.{Query, Mutation}
use Rattle.machine_model.specs.declared.output.Refusal.{Refusal}
use Rattle.machine_model.specs.declared.output.Refusal.TheVariants.{E6}

-- each operation, by its root field and what it asks for below
pub data Operation : Type 0 where
  me_id_name : Operation
  me_id : Operation
  me_id_nick : Operation
  me_nick : Operation
  todo_id_author : Operation
  todo_id_done : Operation
  todos_id : Operation
  rename_bob : Operation
  set_done : Bool → Operation

-- `rename` and `setDone` are mutations, and all other operations are queries
abbrev pub kind_of : Operation → OperationKind
kind_of rename_bob = Mutation
kind_of (set_done done) = Mutation
kind_of _ = Query

-- the text of `setDone` in the canonical form, where `true` or `false` stands between
abbrev pub set_done_text : Bool → List ℕ → List ℕ
set_done_text true asked = codes "mutation{setDone(id:\"1\" done:true)" ++ asked
set_done_text false asked = codes "mutation{setDone(id:\"1\" done:false)" ++ asked

-- the canonical text of the client's document
abbrev pub document_of : Operation → List ℕ
document_of me_id_name = codes "{me{id name}}"
document_of me_id = codes "{me{id}}"
document_of me_id_nick = codes "{me{id nick}}"
document_of me_nick = codes "{me{nick}}"
document_of todo_id_author = codes "{todo(id:\"1\"){id author{id name}}}"
document_of todo_id_done = codes "{todo(id:\"1\"){id done}}"
document_of todos_id = codes "{todos{id}}"
document_of rename_bob = codes "mutation{rename(id:\"7\" name:\"Bob\"){id}}"
document_of (set_done done) = set_done_text done (codes "{id done}}")

-- the document that is sent, with `__typename` put in
abbrev pub sent_text : Operation → List ℕ
sent_text me_id_name = codes "{me{__typename id name}}"
sent_text me_id = codes "{me{__typename id}}"
sent_text me_id_nick = codes "{me{__typename id nick}}"
sent_text me_nick = codes "{me{__typename nick}}"
sent_text todo_id_author = codes "{todo(id:\"1\"){__typename id author{__typename id name}}}"
sent_text todo_id_done = codes "{todo(id:\"1\"){__typename id done}}"
sent_text todos_id = codes "{todos{__typename id}}"
sent_text rename_bob = codes "mutation{rename(id:\"7\" name:\"Bob\"){__typename id}}"
sent_text (set_done done) = set_done_text done (codes "{__typename id done}}")

-- documents as clients write them
abbrev pub documents : List (List ℕ × Operation)
documents =
    (codes "{me{id name}}", me_id_name)
    ∷ (codes "{ me { id, name } }", me_id_name)
    ∷ (codes "{me{id}}", me_id)
    ∷ (codes "{me{id nick}}", me_id_nick)
    ∷ (codes "{me{nick}}", me_nick)
    ∷ (codes "{todo(id:\"1\"){id author{id name}}}", todo_id_author)
    ∷ (codes "{todo(id:\"1\"){id done}}", todo_id_done)
    ∷ (codes "{todos{id}}", todos_id)
    ∷ (codes "mutation{rename(id:\"7\",name:\"Bob\"){id}}", rename_bob)
    ∷ (codes "mutation{setDone(id:\"1\",done:true){id done}}", set_done true)
    ∷ (codes "mutation{setDone(id:\"1\",done:false){id done}}", set_done false)
    ∷ []

-- documents as rows of the queue have them
abbrev pub stored_documents : List (List ℕ × Operation)
stored_documents =
    (document_of (set_done true), set_done true)
    ∷ (document_of (set_done false), set_done false)
    ∷ []

-- the operation of a document; another document isn't taken
abbrev pub operation_in : List (List ℕ × Operation) → List ℕ → Result Operation Refusal
operation_in [] document = Err (E6 1 1)
operation_in (entry ∷ entries) document = if bytes_eq entry.0 document then Ok entry.1 else operation_in entries document

-- a field without fields of its own, and whether it is Non-Null
pub record Leaf : Type 0 where
  pub name : List ℕ
  pub required : Bool

-- `id: ID!` of a user or a todo
abbrev pub id_leaf : Leaf
id_leaf = record { name = codes "id"; required = true }

-- `name: String!` of a user
abbrev pub name_leaf : Leaf
name_leaf = record { name = codes "name"; required = true }

-- `nick: String` of a user, which may be null
abbrev pub nick_leaf : Leaf
nick_leaf = record { name = codes "nick"; required = false }

-- `done: Boolean!` of a todo
abbrev pub done_leaf : Leaf
done_leaf = record { name = codes "done"; required = true }

-- what is asked for of each object that the root field leads to: leaves, and perhaps its author with leaves of its own
pub record Asked : Type 0 where
  pub name : List ℕ
  pub field : List ℕ
  pub leaves : List Leaf
  pub author : Option (List Leaf)

-- leaves alone, where `field` is the key of the root field in the cache
abbrev pub leaves_of : List ℕ → List ℕ → List Leaf → Asked
leaves_of name field leaves = record { name = name; field = field; leaves = leaves; author = None }

-- the key of the root field `todo(id: "1")` in the cache
abbrev pub todo_key : List ℕ
todo_key = codes "todo({\"id\":\"1\"})"

-- the root field of an operation, and what it asks for of each object there
abbrev pub asked_by : Operation → Asked
asked_by me_id_name = leaves_of (codes "me") (codes "me") (id_leaf ∷ name_leaf ∷ [])
asked_by me_id = leaves_of (codes "me") (codes "me") (id_leaf ∷ [])
asked_by me_id_nick = leaves_of (codes "me") (codes "me") (id_leaf ∷ nick_leaf ∷ [])
asked_by me_nick = leaves_of (codes "me") (codes "me") (nick_leaf ∷ [])
asked_by todo_id_author = record { name = codes "todo"; field = todo_key; leaves = id_leaf ∷ []; author = Some (id_leaf ∷ name_leaf ∷ []) }
asked_by todo_id_done = leaves_of (codes "todo") todo_key (id_leaf ∷ done_leaf ∷ [])
asked_by todos_id = leaves_of (codes "todos") (codes "todos") (id_leaf ∷ [])
asked_by rename_bob = leaves_of (codes "rename") (codes "rename({\"id\":\"7\",\"name\":\"Bob\"})") (id_leaf ∷ [])
asked_by (set_done done) = leaves_of (codes "setDone") (codes "setDone") (id_leaf ∷ done_leaf ∷ [])
