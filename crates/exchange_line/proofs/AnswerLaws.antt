-- The writes of an answer, one part after another.
use Rattle.std.proofs.Common.{◌≡◌, ℕ, ◌||◌, List, [], ◌∷◌, ◌++◌, codes, bytes_eq, Option, Some, None, option_map, option_and_then, refl, sym, ap, ◌∙◌, append_assoc}
use Rattle.std.specs.List.{list_any}
use Rattle.serde_json.specs.Data.{Data}
use Rattle.plain_queries.specs.declared.selection.Selection.{Selection}
use Rattle.gate_machine.specs.declared.key.EntityKey.{EntityKey}
use Rattle.gate_machine.specs.declared.cell.Cell.TheVariants.{Link}
use Rattle.gate_machine.specs.declared.cell.Write.{Write}
use Rattle.gate_machine.specs.Answers.{Writing, write, key_of_object, id_asked, members_written, object_written, writings_of}
use Rattle.exchange_line.specs.Written.{Appends, type_told, key_told, typed_object_written}

-- the same fields are asked, whether their selections or their writings stand beside them
pub asked_in_writings : (fields : List (List ℕ × Selection)) → list_any (λ field. bytes_eq field.0 (codes "id")) (writings_of fields) ≡ list_any (λ field. bytes_eq field.0 (codes "id")) fields
asked_in_writings [] = refl
asked_in_writings (field ∷ fields) = ap (λ later. bytes_eq field.0 (codes "id") || later) (asked_in_writings fields)

Appends-before : (old new : List Write) (first : Write) (later : Option (List Write)) → Appends (old ++ first ∷ []) new later → Appends old new (option_map (λ writes. first ∷ writes) later)
Appends-before old new first None appends = appends
Appends-before old new first (Some writes) appends = ap Some (sym (append_assoc old (first ∷ []) writes)) ∙ appends

under_key : (fields : List (List ℕ × Writing)) (entity : EntityKey) (field : List ℕ) (answer : Data) (type_name : Option (List ℕ))
    → option_and_then (object_written fields entity field answer) type_name
    ≡ option_and_then (λ key. option_map (λ writes. write entity field (Link key) ∷ writes) (members_written key fields answer))
    (option_map (λ name. key_of_object entity field name (id_asked fields answer)) type_name)
under_key fields entity field answer None = refl
under_key fields entity field answer (Some name) = refl

-- an object's writes are a link to the key that its answer tells, and then those under it
pub object_at_key : (fields : List (List ℕ × Writing)) (entity : EntityKey) (field : List ℕ) (answer : Data) (key : EntityKey) (old linked new : List Write)
    → key_told entity field fields answer ≡ Some key → linked ≡ old ++ write entity field (Link key) ∷ [] → Appends linked new (members_written key fields answer)
    → Appends old new (typed_object_written fields entity field answer)
object_at_key fields entity field answer key old linked new told link appends =
    rw (under_key fields entity field answer (type_told answer), told) (Appends-before old new (write entity field (Link key)) _ (rw (← link) appends))
