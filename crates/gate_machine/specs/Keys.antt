-- When two keys are the same.
use Rattle.std.specs.Prelude.{Bool, true, false, ◌&&◌, List, [], ◌∷◌, bytes_eq}
use Rattle.gate_machine.specs.declared.key.Owner.{Owner}
use Rattle.gate_machine.specs.declared.key.Owner.TheVariants.{Root, Entity}
use Rattle.gate_machine.specs.declared.key.Place.{Place}
use Rattle.gate_machine.specs.declared.key.EntityKey.{EntityKey}

-- both begin at the root, or at one object
abbrev pub same_owner : Owner → Owner → Bool
same_owner Root Root = true
same_owner Root (Entity type_name id) = false
same_owner (Entity type_name id) Root = false
same_owner (Entity type_name id) (Entity other_type other_id) = bytes_eq type_name other_type && bytes_eq id other_id

-- both go to one field and one type
abbrev pub same_place : Place → Place → Bool
same_place a b = bytes_eq a.field b.field && bytes_eq a.type_name b.type_name

-- the same steps, one by one
abbrev pub same_places : List Place → List Place → Bool
same_places [] [] = true
same_places [] (b ∷ bs) = false
same_places (a ∷ as') [] = false
same_places (a ∷ as') (b ∷ bs) = same_place a b && same_places as' bs

-- the same beginning and the same steps
abbrev pub same_key : EntityKey → EntityKey → Bool
same_key a b = same_owner a.owner b.owner && same_places a.places b.places

-- the query root's key
abbrev pub query_root : EntityKey
query_root = record { owner = Root; places = [] }
