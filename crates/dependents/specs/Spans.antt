-- Between which places the cells stand that a write covers. All field keys of one name stand between the name and the name with a `)`, which is the byte after `(`.
use Rattle.std.specs.Prelude.{ℕ, false, List, [], ◌∷◌, ◌++◌, codes}
use Rattle.cache_model.specs.declared.write.Write.{Write}
use Rattle.cache_model.specs.declared.write.Write.TheVariants.{Set, Drop, DropName, DropAll}
use Rattle.dependents.specs.declared.place.Place.{Place}

-- the first place that the cell at this entity key and field key can have
abbrev pub first_place : List ℕ → List ℕ → Place
first_place entity field = record { entity = entity; field = field; sub = 0; turn = false }

-- where the cells of a write begin: at its cell, at its name, or at its entity
abbrev pub start_of : Write → Place
start_of (Set entity field cell) = first_place entity field
start_of (Drop entity field) = first_place entity field
start_of (DropName entity name) = first_place entity name
start_of (DropAll entity) = first_place entity []

-- what they end before; the text with byte 0 behind it is the next after a text
abbrev pub end_of : Write → Place
end_of (Set entity field cell) = first_place entity (field ++ 0 ∷ [])
end_of (Drop entity field) = first_place entity (field ++ 0 ∷ [])
end_of (DropName entity name) = first_place entity (name ++ codes ")")
end_of (DropAll entity) = first_place (entity ++ 0 ∷ []) []
