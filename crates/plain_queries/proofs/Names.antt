-- Fields that have no such name, by the test and by the proposition.
use Rattle.std.proofs.Common.{◌≡◌, ℕ, List, [], ◌∷◌, bytes_eq, not, true, false}
use Rattle.std.specs.List.{list_all}
use Rattle.std.proofs.lemmas.Bool.{and_parts, not-true}
use Rattle.text_types.specs.Names.{Lacks}

pub lacks_all : {X : Type 0} (fields : List (List ℕ × X)) (name : List ℕ) → list_all (λ f. not (bytes_eq f.0 name)) fields ≡ true → Lacks fields name
lacks_all [] name h = tt
lacks_all (f ∷ fields) name h =
    let p = and_parts (not (bytes_eq f.0 name)) (list_all (λ f. not (bytes_eq f.0 name)) fields) h in
    (not-true (bytes_eq f.0 name) p.0, lacks_all fields name p.1)
