-- The test for the same key says exactly that the keys are equal.
use Rattle.std.proofs.Common.{◌≡◌, ℕ, Bool, true, false, ◌&&◌, List, [], ◌∷◌, bytes_eq, refl, ap, ap₂, sym, ◌∙◌}
use Rattle.std.specs.Bool.{Decides}
use Rattle.std.proofs.lemmas.Slice.Eq.{bytes_eq-Decides}
use Rattle.gate_machine.specs.declared.key.Owner.{Owner}
use Rattle.gate_machine.specs.declared.key.Owner.TheVariants.{Root, Entity}
use Rattle.gate_machine.specs.declared.key.Place.{Place}
use Rattle.gate_machine.specs.declared.key.EntityKey.{EntityKey}
use Rattle.gate_machine.specs.Keys.{same_owner, same_place, same_places, same_key}

left_of : (a b : Bool) → (a && b) ≡ true → a ≡ true
left_of true b e = refl
left_of false b e = e

right_of : (a b : Bool) → (a && b) ≡ true → b ≡ true
right_of true b e = e
right_of false b e = absurd cc

both : (a b : Bool) → a ≡ true → b ≡ true → (a && b) ≡ true
both true b p q = q
both false b p q = absurd cc

text_same : (a b : List ℕ) → bytes_eq a b ≡ true → a ≡ b
text_same a b = (bytes_eq-Decides a b).0

text_itself : (a : List ℕ) → bytes_eq a a ≡ true
text_itself a = (bytes_eq-Decides a a).1 refl

owner_same : (a b : Owner) → same_owner a b ≡ true → a ≡ b
owner_same Root Root e = refl
owner_same Root (Entity t i) e = absurd cc
owner_same (Entity t i) Root e = absurd cc
owner_same (Entity t i) (Entity u j) e = ap₂ Entity (text_same t u (left_of (bytes_eq t u) (bytes_eq i j) e)) (text_same i j (right_of (bytes_eq t u) (bytes_eq i j) e))

owner_itself : (a : Owner) → same_owner a a ≡ true
owner_itself Root = refl
owner_itself (Entity t i) = both (bytes_eq t t) (bytes_eq i i) (text_itself t) (text_itself i)

place_same : (a b : Place) → same_place a b ≡ true → a ≡ b
place_same a b e =
    ap₂ {A = List ℕ} {B = List ℕ} (λ field type_name. record { field = field; type_name = type_name })
    (text_same a.field b.field (left_of (bytes_eq a.field b.field) (bytes_eq a.type_name b.type_name) e))
    (text_same a.type_name b.type_name (right_of (bytes_eq a.field b.field) (bytes_eq a.type_name b.type_name) e))

places_same : (a b : List Place) → same_places a b ≡ true → a ≡ b
places_same [] [] e = refl
places_same [] (q ∷ qs) e = absurd cc
places_same (p ∷ ps) [] e = absurd cc
places_same (p ∷ ps) (q ∷ qs) e = ap₂ (λ (x : Place) (xs : List Place). x ∷ xs) (place_same p q (left_of (same_place p q) (same_places ps qs) e)) (places_same ps qs (right_of (same_place p q) (same_places ps qs) e))

places_itself : (a : List Place) → same_places a a ≡ true
places_itself [] = refl
places_itself (p ∷ ps) = both (same_place p p) (same_places ps ps) (both (bytes_eq p.field p.field) (bytes_eq p.type_name p.type_name) (text_itself p.field) (text_itself p.type_name)) (places_itself ps)

key_itself : (a : EntityKey) → same_key a a ≡ true
key_itself a = both (same_owner a.owner a.owner) (same_places a.places a.places) (owner_itself a.owner) (places_itself a.places)

pub same_key-Decides : (a b : EntityKey) → Decides (same_key a b) (a ≡ b)
same_key-Decides a b = (
  λ e. ap₂ {A = Owner} {B = List Place} (λ owner places. record { owner = owner; places = places })
      (owner_same a.owner b.owner (left_of (same_owner a.owner b.owner) (same_places a.places b.places) e))
      (places_same a.places b.places (right_of (same_owner a.owner b.owner) (same_places a.places b.places) e)),
  λ e. ap (same_key a) (sym e) ∙ key_itself a,
)
