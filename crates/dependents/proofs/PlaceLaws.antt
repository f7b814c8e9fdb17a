-- Places that tie are equal.
use Rattle.std.proofs.Common.{◌≡◌, ℕ, Bool, true, false, List, refl, ◌∙◌, ap}
use Rattle.std.specs.Ordering.{nat_cmp, bool_cmp, is_eq}
use Rattle.std.specs.declared.cmp.Ordering.{Ordering}
use Rattle.std.specs.declared.cmp.Ordering.TheVariants.{Less, Equal, Greater}
use Rattle.std.specs.Cmp.{IsTotalOrder, nat_cmp_total, bool_cmp_total, on_total, then_total, tied_then, tied_itself}
use Rattle.std.specs.Cmp.Lexicographic.{nat_list_cmp_total}
use Rattle.std.specs.FinMap.{nat_cmp-IsAntisymmetric, slice_cmp-IsAntisymmetric}
use Rattle.std.proofs.lemmas.Bool.{false≢true, and_parts}
use Rattle.text_types.specs.Texts.{text_cmp}
use Rattle.dependents.specs.declared.place.Place.{Place}
use Rattle.dependents.specs.Places.{place_cmp}

pub place_cmp_total : IsTotalOrder place_cmp
place_cmp_total =
    then_total (on_total (λ (p : Place). p.entity) nat_list_cmp_total)
    (then_total (on_total (λ (p : Place). p.field) nat_list_cmp_total)
    (then_total (on_total (λ (p : Place). p.sub) nat_cmp_total) (on_total (λ (p : Place). p.turn) bool_cmp_total)))

equal_from_tied : (o : Ordering) → is_eq o ≡ true → o ≡ Equal
equal_from_tied Less is = absurd (false≢true is)
equal_from_tied Equal is = refl
equal_from_tied Greater is = absurd (false≢true is)

pub same_number : (a b : ℕ) → is_eq (nat_cmp a b) ≡ true → a ≡ b
same_number a b is = nat_cmp-IsAntisymmetric a b (equal_from_tied _ is)

pub same_text : (a b : List ℕ) → is_eq (text_cmp a b) ≡ true → a ≡ b
same_text a b is = slice_cmp-IsAntisymmetric nat_cmp-IsAntisymmetric a b (equal_from_tied _ is)

same_turn : (a b : Bool) → is_eq (bool_cmp a b) ≡ true → a ≡ b
same_turn true true is = refl
same_turn true false is = absurd (false≢true is)
same_turn false true is = absurd (false≢true is)
same_turn false false is = refl

pub number_itself : (a : ℕ) → is_eq (nat_cmp a a) ≡ true
number_itself a = ap is_eq (tied_itself nat_cmp_total a)

pub text_itself : (a : List ℕ) → text_cmp a a ≡ Equal
text_itself a = tied_itself nat_list_cmp_total a

pub place_itself : (p : Place) → is_eq (place_cmp p p) ≡ true
place_itself p = ap is_eq (tied_itself place_cmp_total p)

-- two places that tie have equal parts
pub record SameParts (p q : Place) : Type 0 where
  pub entity : p.entity ≡ q.entity
  pub field : p.field ≡ q.field
  pub sub : p.sub ≡ q.sub
  pub turn : p.turn ≡ q.turn

pub same_parts : (p q : Place) → is_eq (place_cmp p q) ≡ true → SameParts p q
same_parts p q is =
    let by_entity = and_parts (is_eq (text_cmp p.entity q.entity)) _ (tied_then _ _ ∙ is) in
    let by_field = and_parts (is_eq (text_cmp p.field q.field)) _ (tied_then _ _ ∙ by_entity.1) in
    let by_query = and_parts (is_eq (nat_cmp p.sub q.sub)) _ (tied_then _ _ ∙ by_field.1) in
    record {
      entity = same_text p.entity q.entity by_entity.0;
      field = same_text p.field q.field by_field.0;
      sub = same_number p.sub q.sub by_query.0;
      turn = same_turn p.turn q.turn by_query.1;
    }
