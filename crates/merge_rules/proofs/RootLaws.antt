-- What a walk over root fields tells.
use Rattle.std.proofs.Common.{◌≡◌, [], ◌∷◌, refl, ap, ◌∙◌, Bool, true, false, ◌&&◌, bytes_eq}
use Rattle.std.specs.Prelude.{Some, not}
use Rattle.std.specs.List.{fold, list_all}
use Rattle.check_model.specs.FieldTypes.{is_typename}
use Rattle.check_model.specs.RootFields.{RootField, RootFields, is_single}
use Rattle.merge_rules.specs.Roots.{noted, start, is_one}

and_assoc : (a b c : Bool) → ((a && b) && c) ≡ (a && (b && c))
and_assoc true b c = refl
and_assoc false b c = refl

and_true : (a : Bool) → a ≡ (a && true)
and_true true = refl
and_true false = refl

behind : (first : RootField) (same : Bool) (more : RootFields)
    → is_one (fold noted (Some first, same) more) ≡ ((same && list_all (λ f. bytes_eq first.0 f.0) more) && not (is_typename first.1))
behind first same [] = ap (λ b. b && not (is_typename first.1)) (and_true same)
behind first same (f ∷ more) =
    behind first (same && bytes_eq first.0 f.0) more
    ∙ ap (λ b. b && not (is_typename first.1)) (and_assoc same (bytes_eq first.0 f.0) (list_all (λ g. bytes_eq first.0 g.0) more))

pub one_is_single : (fields : RootFields) → is_one (fold noted start fields) ≡ is_single fields
one_is_single [] = refl
one_is_single (first ∷ more) = behind first true more
