-- Tests of members, and one member further in an object that is being made.
use Rattle.std.proofs.Common.{◌≡◌, ℕ, ◌+◌, ◌<◌, List, [], ◌∷◌, length, map, drop, get_or, refl, ap, ◌∙◌, Bool, ◌&&◌}
use Rattle.std.specs.Prelude.{Option, None, Some}
use Rattle.std.specs.List.{list_all}
use Rattle.std.specs.Option.{option_and_then}
use Rattle.execution_model.specs.Values.{Pairs}
use Rattle.execution_model.specs.Inputs.{free_member, MemberMeaning, next_members, members_into}
use Rattle.check_model.proofs.ListLaws.{next_left}

pub all_map : {X Y : Type 0} (t : Y → Bool) (f : X → Y) (xs : List X) → list_all t (map f xs) ≡ list_all (λ x. t (f x)) xs
all_map t f [] = refl
all_map t f (x ∷ xs) = ap (λ b. t (f x) && b) (all_map t f xs)

-- members as they stand
pub free_next : {X : Type 0} (f : X → MemberMeaning) (xs : List X) (i : ℕ) (x : X) (members : Pairs) (whole : Option Pairs) (next : Pairs)
    → i < length xs → x ≡ get_or xs i x → whole ≡ members_into members (map free_member (map f (drop i xs))) → next_members (f x).0 ((f x).1 None) members ≡ Some next
    → whole ≡ members_into next (map free_member (map f (drop (i + 1) xs)))
free_next f xs i x members whole next within is so_far got =
    so_far
    ∙ ap (λ ys. members_into members (map free_member (map f ys))) (next_left xs i x within is)
    ∙ ap (option_and_then (λ n. members_into n (map free_member (map f (drop (i + 1) xs))))) got
