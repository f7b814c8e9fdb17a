-- What a list of writes says of one cell.
use Rattle.std.proofs.Common.{◌≡◌, ℕ, Bool, ◌||◌, List, [], ◌∷◌, Option, Some, None, unwrap_or, refl, ap, ◌∙◌}
use Rattle.std.specs.Prelude.{is_some}
use Rattle.std.specs.List.{list_any}
use Rattle.cache_model.specs.declared.cell.Cell.{Cell}
use Rattle.cache_model.specs.declared.write.Write.{Write}
use Rattle.cache_model.specs.Maps.{CellMap, hit, covers, applied, all_applied, effect, or_else}

-- the second answer counts where the first says nothing
pub over : (a b : Option (Option Cell)) (m : Option Cell) → unwrap_or a (unwrap_or b m) ≡ unwrap_or (or_else a b) m
over (Some x) b m = refl
over None b m = refl

pub or_else_assoc : (a b c : Option (Option Cell)) → or_else (or_else a b) c ≡ or_else a (or_else b c)
or_else_assoc (Some x) b c = refl
or_else_assoc None b c = refl

pub or_else_none : (a : Option (Option Cell)) → or_else a None ≡ a
or_else_none (Some x) = refl
or_else_none None = refl

is_some_or_else : (a b : Option (Option Cell)) → is_some (or_else a b) ≡ is_some b || is_some a
is_some_or_else (Some x) (Some y) = refl
is_some_or_else (Some x) None = refl
is_some_or_else None (Some y) = refl
is_some_or_else None None = refl

pub applied_by_effect : (m : CellMap) (ws : List Write) (e f : List ℕ) → all_applied m ws e f ≡ unwrap_or (effect ws e f) (m e f)
applied_by_effect m [] e f = refl
applied_by_effect m (w ∷ ws) e f = applied_by_effect (applied m w) ws e f ∙ over (effect ws e f) (hit w e f) (m e f)

pub effect_where_covered : (ws : List Write) (e f : List ℕ) → is_some (effect ws e f) ≡ list_any (λ w. covers w e f) ws
effect_where_covered [] e f = refl
effect_where_covered (w ∷ ws) e f =
    is_some_or_else (effect ws e f) (hit w e f)
    ∙ ap (λ (b : Bool). covers w e f || b) (effect_where_covered ws e f)
