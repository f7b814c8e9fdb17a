-- What updaters that are not on a field give.
use Rattle.std.proofs.Common.{◌≡◌, ℕ, List, [], ◌∷◌, refl, ap, ◌∙◌, Bool, true, false, cond, ◌||◌, not}
use Rattle.std.specs.Prelude.{None}
use Rattle.std.specs.List.{list_any, filter_map, cons_option}
use Rattle.rules_model.specs.declared.updater.Updater.{Updater}
use Rattle.rule_effects.specs.Effects.{Running, is_on, updater_write, write_if_on}

none_first : (b rest : Bool) → (b || rest) ≡ false → b ≡ false
none_first true rest is = absurd (cc)
none_first false rest is = refl

none_later : (b rest : Bool) → (b || rest) ≡ false → rest ≡ false
none_later true rest is = absurd (cc)
none_later false rest is = is

pub none_where_not : (b : Bool) → not b ≡ true → b ≡ false
none_where_not true is = absurd (cc)
none_where_not false is = refl

-- where no updater is on a field, nothing is written for it
pub none_on : (running : Running) (root field : List ℕ) (updaters : List Updater)
    → list_any (λ (u : Updater). is_on root field u.on) updaters ≡ false → filter_map (write_if_on running root field) updaters ≡ []
none_on running root field [] none = refl
none_on running root field (u ∷ us) none =
    ap (λ b. cons_option (cond b (updater_write running u) None) (filter_map (write_if_on running root field) us))
    (none_first (is_on root field u.on) (list_any (λ (v : Updater). is_on root field v.on) us) none)
    ∙ none_on running root field us (none_later (is_on root field u.on) (list_any (λ (v : Updater). is_on root field v.on) us) none)
