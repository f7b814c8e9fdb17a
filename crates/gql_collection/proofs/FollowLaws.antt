-- Steps of following: a level deeper, and a selection further.
use Rattle.std.proofs.Common.{◌≡◌, ℕ, zero, suc, ◌+◌, ◌-◌, ◌<◌, List, length, drop, get_or, ap, sym, ◌∙◌, arith}
use Rattle.gql_model.specs.declared.selection.Selection.{Selection}
use Rattle.check_model.proofs.ListLaws.{next_left}
use Rattle.execution_model.specs.Collection.{Context, Collecting, follow_set, followed_within, through}

-- where more is followed than nothing, a set is followed, and what it leads to one level less deep
pub one_level : (n : ℕ) (context : Context) (set : ℕ) (state : Collecting) → 0 < n
    → follow_set (followed_within (n - 1) context) context set state ≡ followed_within n context set state
one_level zero context set state more = absurd (omega (arith, more))
one_level (suc n) context set state more =
    let less : suc n - 1 ≡ n = omega arith in
    ap (λ k. follow_set (followed_within k context) context set state) less

-- what is left of some selections, once one more is taken
pub through_next : (step : ℕ → Selection → Collecting → Collecting) (items : List Selection) (at : ℕ) (x : Selection) (before after whole : Collecting)
    → at < length items → x ≡ get_or items at x → after ≡ step at x before
    → through step at (drop at items) before ≡ whole
    → through step (at + 1) (drop (at + 1) items) after ≡ whole
through_next step items at x before after whole within is here so_far =
    ap (through step (at + 1) (drop (at + 1) items)) here
    ∙ sym (ap (λ xs. through step at xs before) (next_left items at x within is))
    ∙ so_far
