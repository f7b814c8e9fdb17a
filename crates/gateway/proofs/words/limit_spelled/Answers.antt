use Rattle.std.proofs.Common.{◌≡◌, ℕ, ◌+◌, ◌<◌, ◌≤◌, ◌&&◌, min, ap, sym, ◌∙◌, ⊎_elim, arith, nat_le, false, Some, None}
use Rattle.std.specs.Prelude.{if◌then◌else◌}
use Rattle.std.proofs.lemmas.Bool.{cases_lt, lt-leb, and_right}
use Rattle.gateway.specs.Words.{limited, number_of, greatest_limit}
use Rattle.gateway.proofs.words.limit_spelled.Goals as goal

-- a number that is cut above the greatest limit is no limit, as before
cut : (n : ℕ) → limited (min n (greatest_limit + 1)) ≡ limited n
cut n =
    ⊎_elim
    (λ (l : n < greatest_limit + 1). let same : min n (greatest_limit + 1) ≡ n = omega arith in ap limited same)
    (λ (l : greatest_limit + 1 ≤ n).
    let same : min n (greatest_limit + 1) ≡ greatest_limit + 1 = omega arith in
    let above : (nat_le 1 n && nat_le n greatest_limit) ≡ false = and_right (nat_le 1 n) (nat_le n greatest_limit) (lt-leb n greatest_limit (omega arith)) in
    ap limited same ∙ sym (ap (λ b. if b then Some n else None) above))
    (cases_lt n (greatest_limit + 1))

pub returns-clause-value : goal.returns-clause-value
returns-clause-value c = c.limited.ensures.value ∙ ap limited c.number_up_to.ensures ∙ cut (number_of c.args.digits.now)
