use Rattle.std.proofs.Common.{◌≡◌, ℕ, ◌+◌, ◌-◌, ◌*◌, min, take, get_or, ap, sym, ◌∙◌, arith}
use Rattle.std.proofs.lemmas.List.Sums.{fold_more}
use Rattle.gateway.specs.Words.{with_digit, number_of, greatest_limit}
use Rattle.gateway.proofs.words.number_up_to.Goals as goal

-- one digit more, whether the number was cut before or is cut only now
cut_later : (n d : ℕ) → min (min n (greatest_limit + 1) * 10 + (d - 48)) (greatest_limit + 1) ≡ min (n * 10 + (d - 48)) (greatest_limit + 1)
cut_later n d = omega arith

pub digits-preserved : goal.digits-preserved
digits-preserved c =
    let word = c.args.word.now in
    let i = c.digits.digit-index in
    c.with_digit-number.ensures
    ∙ ap (λ (n : ℕ). min (with_digit n (get_or word i 0)) (greatest_limit + 1)) c.digits.invariant
    ∙ cut_later (number_of (take i word)) (get_or word i 0)
    ∙ sym (ap (λ (n : ℕ). min n (greatest_limit + 1)) (fold_more with_digit 0 word i 0 (omega arith)))
