use Rattle.std.proofs.Common.{◌∙◌, append_assoc}
use Rattle.std.proofs.lemmas.Result.{on_ok_weaker}
use Rattle.exchange_line.proofs.line.push_place.Goals as goal

pub returns : goal.returns
returns c =
    on_ok_weaker c.push_number-2.result
    (λ w. w ∙ rw (c.in_ok-append-2.ensures.ok, c.in_ok-push_number.ensures, c.in_ok-append.ensures.ok) (simp append_assoc))
    c.push_number-2.ensures
