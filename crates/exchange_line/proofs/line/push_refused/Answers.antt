use Rattle.std.proofs.Common.{◌∙◌, append_assoc}
use Rattle.std.proofs.lemmas.Result.{on_ok_weaker}
use Rattle.exchange_line.proofs.line.push_refused.Goals as goal

pub returns : goal.returns
returns c =
    on_ok_weaker c.append-3.result
    (λ w. w ∙ rw (c.in_ok-push_refusal.ensures, c.in_ok-append-2.ensures.ok, c.in_ok-push_number.ensures, c.in_ok-append.ensures.ok) (simp append_assoc))
    c.append-3.ensures.ok
