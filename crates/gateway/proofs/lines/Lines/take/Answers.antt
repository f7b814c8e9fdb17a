use Rattle.std.proofs.Common.{◌++◌, ◌∷◌, [], ◌∙◌, length, ap, sym, Err, arith, length-append}
use Rattle.std.proofs.lemmas.Result.{err_from_is_err_and}
use Rattle.std.proofs.KnownBytes.{Appends-trans}
use Rattle.fault_causes.proofs.RoseLaws.{Rose-after}
use Rattle.gateway.specs.Progress.{Progress, grown_by, next_line, progress_after}
use Rattle.gateway.proofs.Steps.{text_after-next, progress_after-next, text_after-rest, progress_after-rest, number-le}
use Rattle.gateway.proofs.Taking.{with_line, WritesFront-line}
use Rattle.gateway.proofs.lines.Lines.take.Goals as goal

pub end_line-requires : goal.end_line-requires
end_line-requires g c =
    let i = c.lines.invariant.0 in
    let cut = c.in-Some.ensures in
    omega (
      arith,
      ap (λ (p : Progress). p.number) i.3,
      number-le c.args.self.now i.0,
      ap length i.1,
      length-append i.0 c.lines.left.now,
      ap length cut.1,
      length-append c.in-Some.front.now (10 ∷ c.in-Some.behind.now),
    )

pub returns-in_err-end_line-clause-sink : goal.returns-in_err-end_line-clause-sink
returns-in_err-end_line-clause-sink g c e =
    let i = c.lines.invariant.0 in
    let cut = c.in-Some.ensures in
    let p = err_from_is_err_and c.from_residual.result c.from_residual.ensures.1 in
    let said = c.end_line.ensures.sink (c.in_err-end_line.was ∙ ap Err (sym p.2) ∙ sym p.1 ∙ e) in
    (Rose-after _ _ _ c.lines.invariant.1 said.0, WritesFront-line _ _ _ _ _ i.1 cut.1 _ _ _ _ cut.0 i.2 (rw i.3 at said.1))

pub lines-preserved : goal.lines-preserved
lines-preserved g c =
    let i = c.lines.invariant.0 in
    let cut = c.in-Some.ensures in
    let done = c.in_ok-end_line.ensures in
    let front = c.in-Some.front.now in (
      (
        i.0 ++ (front ++ 10 ∷ []),
        with_line _ _ _ _ _ i.1 cut.1,
        rw (text_after-next c.args.self.now i.0 front cut.0) (Appends-trans _ _ _ _ _ i.2 (rw i.3 at done.text)),
        done.progress ∙ ap (λ (z : Progress). next_line (grown_by z front)) i.3 ∙ sym (progress_after-next c.args.self.now i.0 front cut.0),
      ),
      omega (arith, c.lines.invariant.1, done.later),
    )

pub returns-clause-text : goal.returns-clause-text
returns-clause-text g c =
    let i = c.lines.invariant.0 in
    rw (i.1, text_after-rest c.args.self.now i.0 c.lines.left.now c.in_default.ensures) i.2

pub returns-clause-progress : goal.returns-clause-progress
returns-clause-progress g c =
    let i = c.lines.invariant.0 in
    let left = c.lines.left.now in
    let inside = c.self.inside in
    ap (λ z. record { number = inside.number; rest = z; state = inside.gate }) c.in_ok-append.ensures.ok
    ∙ ap (λ (z : Progress). grown_by z left) (c.self.view_is ∙ i.3)
    ∙ sym (progress_after-rest c.args.self.now i.0 left c.in_default.ensures)
    ∙ ap (progress_after c.args.self.now) (sym i.1)
