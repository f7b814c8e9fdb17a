-- A line that stopped, and the run that stops with it.
use Rattle.std.proofs.Common.{◌≡◌, Result, Err, ap, ◌∙◌}
use Rattle.std.specs.Prelude.{IsErrOf, IsErrAnd}
use Rattle.std.proofs.lemmas.Result.{err_from_is_err_and}
use Rattle.gateway.specs.declared.stop.LineStop.{LineStop}
use Rattle.gateway.specs.declared.stop.LineStop.TheVariants as line_stop
use Rattle.gateway.specs.declared.stop.Stop.{Stop}
use Rattle.gateway.specs.declared.stop.Stop.TheVariants as stop

pub line_stopped : {A B : Type 0} (line : Result A LineStop) (run : Result B Stop) (was is : LineStop) → line ≡ Err was → IsErrAnd run (λ s. s ≡ stop.Line was) → IsErrOf run (stop.Line is) → IsErrOf line is
line_stopped line run was is at_line at_run e =
    let p = err_from_is_err_and run at_run in
    let same : was ≡ is = cc (p.1, p.2, e) in
    at_line ∙ ap Err same

-- a line stops for one of two causes
pub line_stop_cases : {A P : Type 0} (line : Result A LineStop) (was : LineStop) → line ≡ Err was → (IsErrOf line line_stop.Sink → P) → (IsErrOf line line_stop.Memory → P) → P
line_stop_cases line line_stop.Sink at_line sink memory = sink at_line
line_stop_cases line line_stop.Memory at_line sink memory = memory at_line
