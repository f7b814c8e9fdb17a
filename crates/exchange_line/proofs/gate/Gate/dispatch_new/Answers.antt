use Rattle.std.proofs.Common.{refl}
use Rattle.frame_reading.specs.Errors.{dispatch_meant}
use Rattle.exchange_line.proofs.DispatchLaws.{refusal_written}
use Rattle.exchange_line.proofs.gate.Gate.dispatch_new.Goals as goal

pub returns-in-Err-Refused-clause-text : goal.returns-in-Err-Refused-clause-text
returns-in-Err-Refused-clause-text c =
    refusal_written c.args.number (dispatch_meant c.args.asked) c.args.self.now c.in-Err-Refused.refusal _ _ c.push_refused.result _ _ c.in-Err-Refused.ensures.refused c.in-Err-Refused.field-0-is refl (rw c.in-Err-Refused.refusal-is at c.push_refused.ensures)
