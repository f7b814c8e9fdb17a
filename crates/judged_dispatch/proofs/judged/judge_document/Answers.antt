use Rattle.judged_dispatch.proofs.JudgeLaws.{still_accepted, still_refused, refusal_told}
use Rattle.judged_dispatch.proofs.judged.judge_document.Goals as goal

pub returns-in-Ok-clause-accepted : goal.returns-in-Ok-clause-accepted
returns-in-Ok-clause-accepted c =
    still_accepted c.args.kinds c.args.service.now _ c.args.values.now c.args.document c.in-Ok.checked c.in-Ok.ensures.document c.in-Ok.ensures.accepted c.judge_operation.result c.judge_operation.ensures.accepted

pub returns-in-Ok-clause-refused : goal.returns-in-Ok-clause-refused
returns-in-Ok-clause-refused c =
    still_refused c.args.kinds c.args.service.now _ c.args.values.now c.args.document c.in-Ok.checked c.in-Ok.ensures.document c.in-Ok.ensures.accepted c.judge_operation.result c.judge_operation.ensures.refused

pub returns-in-Err-clause-refused : goal.returns-in-Err-clause-refused
returns-in-Err-clause-refused c =
    refusal_told c.args.kinds c.args.service.now _ c.args.values.now c.args.document _ c.error_of.result (c.error_of.ensures _ c.in-Err.ensures.refused)
