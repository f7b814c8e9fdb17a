use Rattle.std.proofs.Common.{ap, Err}
use Rattle.fetch_link.proofs.HeadLaws.{IsBad-refused}
use Rattle.fetch_link.proofs.head.judge_response.Goals as goal

pub returns-in-Err : goal.returns-in-Err
returns-in-Err c = IsBad-refused c.args.bytes.now c.in-Err.field-0 c.in-Err.ensures.invalid c.in-Err.ensures.no_room (λ many. c.in-Err.ensures.too_many (ap Err many))
