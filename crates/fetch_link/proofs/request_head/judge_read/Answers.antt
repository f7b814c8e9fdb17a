use Rattle.std.proofs.Common.{ap, Err}
use Rattle.fetch_link.proofs.RequestLaws.{IsBad-refused}
use Rattle.fetch_link.proofs.request_head.judge_read.Goals as goal

pub returns-in-Err : goal.returns-in-Err
returns-in-Err c = IsBad-refused c.args.bytes.now c.in-Err.field-0 c.requires c.in-Err.ensures.invalid c.in-Err.ensures.no_room (λ many. c.in-Err.ensures.too_many (ap Err many))
