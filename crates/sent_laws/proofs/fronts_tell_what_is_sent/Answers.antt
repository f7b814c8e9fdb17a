use Rattle.sent_laws.proofs.FrontLaws.{fronts_tell}
use Rattle.sent_laws.proofs.fronts_tell_what_is_sent.Goals as goal

pub returns : goal.returns
returns c = fronts_tell
