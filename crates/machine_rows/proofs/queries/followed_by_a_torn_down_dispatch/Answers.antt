use Rattle.machine_rows.proofs.FollowUpRuns.{followed_by_a_torn_down_dispatch}
use Rattle.machine_rows.proofs.queries.followed_by_a_torn_down_dispatch.Goals as goal

pub returns : goal.returns
returns c = followed_by_a_torn_down_dispatch.follows
