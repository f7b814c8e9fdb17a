use Rattle.std.proofs.Common.{length, get_or, ◌∙◌, ap}
use Rattle.queue_journal.proofs.Links.{commit_read, one_item}
use Rattle.queue_journal.proofs.chain.is_open.Goals as goal

pub returns-clause-commit : goal.returns-clause-commit
returns-clause-commit g c file told =
    let same = c.as_slice.ensures.value in
    commit_read file c.args.at (get_or c.as_slice.result.now 0 0)
    (one_item c.as_slice.result.now (ap length same ∙ c.in_ok-bytes.ensures.count) ∙ same ∙ c.in_ok-bytes.ensures.bytes file told)
