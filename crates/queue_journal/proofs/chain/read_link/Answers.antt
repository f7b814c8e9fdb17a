use Rattle.std.proofs.Common.{◌≡◌, true, false, ◌∙◌, subst, arith}
use Rattle.std.proofs.lemmas.Result.{err_from_is_err_and}
use Rattle.queue_journal.specs.Reading.{ReadsCommit, stored_of}
use Rattle.queue_journal.proofs.Links.{no_commit, closed_here, no_record, one_more}
use Rattle.queue_journal.proofs.chain.read_link.Goals as goal

pub returns-then-length-chain-clause-reads : goal.returns-then-length-chain-clause-reads
returns-then-length-chain-clause-reads g c file told long records read =
    no_commit file records c.args.chain.now read (omega (arith, long))

pub returns-then-not-branch-clause-reads : goal.returns-then-not-branch-clause-reads
returns-then-not-branch-clause-reads g c file told long records read =
    let closed = subst (ReadsCommit file c.args.chain.now.commit) (let e : c.in_ok-is_open.field-0 ≡ false = search (c.if-not-branch.true) in e) (c.in_ok-is_open.ensures.commit file told) in
    (read, closed_here file records c.args.chain.now read closed.0 closed.1 closed.2)

pub returns-in_err-record-clause-reads : goal.returns-in_err-record-clause-reads
returns-in_err-record-clause-reads g c file told long records read =
    let opened = subst (ReadsCommit file c.args.chain.now.commit) (let e : c.in_ok-is_open.field-0 ≡ true = search (c.if-not-branch.false) in e) (c.in_ok-is_open.ensures.commit file told) in
    let p = err_from_is_err_and c.from_residual-in_err-record.result c.from_residual-in_err-record.ensures.1 in
    rw (p.1, p.2) (no_record file records c.args.chain.now read opened c.args.chain.now c.in_err-record.field-0.0
    (c.in_err-record.ensures.reads file (c.is_open.ensures.quiet.file ∙ told) long))

pub returns-clause-reads : goal.returns-clause-reads
returns-clause-reads g c file told long records read =
    let opened = subst (ReadsCommit file c.args.chain.now.commit) (let e : c.in_ok-is_open.field-0 ≡ true = search (c.if-not-branch.false) in e) (c.in_ok-is_open.ensures.commit file told) in
    let found = c.in_ok-record.ensures.reads file (c.is_open.ensures.quiet.file ∙ told) long in (
      stored_of c.in_ok-record.record,
      one_more file records c.args.chain.now read opened c.take_up.new.chain c.in_ok-record.record
          (omega (arith, c.in_ok-record.ensures.end, long)) found.0 found.1 c.in_ok-take_up.ensures.added,
    )
