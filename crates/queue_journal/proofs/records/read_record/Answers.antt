use Rattle.std.proofs.Common.{◌∙◌, ap, arith, ◌∷◌, ◌++◌, length-drop}
use Rattle.std.specs.Int.{w64, to_be_bytes}
use Rattle.std.proofs.lemmas.Result.{err_from_is_err_and}
use Rattle.queue_journal.proofs.Heads.{no_record_short, no_record_texts, at_head}
use Rattle.queue_journal.proofs.records.read_record.Goals as goal

pub returns-then-length-at-lt-HEAD-clause-reads : goal.returns-then-length-at-lt-HEAD-clause-reads
returns-then-length-at-lt-HEAD-clause-reads g c file told long s rest =
    no_record_short _ (let e = length-drop c.args.at file in omega (arith, e, long)) c.args.low s rest

pub returns-in_err-texts-clause-reads : goal.returns-in_err-texts-clause-reads
returns-in_err-texts-clause-reads g c file told long =
    let head = c.in_ok-head.ensures in
    let p = err_from_is_err_and c.from_residual-in_err-texts.result c.from_residual-in_err-texts.ensures.1 in
    rw (p.1, p.2) (no_record_texts file c.args.at c.in_ok-head.head.state c.in_ok-head.head.seq head.number (head.head file told) c.args.low c.in_err-texts.field-0.0
    (c.in_err-texts.ensures.reads file (c.read_head.ensures.quiet.file ∙ told) long))

pub returns-clause-reads : goal.returns-clause-reads
returns-clause-reads g c file told long =
    let head = c.in_ok-head.ensures in
    let texts = c.in_ok-texts.ensures.reads file (c.read_head.ensures.quiet.file ∙ told) long in (
      (omega arith, omega arith, texts.0, texts.1, texts.2),
      at_head file c.args.at c.in_ok-head.head.state c.in_ok-head.head.seq head.number (head.head file told)
          ∙ ap (λ l. c.in_ok-head.head.state ∷ (to_be_bytes w64 c.in_ok-head.head.seq ++ l)) texts.3,
    )
