use Rattle.std.proofs.Common.{arith}
use Rattle.text_types.proofs.NameLaws.{Lacks-take}
use Rattle.exchange_line.proofs.reading.+read.Goals as goal

pub read_members-push-requires : goal.read_members-push-requires
read_members-push-requires t c =
    let distinct = rw (← c.as_slice-field-items.ensures.pairs) at c.as_slice-field-items.ensures.names in
    rw (c.loop-field.invariant.names, c.in_ok-copy-in-Some.ensures, c.loop-field-item.is)
    (Lacks-take _ c.loop-field.field-index c.loop-field-item.result (omega arith) distinct)
