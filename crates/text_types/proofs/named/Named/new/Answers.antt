use Rattle.text_types.proofs.NameLaws.{HasDistinctNames-nil}
use Rattle.text_types.proofs.named.Named.new.Goals as goal

pub invariant_of-result : goal.invariant_of-result
invariant_of-result g c = rw c.new.ensures.items HasDistinctNames-nil
