use Rattle.field_key_laws.proofs.TextLaws.{texts_by_values}
use Rattle.field_key_laws.proofs.SortedLaws.{sorted_texts_by_values, sorted_texts_of_values}
use Rattle.field_key_laws.proofs.equal_texts.Goals as goal

pub returns-clause-plain : goal.returns-clause-plain
returns-clause-plain c = texts_by_values

pub returns-clause-sorted : goal.returns-clause-sorted
returns-clause-sorted c = sorted_texts_by_values

pub returns-clause-back : goal.returns-clause-back
returns-clause-back c = sorted_texts_of_values
