use Rattle.sent_laws.proofs.TextLaws.{sent_derived, sent_again, sent_read}
use Rattle.sent_laws.proofs.sent_documents_are_documents.Goals as goal

pub returns-clause-derived : goal.returns-clause-derived
returns-clause-derived c = sent_derived

pub returns-clause-written : goal.returns-clause-written
returns-clause-written c = sent_again

pub returns-clause-read : goal.returns-clause-read
returns-clause-read c = sent_read
