use Rattle.std.proofs.Common.{◌≡◌, List, ℕ}
use Rattle.std.specs.Prelude.{Result, Ok, Err}
use Rattle.gql_tokens.specs.declared.error.SyntaxError.{SyntaxError}
use Rattle.gql_tokens.specs.declared.error.SyntaxError.TheVariants.{Memory, Syntax}
use Rattle.gql_model.specs.declared.document.Document.{Document}
use Rattle.gql_documents.specs.Documents.{Answers, Reading, document_of}
use Rattle.gql_documents.proofs.DocumentLaws.{document_answers, fault_answers}
use Rattle.gql_documents.proofs.documents.parse_document.Goals as goal

by_answer : (text : List ℕ) (result : Result Document SyntaxError) → Reading (document_of text) result → Answers text result
by_answer text (Ok document) r = document_answers text document r
by_answer text (Err Memory) r = tt
by_answer text (Err (Syntax row column)) r = fault_answers text (record { row = row; column = column }) r

pub returns-clause-answers : goal.returns-clause-answers
returns-clause-answers c = by_answer c.args.text.now c.read_document.result c.read_document.ensures.reads
