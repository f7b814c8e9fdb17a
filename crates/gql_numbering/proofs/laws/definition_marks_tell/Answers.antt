use Rattle.gql_numbering.proofs.TellingLaws.{definition_marks_tell}
use Rattle.gql_numbering.proofs.laws.definition_marks_tell.Goals as goal

pub returns : goal.returns
returns c = definition_marks_tell
