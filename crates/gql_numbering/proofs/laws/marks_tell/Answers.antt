use Rattle.gql_numbering.proofs.TellingLaws.{marks_tell}
use Rattle.gql_numbering.proofs.laws.marks_tell.Goals as goal

pub returns : goal.returns
returns c = marks_tell
