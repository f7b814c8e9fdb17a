use Rattle.gql_value.proofs.ValueLaws.{members_told}
use Rattle.gate_frames.proofs.variables.members_in.Goals as goal

pub returns-in-Obj : goal.returns-in-Obj
returns-in-Obj c = members_told c.args.value c.in-Obj.members c.in-Obj.is
