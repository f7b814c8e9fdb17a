use Rattle.gql_value.proofs.Responses.{json_of_read, json_of_refused}
use Rattle.gate_frames.proofs.framed.read_text.Goals as goal

pub returns-in-Ok : goal.returns-in-Ok
returns-in-Ok c = rw (json_of_read _ _ c.in-Ok.ensures.ok.0 c.in-Ok.ensures.ok.1) c.read_frame.ensures

pub returns-else-is_memory : goal.returns-else-is_memory
returns-else-is_memory c = rw (json_of_refused _ (c.in-Err.ensures.err (λ memory. cc (c.is_memory.ensures.1 memory)))) c.refused.ensures
