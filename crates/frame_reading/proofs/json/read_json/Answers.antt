use Rattle.std.proofs.Common.{sym}
use Rattle.frame_reading.proofs.JsonLaws.{json_of_read, json_of_refused}
use Rattle.frame_reading.proofs.json.read_json.Goals as goal

pub returns-in-Ok : goal.returns-in-Ok
returns-in-Ok c = sym (json_of_read _ _ c.in-Ok.ensures.ok.0 c.in-Ok.ensures.ok.1)

pub returns-else-is_memory : goal.returns-else-is_memory
returns-else-is_memory c = sym (json_of_refused _ (c.in-Err.ensures.err (λ memory. cc (c.is_memory.ensures.1 memory))))
