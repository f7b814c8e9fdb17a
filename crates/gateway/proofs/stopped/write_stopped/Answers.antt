use Rattle.std.proofs.Common.{refl}
use Rattle.gateway.proofs.Fronts.{WritesFront-take, WritesFront-all}
use Rattle.gateway.proofs.stopped.write_stopped.Goals as goal

pub returns-in-Ok-clause-front : goal.returns-in-Ok-clause-front
returns-in-Ok-clause-front g c = WritesFront-all _ _ _ c.in-Ok.ensures.ok

pub returns-in-Err-clause-front : goal.returns-in-Err-clause-front
returns-in-Err-clause-front g c = let h = c.in-Err.ensures.err in WritesFront-take _ _ h.0 _ _ refl h.1
