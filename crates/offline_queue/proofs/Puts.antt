-- What a put's answer says of the queue after it.
use Rattle.std.proofs.Common.{◌≡◌, ℕ, List, Result, Ok, Err, IfOk, OnOk}
use Rattle.queue_model.specs.Queue.{MutationQueue, queued, next_row, IsHeld}
use Rattle.queue_model.proofs.Rises.{held_push}
use Rattle.offline_queue.specs.declared.keeper.PutError.{PutError}
use Rattle.offline_queue.specs.Keeper.{AnswersPut}

-- the row that was put is held under the number that was answered
pub put_is_held : (old new : MutationQueue) (document operation variables : List ℕ) (need : ℕ) (result : Result ℕ PutError)
    → AnswersPut old need result → OnOk result (new ≡ queued old document operation variables) → IfOk result (λ seq. IsHeld seq new.rows)
put_is_held old new document operation variables need (Ok seq) answer put =
    rw (put, answer.0) (held_push old.rows (next_row old document operation variables))
put_is_held old new document operation variables need (Err e) answer put = tt
