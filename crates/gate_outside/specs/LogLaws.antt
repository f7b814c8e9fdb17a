-- The laws of a disk, of what a file in memory tells.
use Rattle.std.specs.Prelude.{◌≡◌, ℕ, List, [], ◌∷◌, length, Some}
use Rattle.std.proofs.Common.{inl, inr, refl, subst, arith}
use Rattle.gate_outside.specs.Log.{Event, Wrote, CutTo, Synced, file_after, MayLeave, MightHaveLeft}

-- the file as it reads is one that a crash may leave
pub leaves_reads : (first : List ℕ) (log : List Event) → MayLeave first log (file_after first log)
leaves_reads first [] = refl
leaves_reads first (Wrote at bytes ∷ earlier) = inl refl
leaves_reads first (CutTo len ∷ earlier) = (file_after first earlier, leaves_reads first earlier, inr refl)
leaves_reads first (Synced ∷ earlier) = refl

pub leaves_told : (first : List ℕ) (log : List Event) (file : List ℕ) → Some (file_after first log) ≡ Some file → MayLeave first log file
leaves_told first log file told =
    let is : file_after first log ≡ file = cc in
    subst (λ c. MayLeave first log c) is (leaves_reads first log)

-- this moment is one of those since an earlier one
pub counts_this : (first : List ℕ) (log : List Event) (t : ℕ) (c : List ℕ) → MayLeave first log c → MightHaveLeft first log t c
counts_this first [] t c now = now
counts_this first (event ∷ earlier) t c now = inl now

-- since this moment there is no other
pub only_this : (first : List ℕ) (log : List Event) (c : List ℕ) → MightHaveLeft first log (length log) c → MayLeave first log c
only_this first [] c left = left
only_this first (event ∷ earlier) c (inl now) = now
only_this first (event ∷ earlier) c (inr past) = absurd (omega arith)
