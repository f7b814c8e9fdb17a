-- The changes of a file in memory, and what a crash behind any of them leaves.
use Rattle.std.specs.Prelude.{◌≡◌, ◌⊎◌, ℕ, ◌≤◌, List, [], ◌∷◌, length, take, drop, replicate, ltb, cond}
use Rattle.gate_outside.specs.Disk.{IsTorn, IsCutOrWhole, written}
use Rattle.gate_outside.specs.declared.change.Change.{Change}
use Rattle.gate_outside.specs.declared.change.Change.TheVariants as change
use Rattle.gate_outside.specs.declared.tear.Tear.{Tear}
use Rattle.gate_outside.specs.declared.tear.Tear.TheVariants.{Nothing, Whole, Filled, FilledWithin}

-- a write of these bytes at an offset, a cut to a length, or a sync
pub data Event : Type 0 where
  Wrote : ℕ → List ℕ → Event
  CutTo : ℕ → Event
  Synced : Event

-- a change, whose bytes stand among all that were written
abbrev pub event_of : List ℕ → Change → Event
event_of bytes (change.Wrote at from len) = Wrote at (take len (drop from bytes))
event_of bytes (change.CutTo len) = CutTo len
event_of bytes change.Synced = Synced

-- what a change makes of the file
abbrev pub changed : Event → List ℕ → List ℕ
changed (Wrote at bytes) file = written at bytes file
changed (CutTo len) file = take len file
changed Synced file = file

-- the file after the changes, the newest first
abbrev pub file_after : List ℕ → List Event → List ℕ
file_after first [] = first
file_after first (event ∷ earlier) = changed event (file_after first earlier)

-- a crash behind the changes may leave this: the file as it reads, or what it might have left before the newest of them, with a part of that one done; behind a sync the file alone
abbrev pub MayLeave : List ℕ → List Event → List ℕ → Type 0
MayLeave first [] c = c ≡ first
MayLeave first (Wrote at bytes ∷ earlier) c = (c ≡ written at bytes (file_after first earlier)) ⊎ ((d : List ℕ) × MayLeave first earlier d × IsTorn at (length bytes) d c)
MayLeave first (CutTo len ∷ earlier) c = (d : List ℕ) × MayLeave first earlier d × IsCutOrWhole len d c
MayLeave first (Synced ∷ earlier) c = c ≡ file_after first earlier

-- a crash behind so many of the changes, or behind more of them, might have left this
abbrev pub MightHaveLeft : List ℕ → List Event → ℕ → List ℕ → Type 0
MightHaveLeft first [] t c = MayLeave first [] c
MightHaveLeft first (event ∷ earlier) t c = MayLeave first (event ∷ earlier) c ⊎ ((t ≤ length earlier) × MightHaveLeft first earlier t c)

-- what is left of a write where the file reaches its offset
abbrev pub torn_write : Tear → ℕ → List ℕ → List ℕ → List ℕ
torn_write Nothing at bytes file = file
torn_write Whole at bytes file = written at bytes file
torn_write (Filled byte) at bytes file = written at (replicate (length bytes) byte) file
torn_write (FilledWithin byte) at bytes file = take (length file) (written at (replicate (length bytes) byte) file)

-- what is left of a cut
abbrev pub torn_cut : Tear → ℕ → List ℕ → List ℕ
torn_cut Nothing len file = file
torn_cut Whole len file = take len file
torn_cut (Filled byte) len file = take len file
torn_cut (FilledWithin byte) len file = file

-- what a crash leaves of a change, where the file as it reads behind it is `whole`; a write that begins past the end of what is left of the earlier ones isn't done
abbrev pub torn : Tear → Event → List ℕ → List ℕ → List ℕ
torn tear (Wrote at bytes) whole file = cond (ltb (length file) at) file (torn_write tear at bytes file)
torn tear (CutTo len) whole file = torn_cut tear len file
torn tear Synced whole file = whole

-- the file that a crash behind the changes leaves where it does the same to each that isn't synced
abbrev pub image_after : Tear → List ℕ → List Event → List ℕ
image_after tear first [] = first
image_after tear first (event ∷ earlier) = torn tear event (file_after first (event ∷ earlier)) (image_after tear first earlier)
