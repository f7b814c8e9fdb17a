-- What a crash leaves of one write.
use Rattle.std.proofs.Common.{◌≡◌, inl, inr, ℕ, ◌+◌, ◌-◌, ◌≤◌, List, [], ◌∷◌, ◌++◌, length, take, drop, reverse, Bool, true, false, cond, ltb, refl, sym, ◌∙◌, ap, subst, arith, replicate, min, max, length-append}
use Rattle.std.proofs.lemmas.List.{take-append-le, take-append-drop, length-replicate, take_all, drop_all, length-take, length-drop, reverse-append}
use Rattle.std.proofs.lemmas.Bool.{cases_lt, ltb-false}
use Rattle.std.proofs.Math.Seq.{drop-append-add, drop-append_seam}
use Rattle.fault_causes.specs.Crash.{Follows}
use Rattle.gate_outside.specs.Disk.{IsTorn, IsCutOrWhole, written}
use Rattle.gate_outside.specs.declared.tear.Tear.{Tear}
use Rattle.gate_outside.specs.declared.tear.Tear.TheVariants.{Nothing, Whole, Filled, FilledWithin}
use Rattle.gate_outside.specs.Log.{Event, Wrote, CutTo, Synced, file_after, MayLeave, torn_write, torn_cut, torn, image_after}
use Rattle.gate_outside.specs.LogLaws.{leaves_reads}

torn_none : (at n : ℕ) (d : List ℕ) → IsTorn at n d d
torn_none at n d = record { before = refl; after = refl; size = inl refl }

length-front : (at : ℕ) (d : List ℕ) → at ≤ length d → length (take at d) ≡ at
length-front at d le = omega (arith, length-take at d)

length-written : (at : ℕ) (bs d : List ℕ) → at ≤ length d → length (written at bs d) ≡ max (length d) (at + length bs)
length-written at bs d le =
    let first = length-append (take at d) (bs ++ drop (at + length bs) d) in
    let second = length-append bs (drop (at + length bs) d) in
    omega (arith, first, second, length-front at d le, length-drop (at + length bs) d)

front_kept : (at : ℕ) (bs d : List ℕ) → at ≤ length d → take at (written at bs d) ≡ take at d
front_kept at bs d le =
    let len = length-front at d le in
    take-append-le at (take at d) (bs ++ drop (at + length bs) d) (omega (arith, len)) ∙ take_all at (take at d) (omega (arith, len))

back_kept : (at : ℕ) (bs d : List ℕ) → at ≤ length d → drop (at + length bs) (written at bs d) ≡ drop (at + length bs) d
back_kept at bs d le =
    let len = length-front at d le in
    ap (λ (k : ℕ). drop (k + length bs) (written at bs d)) (sym len) ∙ drop-append-add (take at d) (bs ++ drop (at + length bs) d) (length bs) ∙ drop-append_seam bs (drop (at + length bs) d)

-- the whole of a write is one outcome of it
pub torn_whole : (at : ℕ) (bs d : List ℕ) → at ≤ length d → IsTorn at (length bs) d (written at bs d)
torn_whole at bs d le = record { before = front_kept at bs d le; after = back_kept at bs d le; size = inr (length-written at bs d le) }

drop_clipped : (k : ℕ) (c d : List ℕ) → length d ≤ length c → drop k c ≡ drop k d → drop k (take (length d) c) ≡ drop k d
drop_clipped k c d le same =
    let lengths : length c - k ≡ length d - k = sym (length-drop k c) ∙ ap length same ∙ length-drop k d in
    elim (cases_lt (length d) k) [
      | inl past ↦ drop_all k (take (length d) c) (omega (arith, length-take (length d) c)) ∙ sym (drop_all k d (omega arith))
      | inr within ↦ ap (λ z. drop k z) (take_all (length d) c (omega (arith, lengths))) ∙ same
    ]

front_clipped : (at m : ℕ) (c : List ℕ) → at ≤ min m (length c) → take at (take m c) ≡ take at c
front_clipped at m c le =
    sym (take-append-le at (take m c) (drop m c) (omega (arith, length-take m c))) ∙ ap (λ z. take at z) (take-append-drop m c)

-- and so is one that keeps the old length
torn_clipped : (at n : ℕ) (c d : List ℕ) → at ≤ length d → length d ≤ length c → IsTorn at n d c → IsTorn at n d (take (length d) c)
torn_clipped at n c d le longer whole = record { before = front_clipped at (length d) c (omega arith) ∙ whole.before; after = drop_clipped (at + n) c d longer whole.after; size = inl (omega (arith, length-take (length d) c)) }

filled_torn : (at : ℕ) (bs d : List ℕ) (byte : ℕ) → at ≤ length d → IsTorn at (length bs) d (written at (replicate (length bs) byte) d)
filled_torn at bs d byte le =
    subst (λ (n : ℕ). IsTorn at n d (written at (replicate (length bs) byte) d)) (length-replicate (length bs) byte) (torn_whole at (replicate (length bs) byte) d le)

clipped_torn : (at : ℕ) (bs d : List ℕ) (byte : ℕ) → at ≤ length d → IsTorn at (length bs) d (take (length d) (written at (replicate (length bs) byte) d))
clipped_torn at bs d byte le =
    torn_clipped at (length bs) (written at (replicate (length bs) byte) d) d le (omega (arith, length-written at (replicate (length bs) byte) d le)) (filled_torn at bs d byte le)

-- each way in which a crash is told to leave a write is one outcome of it
write_torn : (tear : Tear) (at : ℕ) (bs d : List ℕ) → at ≤ length d → IsTorn at (length bs) d (torn_write tear at bs d)
write_torn Nothing at bs d le = torn_none at (length bs) d
write_torn Whole at bs d le = torn_whole at bs d le
write_torn (Filled byte) at bs d le = filled_torn at bs d byte le
write_torn (FilledWithin byte) at bs d le = clipped_torn at bs d byte le

reaching_torn : (late : Bool) (tear : Tear) (at : ℕ) (bs d : List ℕ) → ltb (length d) at ≡ late → IsTorn at (length bs) d (cond late d (torn_write tear at bs d))
reaching_torn true tear at bs d is = torn_none at (length bs) d
reaching_torn false tear at bs d is = write_torn tear at bs d (ltb-false (length d) at is)

cut_torn : (tear : Tear) (len : ℕ) (d : List ℕ) → IsCutOrWhole len d (torn_cut tear len d)
cut_torn Nothing len d = inl refl
cut_torn Whole len d = inr refl
cut_torn (Filled byte) len d = inr refl
cut_torn (FilledWithin byte) len d = inl refl

-- each image is a file that a crash may leave
pub image_leaves : (tear : Tear) (first : List ℕ) (log : List Event) → MayLeave first log (image_after tear first log)
image_leaves tear first [] = refl
image_leaves tear first (Wrote at bytes ∷ earlier) =
    let d = image_after tear first earlier in
    inr (d, image_leaves tear first earlier, reaching_torn (ltb (length d) at) tear at bytes d refl)
image_leaves tear first (CutTo len ∷ earlier) = (image_after tear first earlier, image_leaves tear first earlier, cut_torn tear len (image_after tear first earlier))
image_leaves tear first (Synced ∷ earlier) = refl

-- what a crash leaves behind a write follows from what it left before
pub write_follows : (first : List ℕ) (log : List Event) (at : ℕ) (bytes : List ℕ) → at ≤ length (file_after first (reverse log))
    → Follows (IsTorn at (length bytes)) (MayLeave first (reverse log)) (MayLeave first (reverse (log ++ Wrote at bytes ∷ [])))
write_follows first log at bytes le c left =
    let newest : reverse (log ++ Wrote at bytes ∷ []) ≡ Wrote at bytes ∷ reverse log = reverse-append log (Wrote at bytes ∷ []) in
    let now : MayLeave first (Wrote at bytes ∷ reverse log) c = subst (λ l. MayLeave first l c) newest left in
    let file = file_after first (reverse log) in
    elim now [
      | inl is ↦ (file, leaves_reads first (reverse log), subst (λ z. IsTorn at (length bytes) file z) (sym is) (torn_whole at bytes file le))
      | inr torn ↦ torn
    ]

pub sync_follows : (first : List ℕ) (log : List Event) (c : List ℕ) → MayLeave first (reverse (log ++ Synced ∷ [])) c → MayLeave first (reverse log) c
sync_follows first log c left =
    let newest : reverse (log ++ Synced ∷ []) ≡ Synced ∷ reverse log = reverse-append log (Synced ∷ []) in
    let now : MayLeave first (Synced ∷ reverse log) c = subst (λ l. MayLeave first l c) newest left in
    subst (λ z. MayLeave first (reverse log) z) (sym now) (leaves_reads first (reverse log))
