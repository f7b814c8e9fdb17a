-- The log of a file in memory, as it grows.
use Rattle.std.proofs.Common.{◌≡◌, ℕ, ◌≤◌, List, [], ◌∷◌, ◌++◌, length, take, drop, map, reverse, refl, sym, ◌∙◌, ap, subst, arith}
use Rattle.std.proofs.lemmas.List.{map-append, drop-append-le, take-append-le, take_all, length-drop, length-append, reverse-append}
use Rattle.std.proofs.Math.Seq.{drop-append_seam}
use Rattle.gate_outside.specs.Disk.{written}
use Rattle.gate_outside.specs.declared.change.Change.{Change}
use Rattle.gate_outside.specs.declared.change.Change.TheVariants as change
use Rattle.gate_outside.specs.Log.{Event, Wrote, event_of, changed, file_after}
use Rattle.gate_outside.specs.MemoryDisk.{bytes_end, AreWithin, IsKept, DiskInMemory}

-- more bytes leave a change as it was
event_grows : (bytes more : List ℕ) (c : Change) → bytes_end c ≤ length bytes → event_of (bytes ++ more) c ≡ event_of bytes c
event_grows bytes more (change.Wrote at from len) le =
    let le' : from ≤ length bytes = omega arith in
    let there : len ≤ length (drop from bytes) = omega (arith, length-drop from bytes) in
    ap (λ z. Wrote at (take len z)) (drop-append-le from bytes more le') ∙ ap (λ z. Wrote at z) (take-append-le len (drop from bytes) more there)
event_grows bytes more (change.CutTo len) le = refl
event_grows bytes more change.Synced le = refl

log_grows : (bytes more : List ℕ) (changes : List Change) → AreWithin changes (length bytes) → map (event_of (bytes ++ more)) changes ≡ map (event_of bytes) changes
log_grows bytes more [] within = refl
log_grows bytes more (c ∷ changes) within =
    let one = event_grows bytes more c within.0 in
    let rest = log_grows bytes more changes within.1 in
    cc

pub log_write : (bytes more : List ℕ) (changes : List Change) (at : ℕ) → AreWithin changes (length bytes)
    → map (event_of (bytes ++ more)) (changes ++ change.Wrote at (length bytes) (length more) ∷ []) ≡ map (event_of bytes) changes ++ Wrote at more ∷ []
log_write bytes more changes at within =
    let split = map-append (event_of (bytes ++ more)) changes (change.Wrote at (length bytes) (length more) ∷ []) in
    let before = log_grows bytes more changes within in
    let new : take (length more) (drop (length bytes) (bytes ++ more)) ≡ more = ap (λ z. take (length more) z) (drop-append_seam bytes more) ∙ take_all (length more) more (omega arith) in
    split ∙ ap (λ z. z ++ event_of (bytes ++ more) (change.Wrote at (length bytes) (length more)) ∷ []) before ∙ ap (λ z. map (event_of bytes) changes ++ Wrote at z ∷ []) new

within_more : (changes : List Change) (m n : ℕ) → m ≤ n → AreWithin changes m → AreWithin changes n
within_more [] m n le within = tt
within_more (c ∷ changes) m n le within = (omega (arith, within.0), within_more changes m n le within.1)

within_push : (changes : List Change) (c : Change) (n : ℕ) → AreWithin changes n → bytes_end c ≤ n → AreWithin (changes ++ c ∷ []) n
within_push [] c n within le = (le, tt)
within_push (d ∷ changes) c n within le = (within.0, within_push changes c n within.1 le)

pub within_write : (bytes more : List ℕ) (changes : List Change) (at : ℕ) → AreWithin changes (length bytes)
    → AreWithin (changes ++ change.Wrote at (length bytes) (length more) ∷ []) (length (bytes ++ more))
within_write bytes more changes at within =
    let len = length-append bytes more in
    within_push changes (change.Wrote at (length bytes) (length more)) (length (bytes ++ more)) (within_more changes (length bytes) (length (bytes ++ more)) (omega (arith, len)) within) (omega (arith, len))

log_push : (f : Change → Event) (changes : List Change) (c : Change) → reverse (map f (changes ++ c ∷ [])) ≡ f c ∷ reverse (map f changes)
log_push f changes c = ap (λ l. reverse l) (map-append f changes (c ∷ [])) ∙ reverse-append (map f changes) (f c ∷ [])

-- the file goes on standing for the changes with one more of them
pub kept_change : (first file bytes : List ℕ) (changes : List Change) (c : Change) (next : List ℕ) (more : List Change)
    → IsKept first file bytes changes → bytes_end c ≤ length bytes → next ≡ changed (event_of bytes c) file → more ≡ changes ++ c ∷ [] → IsKept first next bytes more
kept_change first file bytes changes c next more kept le is same = subst (λ l. IsKept first next bytes l) (sym same) (record {
  reads = is ∙ ap (λ f. changed (event_of bytes c) f) kept.reads ∙ ap (λ l. file_after first l) (sym (log_push (event_of bytes) changes c));
  within = within_push changes c (length bytes) kept.within le;
})

pub kept_write : (first file bytes : List ℕ) (changes : List Change) (at : ℕ) (new next all : List ℕ) (more : List Change)
    → IsKept first file bytes changes → next ≡ written at new file → all ≡ bytes ++ new → more ≡ changes ++ change.Wrote at (length bytes) (length new) ∷ [] → IsKept first next all more
kept_write first file bytes changes at new next all more kept is grown same =
    subst (λ l. IsKept first next all l) (sym same) (subst (λ z. IsKept first next z (changes ++ change.Wrote at (length bytes) (length new) ∷ [])) (sym grown) (record {
      reads = is ∙ ap (λ f. written at new f) kept.reads ∙ ap (λ l. file_after first l) (sym (ap (λ l. reverse l) (log_write bytes new changes at kept.within) ∙ reverse-append (map (event_of bytes) changes) (Wrote at new ∷ [])));
      within = within_write bytes new changes at kept.within;
    }))

abbrev disk_of : List ℕ → List Event → ℕ → ℕ → ℕ → DiskInMemory
disk_of first log held faults room = record { first = first; log = log; held = held; faults = faults; room = room }

pub same_disk : (first : List ℕ) (log log' : List Event) (held held' faults room : ℕ) → log ≡ log' → held ≡ held'
    → disk_of first log held faults room ≡ disk_of first log' held' faults room
same_disk first log log' held held' faults room same same' =
    ap (λ l. disk_of first l held faults room) same ∙ ap (λ (n : ℕ). disk_of first log' n faults room) same'
