-- What the opening of a file does.
use Rattle.std.proofs.Common.{◌≡◌, ◌⊎◌, inl, inr, ℕ, ◌+◌, ◌<◌, ◌≤◌, List, [], ◌∷◌, ◌++◌, length, take, Option, Some, Err, refl, sym, ◌∙◌, ap, subst, arith, option_map}
use Rattle.std.specs.List.{All}
use Rattle.std.proofs.lemmas.List.Elements.{All-weaker}
use Rattle.fault_causes.specs.Crash.{Only, LeavesOnly}
use Rattle.fault_causes.proofs.Moments.{joined, weakened}
use Rattle.gate_outside.specs.Disk.{IsTorn, IsCutOrWhole, written}
use Rattle.queue_model.specs.Queue.{RiseBetween}
use Rattle.queue_model.specs.QueueFile.{magic, StoredRow, held_rows, IsQueueFile}
use Rattle.queue_journal.specs.declared.error.OpenError.{OpenError}
use Rattle.queue_journal.specs.declared.error.OpenError.TheVariants.{Memory, NotAJournal, Failed}
use Rattle.queue_journal.specs.declared.found.ChainSoFar.{ChainSoFar}
use Rattle.queue_journal.specs.Journal.{OpenJournal, IsSettled}
use Rattle.queue_journal.specs.Opening.{WasOrSame}
use Rattle.queue_journal.specs.Reading.{IsSound, IsRead, IsNoQueueFile, ReadsChain}
use Rattle.queue_journal.specs.Steps.{WhereTold, After, IsQuiet}
use Rattle.queue_journal.proofs.Images.{torn_begin, begun_file}
use Rattle.queue_journal.proofs.Kept.{map_some}
use Rattle.queue_journal.proofs.Resets.{closes, settled_empty}
use Rattle.queue_journal.proofs.Runs.{after_only}

pub is_foreign : (file : List ℕ) (error : OpenError) → ReadsChain file (Err error) → error ≡ NotAJournal → IsNoQueueFile file
is_foreign file NotAJournal reads is = reads
is_foreign file Memory reads is = cc
is_foreign file Failed reads is = cc

module _ {D : Type 0} (reads : D → Option (List ℕ)) (kept : D → ℕ) (may_leave : D → List ℕ → Type 0) (moment : D → ℕ) (left_since : D → ℕ → List ℕ → Type 0)
    (only_now : (disk : D) (c : List ℕ) → left_since disk (moment disk) c → may_leave disk c) where
  -- a new file is begun
  pub begin_crash : (old new : D) (file : List ℕ) → length file ≤ 9 → Only file (may_leave old) → LeavesOnly moment left_since old new (After (IsTorn 0 9) (may_leave old))
      → LeavesOnly moment left_since old new (WasOrSame (may_leave old) file)
  begin_crash old new file short only run =
      weakened moment left_since old new (After (IsTorn 0 9) (may_leave old)) (WasOrSame (may_leave old) file) run
      (λ c after. inr ([], inl (short, refl), torn_begin file short c (after_only may_leave moment left_since only_now (IsTorn 0 9) (may_leave old) file c only after)))

  pub settled_begin : (old : D) (new : OpenJournal D) → WhereTold (reads old) (λ file. (length file ≤ 9) × Only file (may_leave old))
      → reads new.disk ≡ option_map (written 0 (magic ++ 0 ∷ [])) (reads old) → 9 ≤ kept new.disk → WhereTold (reads new.disk) (λ file. Only file (may_leave new.disk))
      → new.queue.rows ≡ [] → new.queue.end ≡ 9 → new.queue.limit ≤ 67108864 → length new.places ≡ 0 → IsSettled reads kept may_leave new
  settled_begin old new short begun size durable rows end limit nowhere =
      settled_empty reads kept may_leave moment left_since only_now new rows end limit nowhere size (λ file' told'.
      let was = map_some (written 0 (magic ++ 0 ∷ [])) (reads old) file' (sym begun ∙ told') in
      (([], 0, (λ same. omega (arith, same)), was.2 ∙ begun_file was.0 (short was.0 was.1).0), durable file' told'))

  module _ (old mid : D) (size : ℕ) (chain : ChainSoFar) (sound : IsSound chain) (within : chain.commit < size) (is_kept : size ≡ kept old)
      (file_is : WhereTold (reads old) (λ file. (size ≡ length file) × Only file (may_leave old)))
      (read : (file : List ℕ) → reads old ≡ Some file → (records : List StoredRow) × IsRead file records chain × IsQueueFile file records)
      (quiet : IsQuiet reads kept may_leave moment left_since old mid) where
    -- the chain that was read is held
    pub settled_read : (new : OpenJournal D) → new.disk ≡ mid → new.queue.rows ≡ chain.rows.items → new.queue.end ≡ chain.commit + 1 → new.queue.limit ≤ 67108864 → new.queue.greatest ≡ chain.greatest
        → new.places ≡ chain.places.items → (chain.rows.items ≡ [] → chain.commit < 9) → IsSettled reads kept may_leave new
    settled_read new disk rows end limit greatest places some = record {
      rising = subst (λ l. RiseBetween 0 new.queue.greatest l) (sym rows) (subst (λ (n : ℕ). RiseBetween 0 n chain.rows.items) (sym greatest) sound.rising);
      counts = ap length places ∙ sound.counts ∙ sym (ap length rows);
      limit = limit;
      start = omega (arith, end, sound.start);
      end = (let e = ap kept disk in omega (arith, end, e, quiet.size, is_kept, within));
      empty = λ none. omega (arith, end, sound.start, some (sym rows ∙ none));
      inside = subst (All (λ (k : ℕ). k < new.queue.end)) (sym places) (All-weaker (λ (k : ℕ). k < chain.commit) (λ (k : ℕ). k < new.queue.end) (λ k below. omega (arith, below, end)) chain.places.items sound.inside);
      told = λ file told.
          let told' : reads old ≡ Some file = sym (ap reads disk ∙ quiet.file) ∙ told in
          let found = read file told' in (
            (
              found.0,
              record {
                bytes = found.2;
                rows = rows ∙ found.1.held;
                end = end ∙ found.1.behind;
                greatest = omega (arith, greatest, found.1.last);
                at = places ∙ found.1.at;
              },
            ),
            λ c left. (file_is file told').1 c (quiet.crash c (subst (λ (d : D). may_leave d c) disk left)),
          );
    }

    module _ (none : chain.rows.items ≡ []) (long : 9 ≤ chain.commit) where
      abbrev Closing : D → Type 0
      Closing new = WhereTold (reads mid) (λ file. Only file (may_leave mid) → LeavesOnly moment left_since mid new (λ c. IsTorn 8 1 file c ⊎ IsCutOrWhole 9 (written 8 (0 ∷ []) file) c))

      -- a chain without rows is closed and cut off
      pub close_crash : (new : D) (file : List ℕ) → reads old ≡ Some file → Closing new → LeavesOnly moment left_since old new (WasOrSame (may_leave old) file)
      close_crash new file told close =
          let found = read file told in
          let empty : held_rows found.0 ≡ [] = sym found.1.held ∙ none in
          let closing = closes file found.0 found.2 empty (omega (arith, found.1.behind, long)) in
          joined moment left_since old mid new (may_leave old) (λ c. IsTorn 8 1 file c ⊎ IsCutOrWhole 9 (written 8 (0 ∷ []) file) c) (WasOrSame (may_leave old) file)
          quiet.time (close file (quiet.file ∙ told) (λ c left. (file_is file told).1 c (quiet.crash c left)))
          (λ c h. inl h) (λ c h. inr ([], inr (found.0, found.2, sym empty), closing.0 c h))

      pub settled_close : (new : OpenJournal D) → reads new.disk ≡ option_map (λ file. take 9 (written 8 (0 ∷ []) file)) (reads mid) → kept new.disk ≡ 9 → WhereTold (reads new.disk) (λ file. Only file (may_leave new.disk))
          → new.queue.rows ≡ chain.rows.items → new.queue.end ≡ 9 → new.queue.limit ≤ 67108864 → new.places ≡ chain.places.items → IsSettled reads kept may_leave new
      settled_close new cut size' durable rows end limit places =
          settled_empty reads kept may_leave moment left_since only_now new (rows ∙ none) end limit (ap length places ∙ sound.counts ∙ ap length none) (omega (arith, size')) (λ file' told'.
          let was = map_some (λ file. take 9 (written 8 (0 ∷ []) file)) (reads mid) file' (sym cut ∙ told') in
          let found = read was.0 (sym quiet.file ∙ was.1) in
          let closing = closes was.0 found.0 found.2 (sym found.1.held ∙ none) (omega (arith, found.1.behind, long)) in
          (([], 0, (λ same. omega (arith, same)), was.2 ∙ closing.1), durable file' told'))
