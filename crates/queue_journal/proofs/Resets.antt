-- A file whose rows are all done is closed and cut.
use Rattle.std.proofs.Common.{◌≡◌, ◌≢◌, ◌⊎◌, ⊎_elim, ℕ, ◌<◌, ◌≤◌, List, [], ◌∷◌, ◌++◌, length, take, Option, Some, refl, sym, ◌∙◌, ap, subst, arith, option_map}
use Rattle.std.specs.List.{All}
use Rattle.std.proofs.lemmas.List.{nil_from_length}
use Rattle.std.proofs.lemmas.List.Elements.{All-nil}
use Rattle.fault_causes.specs.Crash.{Only, LeavesOnly}
use Rattle.fault_causes.proofs.Moments.{weakened}
use Rattle.gate_outside.specs.Disk.{IsTorn, IsCutOrWhole, written}
use Rattle.queue_model.specs.Queue.{MutationQueue, RiseBetween}
use Rattle.queue_model.specs.QueueFile.{magic, StoredRow, with_chain, held_rows, end_of, IsQueueFile, RowsOfFile}
use Rattle.queue_model.proofs.Chains.{length-with_record}
use Rattle.queue_journal.specs.Journal.{OpenJournal, IsSettled}
use Rattle.queue_journal.specs.Steps.{WhereTold, After}
use Rattle.queue_journal.proofs.Images.{torn_close, torn_cut, cut_file, empty_chain, no_rows}
use Rattle.queue_journal.proofs.Kept.{map_some}
use Rattle.queue_journal.proofs.Runs.{after_only}

-- a chain with a record ends behind 9
pub end_nonempty : (a : List StoredRow) (s : StoredRow) (b : List StoredRow) → 9 < end_of (a ++ s ∷ b)
end_nonempty [] s b = let e = length-with_record s (with_chain b []) in omega (arith, e)
end_nonempty (t ∷ a) s b = let e = length-with_record t (with_chain (a ++ s ∷ b) []) in omega (arith, e)

-- while such a chain is closed and cut off a crash leaves no row, and then one closed commit byte stands behind the magic
pub closes : (file : List ℕ) (chain : List StoredRow) → IsQueueFile file chain → held_rows chain ≡ [] → 9 < end_of chain
    → ((c : List ℕ) → IsTorn 8 1 file c ⊎ IsCutOrWhole 9 (written 8 (0 ∷ []) file) c → RowsOfFile c []) × (take 9 (written 8 (0 ∷ []) file) ≡ magic ++ 0 ∷ [])
closes file [] is none long = absurd (omega arith)
closes file (s ∷ more) is none long = (λ c h. ⊎_elim (torn_close file s more is none c) (torn_cut file s more is none c) h, cut_file file s more is none)

-- a chain that ends at 9 is empty
pub empty_end : (chain : List StoredRow) → end_of chain ≡ 9 → chain ≡ []
empty_end [] is = refl
empty_end (s ∷ more) is = let e = length-with_record s (with_chain more []) in absurd (omega (arith, e, is))

module _ {D : Type 0} (reads : D → Option (List ℕ)) (kept : D → ℕ) (may_leave : D → List ℕ → Type 0) (moment : D → ℕ) (left_since : D → ℕ → List ℕ → Type 0)
    (only_now : (disk : D) (c : List ℕ) → left_since disk (moment disk) c → may_leave disk c) where
  -- a journal without rows over a file of one closed commit byte
  pub settled_empty : (new : OpenJournal D) → new.queue.rows ≡ [] → new.queue.end ≡ 9 → new.queue.limit ≤ 67108864 → length new.places ≡ 0 → 9 ≤ kept new.disk
      → WhereTold (reads new.disk) (λ file. ((rest : List ℕ) × (x : ℕ) × (x ≢ 1) × (file ≡ magic ++ x ∷ rest)) × Only file (may_leave new.disk)) → IsSettled reads kept may_leave new
  settled_empty new rows end limit nowhere size told = record {
    rising = subst (λ l. RiseBetween 0 new.queue.greatest l) (sym rows) (omega arith);
    counts = (let e = ap length rows in omega (arith, e, nowhere));
    limit = limit;
    start = omega (arith, end);
    end = omega (arith, end, size);
    empty = λ none. end;
    inside = subst (All (λ (k : ℕ). k < new.queue.end)) (sym (nil_from_length new.places nowhere)) (All-nil (λ (k : ℕ). k < new.queue.end));
    told = λ file is.
        let facts = told file is in (
          (
            [],
            record {
              bytes = subst (λ f. IsQueueFile f []) (sym facts.0.3) (empty_chain facts.0.1 facts.0.0 facts.0.2);
              rows = rows;
              end = end;
              greatest = omega arith;
              at = nil_from_length new.places nowhere;
            },
          ),
          facts.1,
        );
  }

  module _ (old new : OpenJournal D) (settled : IsSettled reads kept may_leave old) (none : old.queue.rows ≡ []) where
    closed : (file : List ℕ) → reads old.disk ≡ Some file → IsQueueFile file []
    closed file told =
        let facts = settled.told file told in
        let stands = facts.0.1 in
        subst (λ l. IsQueueFile file l) (empty_end facts.0.0 (sym stands.end ∙ settled.empty none)) stands.bytes

    -- the cut of a closed file leaves no row
    pub reset_crash : (file : List ℕ) → reads old.disk ≡ Some file → LeavesOnly moment left_since old.disk new.disk (After (IsCutOrWhole 9) (may_leave old.disk))
        → LeavesOnly moment left_since old.disk new.disk (λ c. RowsOfFile c [])
    reset_crash file told run =
        let is = closed file told in
        weakened moment left_since old.disk new.disk (After (IsCutOrWhole 9) (may_leave old.disk)) (λ c. RowsOfFile c []) run (λ c after. ⊎_elim
        (λ whole. no_rows c (subst (λ f. IsQueueFile f []) (sym whole) is))
        (λ shorter. no_rows c (subst (λ f. IsQueueFile f []) (sym (shorter ∙ ap (take 9) is.bytes)) (empty_chain is.commit [] is.closed)))
        (after_only may_leave moment left_since only_now (IsCutOrWhole 9) (may_leave old.disk) file c (settled.told file told).1 after))

    pub settled_reset : new.queue ≡ old.queue → new.places ≡ old.places → reads new.disk ≡ option_map (take 9) (reads old.disk) → kept new.disk ≡ 9
        → WhereTold (reads new.disk) (λ file. Only file (may_leave new.disk)) → IsSettled reads kept may_leave new
    settled_reset queue places cut size durable =
        settled_empty new
        (ap (λ (q : MutationQueue). q.rows) queue ∙ none)
        (ap (λ (q : MutationQueue). q.end) queue ∙ settled.empty none)
        (let e = ap (λ (q : MutationQueue). q.limit) queue in omega (arith, e, settled.limit))
        (ap length places ∙ settled.counts ∙ ap length none)
        (omega (arith, size))
        (λ file' told'.
        let was = map_some (take 9) (reads old.disk) file' (sym cut ∙ told') in
        let is = closed was.0 was.1 in
        (([], is.commit, is.closed, was.2 ∙ ap (take 9) is.bytes), durable file' told'))
