-- What a done does to a settled journal.
use Rattle.std.proofs.Common.{◌≡◌, ◌≢◌, ◌⊎◌, inl, inr, ⊎_elim, ℕ, suc, ◌+◌, ◌<◌, max, List, [], ◌∷◌, length, get_or, take, drop, Option, Some, refl, sym, ◌∙◌, ap, subst, arith, option_map}
use Rattle.std.specs.List.{All, remove}
use Rattle.std.proofs.lemmas.List.Edits.{length-remove}
use Rattle.std.proofs.lemmas.List.Elements.{All-append, All-take, All-drop, All-get_or}
use Rattle.fault_causes.specs.Crash.{Only, LeavesOnly}
use Rattle.fault_causes.proofs.Moments.{joined}
use Rattle.gate_outside.specs.Disk.{IsTorn, IsCutOrWhole, written}
use Rattle.queue_model.specs.declared.row.Row.{Row}
use Rattle.queue_model.specs.Queue.{MutationQueue, completed, without, numbers_of, end_with, RiseBetween}
use Rattle.queue_model.specs.QueueFile.{StoredRow, with_chain, held_rows, last_number, end_of, IsQueueFile, RowsOfFile}
use Rattle.queue_model.proofs.Rises.{without_at, rise_without}
use Rattle.offline_queue.specs.Keeper.{HasRowsBeforeOrAfter}
use Rattle.queue_journal.specs.Journal.{OpenJournal, IsSettled, Stands}
use Rattle.queue_journal.specs.Steps.{WhereTold, After}
use Rattle.queue_journal.proofs.Chains.{Split, split_at_row, with_state, held_without, places_without, last_state, size_state}
use Rattle.queue_journal.proofs.Images.{torn_state, done_file, changed}
use Rattle.queue_journal.proofs.Kept.{Leaves, lifted, map_some}
use Rattle.queue_journal.proofs.Resets.{closes, end_nonempty, settled_empty}
use Rattle.queue_journal.proofs.Runs.{after_only}

pub end_with_some : (rows : List Row) (end : ℕ) → rows ≢ [] → end_with rows end ≡ end
end_with_some [] end some = absurd (some refl)
end_with_some (row ∷ rows) end some = refl

module _ {D : Type 0} (reads : D → Option (List ℕ)) (kept : D → ℕ) (may_leave : D → List ℕ → Type 0) (moment : D → ℕ) (left_since : D → ℕ → List ℕ → Type 0)
    (only_now : (disk : D) (c : List ℕ) → left_since disk (moment disk) c → may_leave disk c) where
  module _ (old : OpenJournal D) (settled : IsSettled reads kept may_leave old) (seq i place : ℕ) (within : i < length old.queue.rows) (number : get_or (numbers_of old.queue.rows) i 0 ≡ seq)
      (place_is : get_or old.places i 0 ≡ place) where
    gone : without seq old.queue.rows ≡ remove old.queue.rows i
    gone = without_at 0 old.queue.greatest seq old.queue.rows i settled.rising within number

    pub place_inside : place < old.queue.end
    place_inside = subst (λ (k : ℕ). k < old.queue.end) place_is (All-get_or (λ (k : ℕ). k < old.queue.end) old.places i 0 (omega (arith, within, settled.counts)) settled.inside)

    -- the record of the row in the file
    pub record Found (file : List ℕ) : Type 0 where
      pub chain : List StoredRow
      pub stands : Stands file chain old.queue old.places
      pub only : Only file (may_leave old.disk)
      pub split : Split 8 chain i
      pub here : place ≡ end_of split.before

    pub found : (file : List ℕ) → reads old.disk ≡ Some file → Found file
    found file told =
        let facts = settled.told file told in
        let stands = facts.0.1 in
        let split = split_at_row 8 facts.0.0 i (let e = ap length stands.rows in omega (arith, within, e)) in
        record {
          chain = facts.0.0;
          stands = stands;
          only = facts.1;
          split = split;
          here = sym place_is ∙ ap (λ (l : List ℕ). get_or l i 0) stands.at ∙ split.place ∙ omega arith;
        }

    abbrev Rows : List ℕ → Type 0
    Rows = HasRowsBeforeOrAfter old.queue.rows (without seq old.queue.rows)

    -- the rows of a file whose state byte is torn
    rows_torn : (file : List ℕ) (f : Found file) (c : List ℕ) → IsTorn place 1 file c → Rows c
    rows_torn file f c torn =
        ⊎_elim
        (λ same. inl (subst (RowsOfFile c) (sym f.stands.rows) same))
        (λ less. inr (subst (RowsOfFile c) (ap (λ l. remove l i) (sym f.stands.rows) ∙ sym gone) less))
        (torn_state file f.chain f.stands.bytes i f.split c (subst (λ (k : ℕ). IsTorn k 1 file c) f.here torn))

    -- what a crash may leave while the state byte is written
    pub done_crash : (new : OpenJournal D) → ((file : List ℕ) × (reads old.disk ≡ Some file)) → LeavesOnly moment left_since old.disk new.disk (After (IsTorn place 1) (may_leave old.disk))
        → Leaves reads kept may_leave moment left_since only_now old new Rows
    done_crash new tells run =
        let f = found tells.0 tells.1 in
        lifted reads kept may_leave moment left_since only_now old new _ _ run (λ c after.
        rows_torn tells.0 f c (after_only may_leave moment left_since only_now (IsTorn place 1) (may_leave old.disk) tells.0 c f.only after))

    -- the file once the row is done
    pub done_bytes : (file : List ℕ) (f : Found file) → IsQueueFile (written place (1 ∷ []) file) (changed file f.chain f.stands.bytes i f.split 1)
    done_bytes file f = subst (λ (k : ℕ). IsQueueFile (written k (1 ∷ []) file) (changed file f.chain f.stands.bytes i f.split 1)) (sym f.here) (done_file file f.chain f.stands.bytes i f.split)

    one_other : (x : ℕ) → x ≡ 1 → x ≢ 0
    one_other x one zero_x = omega (arith, one, zero_x)

    done_rows : (file : List ℕ) (f : Found file) → held_rows (changed file f.chain f.stands.bytes i f.split 1) ≡ without seq old.queue.rows
    done_rows file f = held_without 8 f.chain i f.split 1 (one_other 1 refl) ∙ ap (λ l. remove l i) (sym f.stands.rows) ∙ sym gone

    done_end : (file : List ℕ) (f : Found file) → end_of (changed file f.chain f.stands.bytes i f.split 1) ≡ old.queue.end
    done_end file f =
        let e = size_state f.split.before f.split.stored f.split.after 1 [] in
        let e' = ap (λ l. length (with_chain l [])) f.split.whole in
        omega (arith, e, e', f.stands.end)

    -- where rows are left the journal is settled again
    pub settled_done : (new : OpenJournal D) → without seq old.queue.rows ≢ [] → new.queue ≡ completed old.queue seq → new.places ≡ remove old.places i
        → reads new.disk ≡ option_map (written place (1 ∷ [])) (reads old.disk) → kept new.disk ≡ max (kept old.disk) (place + 1)
        → WhereTold (reads new.disk) (λ file. Only file (may_leave new.disk)) → IsSettled reads kept may_leave new
    settled_done new some queue places file size durable =
        let rows : new.queue.rows ≡ without seq old.queue.rows = ap (λ (q : MutationQueue). q.rows) queue in
        let end : new.queue.end ≡ old.queue.end = ap (λ (q : MutationQueue). q.end) queue ∙ end_with_some (without seq old.queue.rows) old.queue.end some in
        record {
          rising = subst (λ (q : MutationQueue). RiseBetween 0 q.greatest q.rows) (sym queue) (rise_without seq 0 old.queue.greatest old.queue.rows settled.rising);
          counts = (let e = ap length places in let e' = length-remove old.places i (omega (arith, within, settled.counts)) in let e'' = ap length (rows ∙ gone) in let e''' = length-remove old.queue.rows i within in
              omega (arith, settled.counts, e, e', e'', e'''));
          limit = (let e = ap (λ (q : MutationQueue). q.limit) queue in omega (arith, e, settled.limit));
          start = omega (arith, end, settled.start);
          end = omega (arith, end, size, settled.end);
          empty = λ none. absurd (some (sym rows ∙ none));
          inside = subst (All (λ (k : ℕ). k < new.queue.end)) (sym places) (subst (λ (e : ℕ). All (λ (k : ℕ). k < e) (remove old.places i)) (sym end)
              (All-append (λ (k : ℕ). k < old.queue.end) (take i old.places) (drop (suc i) old.places) (All-take (λ (k : ℕ). k < old.queue.end) i old.places settled.inside) (All-drop (λ (k : ℕ). k < old.queue.end) (suc i) old.places settled.inside)));
          told = λ file' told'.
              let was = map_some _ (reads old.disk) file' (sym file ∙ told') in
              let f = found was.0 was.1 in
              let chain = changed was.0 f.chain f.stands.bytes i f.split 1 in (
                (
                  chain,
                  record {
                    bytes = subst (λ l. IsQueueFile l chain) (sym was.2) (done_bytes was.0 f);
                    rows = rows ∙ sym (done_rows was.0 f);
                    end = end ∙ sym (done_end was.0 f);
                    greatest = (let e = last_state 0 f.split.before f.split.stored f.split.after 1 in let e' = ap (last_number 0) f.split.whole in let e'' = ap (λ (q : MutationQueue). q.greatest) queue in omega (arith, e, e', e'', f.stands.greatest));
                    at = places ∙ ap (λ l. remove l i) f.stands.at ∙ sym (places_without 8 f.chain i f.split 1 (one_other 1 refl));
                  },
                ),
                durable file' told',
              );
        }

    -- where none is left the chain is closed and cut off
    pub last_crash : (mid new : OpenJournal D) → without seq old.queue.rows ≡ [] → ((file : List ℕ) × (reads old.disk ≡ Some file))
        → LeavesOnly moment left_since old.disk mid.disk (After (IsTorn place 1) (may_leave old.disk))
        → reads mid.disk ≡ option_map (written place (1 ∷ [])) (reads old.disk)
        → WhereTold (reads mid.disk) (λ file. Only file (may_leave mid.disk))
        → WhereTold (reads mid.disk) (λ file. Only file (may_leave mid.disk) → LeavesOnly moment left_since mid.disk new.disk (λ c. IsTorn 8 1 file c ⊎ IsCutOrWhole 9 (written 8 (0 ∷ []) file) c))
        → Leaves reads kept may_leave moment left_since only_now old new Rows
    last_crash mid new none tells run file durable close =
        let f = found tells.0 tells.1 in
        let chain = changed tells.0 f.chain f.stands.bytes i f.split 1 in
        let later = written place (1 ∷ []) tells.0 in
        let told : reads mid.disk ≡ Some later = file ∙ ap (option_map (written place (1 ∷ []))) tells.1 in
        let closing = closes later chain (done_bytes tells.0 f) (done_rows tells.0 f ∙ none) (end_nonempty f.split.before (with_state f.split.stored 1) f.split.after) in
        lifted reads kept may_leave moment left_since only_now old new
        (λ c. After (IsTorn place 1) (may_leave old.disk) c ⊎ (IsTorn 8 1 later c ⊎ IsCutOrWhole 9 (written 8 (0 ∷ []) later) c)) _
        (joined moment left_since old.disk mid.disk new.disk _ _ _ run (close later told (durable later told)) (λ c h. inl h) (λ c h. inr h))
        (λ c h. ⊎_elim
        (λ after. rows_torn tells.0 f c (after_only may_leave moment left_since only_now (IsTorn place 1) (may_leave old.disk) tells.0 c f.only after))
        (λ closing_up. inr (subst (RowsOfFile c) (sym none) (closing.0 c closing_up)))
        h)

    pub settled_last : (mid new : OpenJournal D) → without seq old.queue.rows ≡ [] → new.queue ≡ completed old.queue seq → new.places ≡ remove old.places i
        → reads mid.disk ≡ option_map (written place (1 ∷ [])) (reads old.disk)
        → reads new.disk ≡ option_map (λ file. take 9 (written 8 (0 ∷ []) file)) (reads mid.disk) → kept new.disk ≡ 9
        → WhereTold (reads new.disk) (λ file. Only file (may_leave new.disk)) → IsSettled reads kept may_leave new
    settled_last mid new none queue places file cut size durable =
        let rows : new.queue.rows ≡ [] = ap (λ (q : MutationQueue). q.rows) queue ∙ none in
        let end : new.queue.end ≡ 9 = ap (λ (q : MutationQueue). q.end) queue ∙ ap (λ l. end_with l old.queue.end) none in
        let nowhere : length new.places ≡ 0 =
        (let e = ap length places in let e' = length-remove old.places i (omega (arith, within, settled.counts)) in let e'' = ap length (sym none ∙ gone) in let e''' = length-remove old.queue.rows i within in
        omega (arith, settled.counts, e, e', e'', e''')) in
        settled_empty reads kept may_leave moment left_since only_now new rows end
        (let e = ap (λ (q : MutationQueue). q.limit) queue in omega (arith, e, settled.limit))
        nowhere (omega (arith, size))
        (λ file' told'.
        let before = map_some (λ file. take 9 (written 8 (0 ∷ []) file)) (reads mid.disk) file' (sym cut ∙ told') in
        let was = map_some (written place (1 ∷ [])) (reads old.disk) before.0 (sym file ∙ before.1) in
        let f = found was.0 was.1 in
        let chain = changed was.0 f.chain f.stands.bytes i f.split 1 in
        let closing = closes (written place (1 ∷ []) was.0) chain (done_bytes was.0 f) (done_rows was.0 f ∙ none) (end_nonempty f.split.before (with_state f.split.stored 1) f.split.after) in
        (([], 0, (λ same. omega (arith, same)), before.2 ∙ ap (λ l. take 9 (written 8 (0 ∷ []) l)) was.2 ∙ closing.1), durable file' told'))
