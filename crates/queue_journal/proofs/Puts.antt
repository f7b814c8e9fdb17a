-- What a put does to a settled journal.
use Rattle.std.proofs.Common.{◌≡◌, ◌⊎◌, inl, inr, ⊎_elim, ℕ, ◌+◌, ◌-◌, ◌<◌, ◌≤◌, max, List, [], ◌∷◌, ◌++◌, length, Option, Some, refl, sym, ◌∙◌, ap, subst, arith, length-append, option_map, IsUtf8}
use Rattle.std.specs.List.{All}
use Rattle.std.proofs.lemmas.List.Elements.{All-push, All-weaker}
use Rattle.fault_causes.specs.Crash.{Only, LeavesOnly}
use Rattle.gate_outside.specs.Disk.{IsTorn, written}
use Rattle.queue_model.specs.Queue.{MutationQueue, need_of, queued, HasNumber, HasRoom, RiseBetween}
use Rattle.queue_model.specs.QueueFile.{StoredRow, with_record, with_chain, last_number, end_of, RowsOfFile, IsQueueFile}
use Rattle.queue_model.proofs.Chains.{length-with_record}
use Rattle.queue_model.proofs.Rises.{rise_push}
use Rattle.offline_queue.specs.Keeper.{HasRowsBeforeOrAfter}
use Rattle.queue_journal.specs.Journal.{OpenJournal, IsSettled, held_record, state_places}
use Rattle.queue_journal.specs.Steps.{WhereTold}
use Rattle.queue_journal.proofs.Chains.{Follows, held_append, places_append, places_first, last_push, with_chain_more, with_chain_append}
use Rattle.queue_journal.proofs.Images.{torn_record, torn_commit, put_file}
use Rattle.queue_journal.proofs.Kept.{Leaves, lifted, map_some}

-- the texts can stand in a record of a queue with number and room
abbrev pub CanFollow : MutationQueue → List ℕ → List ℕ → List ℕ → Type 0
CanFollow queue document operation variables =
    HasNumber queue × HasRoom queue (need_of document operation variables) × IsUtf8 document × IsUtf8 operation × IsUtf8 variables

-- the end of a chain with one more record
pub end_push : (chain : List StoredRow) (s : StoredRow) → end_of (chain ++ s ∷ []) ≡ end_of chain + need_of s.row.document s.row.operation s.row.variables
end_push chain s =
    let more = ap length (with_chain_more chain (s ∷ []) []) in
    let split = ap length (with_chain_append chain [] (with_chain (s ∷ []) [])) in
    let sizes = length-append (with_chain chain []) (with_chain (s ∷ []) []) in
    let one = length-with_record s [] in
    omega arith

module _ (queue : MutationQueue) (document operation variables : List ℕ) where
  abbrev stored : StoredRow
  stored = held_record (queue.greatest + 1) document operation variables

  follows : queue.limit ≤ 67108864 → CanFollow queue document operation variables → (low : ℕ) → low ≤ queue.greatest → Follows low stored
  follows limit can low le = (omega (arith, le), can.0, (can.2, omega (arith, can.1, limit)), (can.3, omega (arith, can.1, limit)), (can.4, omega (arith, can.1, limit)))

module _ {D : Type 0} (reads : D → Option (List ℕ)) (kept : D → ℕ) (may_leave : D → List ℕ → Type 0) (moment : D → ℕ) (left_since : D → ℕ → List ℕ → Type 0)
    (only_now : (disk : D) (c : List ℕ) → left_since disk (moment disk) c → may_leave disk c) where
  module _ (old new : OpenJournal D) (document operation variables bytes : List ℕ) (settled : IsSettled reads kept may_leave old) (can : CanFollow old.queue document operation variables)
      (spelled : bytes ≡ with_record (stored old.queue document operation variables) (0 ∷ [])) where
    abbrev s : StoredRow
    s = stored old.queue document operation variables

    -- the rows that a crash may leave while the record is written, and while its commit byte is
    pub put_crash : ((file : List ℕ) × (reads old.disk ≡ Some file))
        → WhereTold (reads old.disk) (λ file. Only file (may_leave old.disk) → LeavesOnly moment left_since old.disk new.disk
        (λ c. IsTorn old.queue.end (length bytes) file c ⊎ IsTorn (old.queue.end - 1) 1 (written old.queue.end bytes file) c))
        → Leaves reads kept may_leave moment left_since only_now old new (HasRowsBeforeOrAfter old.queue.rows (queued old.queue document operation variables).rows)
    put_crash tells run =
        let file = tells.0 in
        let told = settled.told file tells.1 in
        let chain = told.0.0 in
        let stands = told.0.1 in
        let next = follows old.queue document operation variables settled.limit can (last_number 0 chain) stands.greatest in
        let before : (c : List ℕ) → IsQueueFile c chain → RowsOfFile c old.queue.rows = λ c is. inr (chain, is, stands.rows) in
        let after : (c : List ℕ) → IsQueueFile c (chain ++ s ∷ []) → RowsOfFile c (old.queue.rows ++ s.row ∷ []) =
        λ c is. inr (chain ++ s ∷ [], is, ap (λ l. l ++ s.row ∷ []) stands.rows ∙ sym (held_append chain (s ∷ []))) in
        lifted reads kept may_leave moment left_since only_now old new _ _ (run file tells.1 told.1) (λ c torn. ⊎_elim
        (λ behind. inl (before c (torn_record file chain stands.bytes (length bytes) c (subst (λ (k : ℕ). IsTorn k (length bytes) file c) stands.end behind))))
        (λ commit.
        let at_end = subst (λ (k : ℕ). IsTorn (k - 1) 1 (written k bytes file) c) stands.end commit in
        let spelled_out = subst (λ (l : List ℕ). IsTorn (end_of chain - 1) 1 (written (end_of chain) l file) c) spelled at_end in
        ⊎_elim (λ is. inl (before c is)) (λ is. inr (after c is)) (torn_commit file chain stands.bytes s next c spelled_out))
        torn)

    -- the journal is settled again
    pub settled_put : new.queue ≡ queued old.queue document operation variables → new.places ≡ old.places ++ old.queue.end ∷ []
        → reads new.disk ≡ option_map (λ file. written (old.queue.end - 1) (1 ∷ []) (written old.queue.end bytes file)) (reads old.disk)
        → kept new.disk ≡ max (kept old.disk) (old.queue.end + length bytes)
        → WhereTold (reads new.disk) (λ file. Only file (may_leave new.disk)) → IsSettled reads kept may_leave new
    settled_put queue places file size durable =
        let need = need_of document operation variables in
        let long : length bytes ≡ need = ap length spelled ∙ (let e = length-with_record s (0 ∷ []) in omega arith) in
        let ends : new.queue.end ≡ old.queue.end + need = ap (λ (q : MutationQueue). q.end) queue in
        let rows : new.queue.rows ≡ old.queue.rows ++ s.row ∷ [] = ap (λ (q : MutationQueue). q.rows) queue in
        record {
          rising = subst (λ (q : MutationQueue). RiseBetween 0 q.greatest q.rows) (sym queue) (rise_push 0 old.queue.greatest old.queue.rows s.row settled.rising (omega arith));
          counts = ap length places ∙ (let e = length-append old.places (old.queue.end ∷ []) in let e' = length-append old.queue.rows (s.row ∷ []) in let e'' = ap length rows in omega (arith, settled.counts, e, e', e''));
          limit = (let e = ap (λ (q : MutationQueue). q.limit) queue in omega (arith, e, settled.limit));
          start = omega (arith, ends, settled.start);
          end = omega (arith, ends, size, long, settled.end);
          empty = λ none. (let e = ap length rows in let e' = length-append old.queue.rows (s.row ∷ []) in let e'' = ap length none in absurd (omega (arith, e, e', e'')));
          inside = subst (All (λ (place : ℕ). place < new.queue.end)) (sym places) (All-push (λ (place : ℕ). place < new.queue.end) old.places old.queue.end
              (All-weaker (λ (place : ℕ). place < old.queue.end) (λ (place : ℕ). place < new.queue.end) (λ place below. omega (arith, below, ends)) old.places settled.inside) (omega (arith, ends)));
          told = λ file' told'.
              let was = map_some _ (reads old.disk) file' (sym file ∙ told') in
              let told = settled.told was.0 was.1 in
              let chain = told.0.0 in
              let stands = told.0.1 in
              let next = follows old.queue document operation variables settled.limit can (last_number 0 chain) stands.greatest in
              let is = put_file was.0 chain stands.bytes s next in
              let same : file' ≡ written (end_of chain - 1) (1 ∷ []) (written (end_of chain) (with_record s (0 ∷ [])) was.0) =
              was.2 ∙ ap (λ (k : ℕ). written (k - 1) (1 ∷ []) (written k bytes was.0)) stands.end ∙ ap (λ (l : List ℕ). written (end_of chain - 1) (1 ∷ []) (written (end_of chain) l was.0)) spelled in (
                (
                  chain ++ s ∷ [],
                  record {
                    bytes = subst (λ f. IsQueueFile f (chain ++ s ∷ [])) (sym same) is;
                    rows = rows ∙ ap (λ l. l ++ s.row ∷ []) stands.rows ∙ sym (held_append chain (s ∷ []));
                    end = ends ∙ ap (λ (k : ℕ). k + need) stands.end ∙ sym (end_push chain s);
                    greatest = (let e = last_push 0 chain s in let e' = ap (λ (q : MutationQueue). q.greatest) queue in omega (arith, e, e'));
                    at = places ∙ ap (λ l. l ++ old.queue.end ∷ []) stands.at ∙ (let e : old.queue.end ≡ 8 + length (with_chain chain []) + 1 = omega (arith, stands.end) in ap (λ (k : ℕ). state_places 8 chain ++ k ∷ []) e)
                        ∙ sym (places_append 8 chain (s ∷ []) ∙ ap (λ l. state_places 8 chain ++ l) (places_first (8 + length (with_chain chain [])) s [] refl));
                  },
                ),
                durable file' told',
              );
        }

    -- the same, where the call names the disk and the end in another way
    module _ (disk : D) (end : ℕ) (disk_is : disk ≡ old.disk) (end_is : end ≡ old.queue.end) where
      pub put_crash_at : ((file : List ℕ) × (reads old.disk ≡ Some file))
          → WhereTold (reads disk) (λ file. Only file (may_leave disk) → LeavesOnly moment left_since disk new.disk
          (λ c. IsTorn end (length bytes) file c ⊎ IsTorn (end - 1) 1 (written end bytes file) c))
          → Leaves reads kept may_leave moment left_since only_now old new (HasRowsBeforeOrAfter old.queue.rows (queued old.queue document operation variables).rows)
      put_crash_at tells run =
          let at_disk = subst (λ (d : D). WhereTold (reads d) (λ file. Only file (may_leave d) → LeavesOnly moment left_since d new.disk
          (λ c. IsTorn end (length bytes) file c ⊎ IsTorn (end - 1) 1 (written end bytes file) c))) disk_is run in
          put_crash tells (subst (λ (k : ℕ). WhereTold (reads old.disk) (λ file. Only file (may_leave old.disk) → LeavesOnly moment left_since old.disk new.disk
          (λ c. IsTorn k (length bytes) file c ⊎ IsTorn (k - 1) 1 (written k bytes file) c))) end_is at_disk)

      pub settled_put_at : new.queue ≡ queued old.queue document operation variables → new.places ≡ old.places ++ old.queue.end ∷ []
          → reads new.disk ≡ option_map (λ file. written (end - 1) (1 ∷ []) (written end bytes file)) (reads disk)
          → kept new.disk ≡ max (kept disk) (end + length bytes)
          → WhereTold (reads new.disk) (λ file. Only file (may_leave new.disk)) → IsSettled reads kept may_leave new
      settled_put_at queue places file size durable =
          settled_put queue places
          (file ∙ ap (λ (d : D). option_map (λ f. written (end - 1) (1 ∷ []) (written end bytes f)) (reads d)) disk_is
          ∙ ap (λ (k : ℕ). option_map (λ f. written (k - 1) (1 ∷ []) (written k bytes f)) (reads old.disk)) end_is)
          (size ∙ ap (λ (d : D). max (kept d) (end + length bytes)) disk_is ∙ ap (λ (k : ℕ). max (kept old.disk) (k + length bytes)) end_is)
          durable
