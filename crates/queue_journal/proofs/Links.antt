-- One link more of a record chain.
use Rattle.std.proofs.Common.{◌≡◌, ◌≢◌, ℕ, ◌+◌, ◌<◌, ◌≤◌, List, [], ◌∷◌, ◌++◌, length, get_or, take, drop, refl, sym, ◌∙◌, ap, subst, arith, Err, true, false, length-drop, length-append, take-append-drop, inl, inr}
use Rattle.std.specs.Prelude.{◌==◌}
use Rattle.std.specs.List.{All}
use Rattle.std.proofs.lemmas.List.{drop_all, drop-drop}
use Rattle.std.proofs.lemmas.List.Elements.{All-push, All-weaker}
use Rattle.std.proofs.lemmas.Bool.{cases_eq}
use Rattle.std.proofs.lemmas.Bool.Decides.{nat_tests}
use Rattle.queue_model.specs.declared.row.Row.{Row}
use Rattle.queue_model.specs.Queue.{RiseBetween}
use Rattle.queue_model.proofs.Rises.{rise_push, rise_to_higher}
use Rattle.queue_model.specs.QueueFile.{magic, StoredRow, with_record, with_chain, held_rows, last_number, AreInOrder, IsQueueFile}
use Rattle.queue_model.proofs.Chains.{goes_on_behind, length-with_record}
use Rattle.queue_journal.specs.declared.error.OpenError.{OpenError}
use Rattle.queue_journal.specs.declared.error.OpenError.TheVariants.{Memory, NotAJournal, Failed}
use Rattle.queue_journal.specs.declared.found.RecordAt.{RecordAt}
use Rattle.queue_journal.specs.declared.found.ChainSoFar.{ChainSoFar}
use Rattle.queue_journal.specs.Journal.{state_places}
use Rattle.queue_journal.specs.Reading.{IsSound, ReadsCommit, IsRead, AddsRecord, ReadsRecord, ReadsLink, IsNoQueueFile, CanStand, stored_of}
use Rattle.queue_journal.proofs.Chains.{order_push, last_push, held_append, places_append, with_chain_more}
use Rattle.queue_journal.proofs.Puts.{end_push}

-- a record in the middle of a chain can follow what stands before it
order_middle : (low : ℕ) (before : List StoredRow) (s : StoredRow) (after : List StoredRow) → AreInOrder low (before ++ s ∷ after) → CanStand (last_number low before) s
order_middle low [] s after order = (order.0, order.1, order.2, order.3, order.4)
order_middle low (t ∷ before) s after order = order_middle t.row.seq before s after order.5

module _ (file : List ℕ) (records : List StoredRow) (old : ChainSoFar) (read : IsRead file records old) where
  -- how a queue file would go on
  go_on : (whole : List StoredRow) (is : IsQueueFile file whole) → (more : List StoredRow) × (whole ≡ records ++ more) × (drop old.commit file ≡ with_chain more (is.commit ∷ is.remainder))
  go_on whole is = goes_on_behind records whole 0 0 is.commit (drop old.commit file) is.remainder is.closed read.order is.order (ap (drop 8) (sym read.bytes ∙ is.bytes))

  nothing_left : drop old.commit file ≡ [] → (more : List StoredRow) (x : ℕ) (rest : List ℕ) → drop old.commit file ≡ with_chain more (x ∷ rest) → ⊥
  nothing_left none [] x rest is = let differs : [] ≡ x ∷ rest = sym none ∙ is in cc
  nothing_left none (s ∷ more) x rest is = let differs : [] ≡ 1 ∷ with_record s (with_chain more (x ∷ rest)) = sym none ∙ is in cc

  -- the file ends before the next commit byte
  pub no_commit : length file ≤ old.commit → IsNoQueueFile file
  no_commit short whole is =
      let next = go_on whole is in
      nothing_left (drop_all old.commit file short) next.0 is.commit is.remainder next.2

  -- a closed commit byte ends the chain
  pub closed_here : (x : ℕ) → x ≢ 1 → drop old.commit file ≡ x ∷ drop (old.commit + 1) file → IsQueueFile file records
  closed_here x shut here = record {
    commit = x;
    remainder = drop (old.commit + 1) file;
    bytes = read.bytes ∙ ap (λ l. magic ++ with_chain records l) here;
    closed = shut;
    order = read.order;
  }

  module _ (opened : drop old.commit file ≡ 1 ∷ drop (old.commit + 1) file) where
    no_next : ((s : StoredRow) (rest : List ℕ) → CanStand old.greatest s → drop (old.commit + 1) file ≢ with_record s rest)
        → (more : List StoredRow) (x : ℕ) (rest : List ℕ) → x ≢ 1 → AreInOrder 0 (records ++ more) → drop old.commit file ≡ with_chain more (x ∷ rest) → ⊥
    no_next none [] x rest shut order is = let same : 1 ≡ x = let both : 1 ∷ drop (old.commit + 1) file ≡ x ∷ rest = sym opened ∙ is in cc in shut (sym same)
    no_next none (s ∷ more) x rest shut order is =
        none s (with_chain more (x ∷ rest)) (subst (λ (n : ℕ). CanStand n s) (sym read.last) (order_middle 0 records s more order)) (ap (drop 1) (sym opened ∙ is))

    -- no record stands behind an open commit byte
    pub no_record : (new : ChainSoFar) (error : OpenError) → ReadsRecord file (old.commit + 1) old.greatest (Err error) → ReadsLink file records new (Err error)
    no_record new Memory none = tt
    no_record new Failed none = tt
    no_record new NotAJournal none = λ whole is.
        let next = go_on whole is in
        no_next none next.0 is.commit is.remainder is.closed (subst (AreInOrder 0) next.1 is.order) next.2

    -- a record stands there
    pub one_more : (new : ChainSoFar) (found : RecordAt) → found.end ≤ length file → CanStand old.greatest (stored_of found) → drop (old.commit + 1) file ≡ with_record (stored_of found) (drop found.end file)
        → AddsRecord old new found → IsRead file (records ++ stored_of found ∷ []) new
    one_more new found within can here adds =
        let s : StoredRow = stored_of found in
        let size = ap length here in
        let long = length-with_record s (drop found.end file) in
        let left = length-drop (old.commit + 1) file in
        let left' = length-drop found.end file in
        let end = end_push records s in
        let place : old.commit ≡ 8 + length (with_chain records []) = omega (arith, read.behind) in
        record {
          bytes = read.bytes ∙ ap (λ l. magic ++ with_chain records l) (opened ∙ ap (λ l. 1 ∷ l) here) ∙ ap (λ l. magic ++ l) (sym (with_chain_more records (s ∷ []) (drop found.end file)))
              ∙ ap (λ (n : ℕ). magic ++ with_chain (records ++ s ∷ []) (drop n file)) (sym adds.commit);
          order = order_push 0 records s read.order (subst (λ (n : ℕ). CanStand n s) read.last can);
          held = adds.rows ∙ ap (λ l. l ++ held_rows (s ∷ [])) read.held ∙ sym (held_append records (s ∷ []));
          at = adds.places ∙ ap (λ l. l ++ state_places old.commit (s ∷ [])) read.at ∙ ap (λ (n : ℕ). state_places 8 records ++ state_places n (s ∷ [])) place ∙ sym (places_append 8 records (s ∷ []));
          last = adds.greatest ∙ sym (last_push 0 records s);
          behind = omega (arith, adds.commit, size, long, left, left', end, read.behind, within);
        }

-- before the first record
pub none_yet : (file : List ℕ) (new : ChainSoFar) → take 8 file ≡ magic → new.rows.items ≡ [] → new.places.items ≡ [] → new.commit ≡ 8 → new.greatest ≡ 0 → IsRead file [] new
none_yet file new begins rows places commit greatest = record {
  bytes = sym (take-append-drop 8 file) ∙ ap (λ l. l ++ drop 8 file) begins ∙ ap (λ (n : ℕ). magic ++ drop n file) (sym commit);
  order = tt;
  held = rows;
  at = places;
  last = greatest;
  behind = omega (arith, commit);
}

pub no_magic : (file : List ℕ) → (take 8 file ≡ magic → ⊥) → IsNoQueueFile file
no_magic file none chain is = none (ap (take 8) is.bytes)

-- the commit byte that was read
pub commit_read : (file : List ℕ) (at byte : ℕ) → byte ∷ [] ≡ take 1 (drop at file) → ReadsCommit file at (byte == 1)
commit_read file at byte is =
    let here : drop at file ≡ byte ∷ drop (at + 1) file = sym (take-append-drop 1 (drop at file)) ∙ ap (λ l. l ++ drop 1 (drop at file)) (sym is) ∙ ap (λ l. byte ∷ l) (drop-drop 1 at file) in
    elim (cases_eq byte 1) [
      | inl same ↦ let yes : (byte == 1) ≡ true = grind (arith, nat_tests) in rw yes (here ∙ ap (λ (x : ℕ). x ∷ drop (at + 1) file) same)
      | inr other ↦ let no : (byte == 1) ≡ false = grind (arith, nat_tests) in rw no (byte, other, here)
    ]

-- what a record adds keeps the rows in order and their places within
pub sound_more : (old new : ChainSoFar) (row : Row) (place : ℕ) → IsSound old → old.greatest < row.seq → old.commit < place → place < new.commit
    → new.rows.items ≡ old.rows.items ++ row ∷ [] → new.places.items ≡ old.places.items ++ place ∷ [] → new.greatest ≡ row.seq → IsSound new
sound_more old new row place sound above behind before rows places greatest = record {
  rising = subst (λ (n : ℕ). RiseBetween 0 n new.rows.items) (sym greatest) (subst (RiseBetween 0 row.seq) (sym rows) (rise_push 0 old.greatest old.rows.items row sound.rising above));
  counts = (let e = ap length rows in let e' = ap length places in let e'' = length-append old.rows.items (row ∷ []) in let e''' = length-append old.places.items (place ∷ []) in omega (arith, e, e', e'', e''', sound.counts));
  start = omega (arith, sound.start, behind, before);
  inside = subst (All (λ (k : ℕ). k < new.commit)) (sym places) (All-push (λ (k : ℕ). k < new.commit) old.places.items place
      (All-weaker (λ (k : ℕ). k < old.commit) (λ (k : ℕ). k < new.commit) (λ k below. omega (arith, below, behind, before)) old.places.items sound.inside) before);
}

pub sound_same : (old new : ChainSoFar) → IsSound old → old.greatest ≤ new.greatest → old.commit ≤ new.commit → new.rows.items ≡ old.rows.items → new.places.items ≡ old.places.items → IsSound new
sound_same old new sound higher later rows places = record {
  rising = subst (RiseBetween 0 new.greatest) (sym rows) (rise_to_higher 0 old.greatest new.greatest old.rows.items higher sound.rising);
  counts = (let e = ap length rows in let e' = ap length places in omega (arith, e, e', sound.counts));
  start = omega (arith, sound.start, later);
  inside = subst (All (λ (k : ℕ). k < new.commit)) (sym places) (All-weaker (λ (k : ℕ). k < old.commit) (λ (k : ℕ). k < new.commit) (λ k below. omega (arith, below, later)) old.places.items sound.inside);
}

pub one_item : (s : List ℕ) → length s ≡ 1 → get_or s 0 0 ∷ [] ≡ s
one_item [] is = absurd (omega arith)
one_item (x ∷ []) is = refl
one_item (x ∷ y ∷ s) is = absurd (omega arith)
