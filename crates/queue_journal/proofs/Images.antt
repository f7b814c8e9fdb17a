-- What a crash leaves of a queue file in each step of a call, and what the call leaves.
use Rattle.std.proofs.Common.{◌≡◌, ◌≢◌, ◌⊎◌, inl, inr, ⊎_elim, ℕ, ◌+◌, ◌-◌, ◌≤◌, List, [], ◌∷◌, ◌++◌, length, take, drop, refl, sym, ◌∙◌, ap, subst, arith, append_assoc, length-append}
use Rattle.std.proofs.lemmas.List.{drop_all}
use Rattle.std.proofs.lemmas.Bool.{cases_eq}
use Rattle.std.specs.List.{remove}
use Rattle.gate_outside.specs.Disk.{IsTorn, IsCutOrWhole, written}
use Rattle.queue_model.specs.QueueFile.{magic, StoredRow, with_record, with_chain, held_rows, last_number, end_of, AreInOrder, IsQueueFile, RowsOfFile}
use Rattle.queue_journal.proofs.OneByte.{torn_one, written_one, torn_behind, written_behind}
use Rattle.queue_journal.proofs.Chains.{front, split_file, length-front, with_record_append, with_chain_more, Follows, order_push, order_state, with_state, Split, held_same, held_without}

-- a byte that isn't 1 behind a chain closes it
pub closed_file : (chain : List StoredRow) (x : ℕ) (rest : List ℕ) → AreInOrder 0 chain → x ≢ 1 → IsQueueFile (front chain ++ x ∷ rest) chain
closed_file chain x rest order shut = record { commit = x; remainder = rest; bytes = sym (split_file chain (x ∷ rest)); closed = shut; order = order }

module _ (file : List ℕ) (chain : List StoredRow) (is : IsQueueFile file chain) where
  parts : file ≡ front chain ++ is.commit ∷ is.remainder
  parts = is.bytes ∙ split_file chain (is.commit ∷ is.remainder)

  place : end_of chain ≡ length (front chain) + 1
  place = sym (length-front chain)

  -- a write behind the end that a crash cuts short
  pub torn_record : (n : ℕ) (c : List ℕ) → IsTorn (end_of chain) n file c → IsQueueFile c chain
  torn_record n c torn =
      let at = subst (λ (k : ℕ). IsTorn k n file c) place torn in
      let image = torn_behind (front chain) is.commit is.remainder n c (subst (λ f. IsTorn (length (front chain) + 1) n f c) parts at) in
      subst (λ f. IsQueueFile f chain) (sym image.1) (closed_file chain is.commit image.0 is.order is.closed)

  module _ (s : StoredRow) (next : Follows (last_number 0 chain) s) where
    abbrev bytes : List ℕ
    bytes = with_record s (0 ∷ [])

    -- the file with the record behind its end
    pub staged : (rest : List ℕ) × (written (end_of chain) bytes file ≡ front chain ++ is.commit ∷ (bytes ++ rest))
    staged =
        let behind = written_behind (front chain) is.commit is.remainder bytes in
        (behind.0, ap (λ (k : ℕ). written k bytes file) place ∙ ap (written (length (front chain) + 1) bytes) parts ∙ behind.1)

    committed : (rest : List ℕ) → IsQueueFile (front chain ++ 1 ∷ (bytes ++ rest)) (chain ++ s ∷ [])
    committed rest = record {
      commit = 0;
      remainder = rest;
      bytes = ap (λ l. front chain ++ 1 ∷ l) (sym (with_record_append s (0 ∷ []) rest)) ∙ sym (split_file chain (1 ∷ with_record s (0 ∷ rest)))
          ∙ ap (λ l. magic ++ l) (sym (with_chain_more chain (s ∷ []) (0 ∷ rest)));
      closed = λ same. omega (arith, same);
      order = order_push 0 chain s is.order next;
    }

    before : end_of chain - 1 ≡ length (front chain)
    before = omega (arith, place)

    -- the commit byte torn: the chain goes on with the record, or it doesn't
    pub torn_commit : (c : List ℕ) → IsTorn (end_of chain - 1) 1 (written (end_of chain) bytes file) c → IsQueueFile c chain ⊎ IsQueueFile c (chain ++ s ∷ [])
    torn_commit c torn =
        let at = subst (λ (k : ℕ). IsTorn k 1 (written (end_of chain) bytes file) c) before torn in
        let image = torn_one (front chain) is.commit (bytes ++ staged.0) c (subst (λ f. IsTorn (length (front chain)) 1 f c) staged.1 at) in
        elim (cases_eq image.0 1) [
          | inl opened ↦ inr (subst (λ f. IsQueueFile f (chain ++ s ∷ [])) (sym (image.1 ∙ ap (λ (x : ℕ). front chain ++ x ∷ (bytes ++ staged.0)) opened)) (committed staged.0))
          | inr shut ↦ inl (subst (λ f. IsQueueFile f chain) (sym image.1) (closed_file chain image.0 (bytes ++ staged.0) is.order shut))
        ]

    pub put_file : IsQueueFile (written (end_of chain - 1) (1 ∷ []) (written (end_of chain) bytes file)) (chain ++ s ∷ [])
    put_file =
        let same = ap (λ (k : ℕ). written k (1 ∷ []) (written (end_of chain) bytes file)) before ∙ ap (written (length (front chain)) (1 ∷ [])) staged.1
        ∙ written_one (front chain) is.commit (bytes ++ staged.0) 1 in
        subst (λ f. IsQueueFile f (chain ++ s ∷ [])) (sym same) (committed staged.0)

  module _ (i : ℕ) (split : Split 8 chain i) where
    abbrev ahead : List ℕ
    ahead = front split.before ++ 1 ∷ []

    pub tail : List ℕ
    tail = drop 1 (with_record split.stored (with_chain split.after (is.commit ∷ is.remainder)))

    unfold_tail : (x : ℕ) → with_record (with_state split.stored x) (with_chain split.after (is.commit ∷ is.remainder)) ≡ x ∷ tail
    unfolding tail
    unfold_tail x = refl

    abbrev pub changed : ℕ → List StoredRow
    changed x = split.before ++ with_state split.stored x ∷ split.after

    spelled : (x : ℕ) → magic ++ with_chain (changed x) (is.commit ∷ is.remainder) ≡ ahead ++ x ∷ tail
    spelled x =
        ap (λ l. magic ++ l) (with_chain_more split.before (with_state split.stored x ∷ split.after) (is.commit ∷ is.remainder))
        ∙ split_file split.before (1 ∷ with_record (with_state split.stored x) (with_chain split.after (is.commit ∷ is.remainder)))
        ∙ ap (λ l. front split.before ++ 1 ∷ l) (unfold_tail x) ∙ sym (append_assoc (front split.before) (1 ∷ []) (x ∷ tail))

    pub state_file : (x : ℕ) → IsQueueFile (ahead ++ x ∷ tail) (changed x)
    state_file x = record {
      commit = is.commit;
      remainder = is.remainder;
      bytes = sym (spelled x);
      closed = is.closed;
      order = order_state 0 split.before split.stored split.after x (subst (AreInOrder 0) split.whole is.order);
    }

    here : chain ≡ changed 0
    here = split.whole ∙ ap (λ (x : ℕ). split.before ++ with_state split.stored x ∷ split.after) split.is_held

    file_here : file ≡ ahead ++ 0 ∷ tail
    file_here = is.bytes ∙ ap (λ l. magic ++ with_chain l (is.commit ∷ is.remainder)) here ∙ spelled 0

    length-ahead : length ahead ≡ end_of split.before
    length-ahead = let e = length-append (front split.before) (1 ∷ []) in let e' = length-front split.before in omega arith

    -- the state byte torn: the row is held as before, or it is done
    pub torn_state : (c : List ℕ) → IsTorn (end_of split.before) 1 file c → RowsOfFile c (held_rows chain) ⊎ RowsOfFile c (remove (held_rows chain) i)
    torn_state c torn =
        let at = subst (λ (k : ℕ). IsTorn k 1 file c) (sym length-ahead) torn in
        let image = torn_one ahead 0 tail c (subst (λ f. IsTorn (length ahead) 1 f c) file_here at) in
        let is' = subst (λ f. IsQueueFile f (changed image.0)) (sym image.1) (state_file image.0) in
        elim (cases_eq image.0 0) [
          | inl same ↦ inl (inr (changed image.0, is', sym (held_same 8 chain i split) ∙ ap (λ (x : ℕ). held_rows (split.before ++ with_state split.stored x ∷ split.after)) (sym same)))
          | inr other ↦ inr (inr (changed image.0, is', sym (held_without 8 chain i split image.0 other)))
        ]

    pub done_file : IsQueueFile (written (end_of split.before) (1 ∷ []) file) (changed 1)
    done_file =
        let same = ap (λ (k : ℕ). written k (1 ∷ []) file) (sym length-ahead) ∙ ap (written (length ahead) (1 ∷ [])) file_here ∙ written_one ahead 0 tail 1 in
        subst (λ f. IsQueueFile f (changed 1)) (sym same) (state_file 1)

-- a file that begins with the magic and a closed commit byte has no record
pub empty_chain : (x : ℕ) (rest : List ℕ) → x ≢ 1 → IsQueueFile (magic ++ x ∷ rest) []
empty_chain x rest shut = record { commit = x; remainder = rest; bytes = refl; closed = shut; order = tt }

pub no_rows : (c : List ℕ) → IsQueueFile c [] → RowsOfFile c []
no_rows c is = inr ([], is, refl)

-- the first commit byte is closed while no row is held
module _ (file : List ℕ) (s : StoredRow) (more : List StoredRow) (is : IsQueueFile file (s ∷ more)) (none : held_rows (s ∷ more) ≡ []) where
  abbrev records : List ℕ
  records = with_record s (with_chain more (is.commit ∷ is.remainder))

  pub torn_close : (c : List ℕ) → IsTorn 8 1 file c → RowsOfFile c []
  torn_close c torn =
      let image = torn_one magic 1 records c (subst (λ f. IsTorn 8 1 f c) is.bytes torn) in
      elim (cases_eq image.0 1) [
        | inl same ↦
            let whole : c ≡ file = image.1 ∙ ap (λ (x : ℕ). magic ++ x ∷ records) same ∙ sym is.bytes in
            inr (s ∷ more, subst (λ f. IsQueueFile f (s ∷ more)) (sym whole) is, sym none)
        | inr shut ↦ no_rows c (subst (λ f. IsQueueFile f []) (sym image.1) (empty_chain image.0 records shut))
      ]

  closed_bytes : written 8 (0 ∷ []) file ≡ magic ++ 0 ∷ records
  closed_bytes = ap (written 8 (0 ∷ [])) is.bytes ∙ written_one magic 1 records 0

  zero_shut : (x : ℕ) → x ≡ 0 → x ≢ 1
  zero_shut x zero_x same = omega (arith, same, zero_x)

  pub torn_cut : (c : List ℕ) → IsCutOrWhole 9 (written 8 (0 ∷ []) file) c → RowsOfFile c []
  torn_cut c (inl whole) = no_rows c (subst (λ f. IsQueueFile f []) (sym (whole ∙ closed_bytes)) (empty_chain 0 records (zero_shut 0 refl)))
  torn_cut c (inr cut) = no_rows c (subst (λ f. IsQueueFile f []) (sym (cut ∙ ap (take 9) closed_bytes)) (empty_chain 0 [] (zero_shut 0 refl)))

  pub cut_file : take 9 (written 8 (0 ∷ []) file) ≡ magic ++ 0 ∷ []
  cut_file = ap (take 9) closed_bytes

-- a file of at most 9 bytes is begun
module _ (file : List ℕ) (short : length file ≤ 9) where
  pub torn_begin : (c : List ℕ) → IsTorn 0 9 file c → RowsOfFile c []
  torn_begin c torn = inl (⊎_elim (λ same. omega (arith, same, short)) (λ longer. omega (arith, longer, short)) torn.size, refl)

  pub begun_file : written 0 (magic ++ 0 ∷ []) file ≡ magic ++ 0 ∷ []
  begun_file = ap (λ l. magic ++ 0 ∷ l) (drop_all 9 file short)
