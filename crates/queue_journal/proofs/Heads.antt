-- What stands at a place of a file: a record, or none.
use Rattle.std.proofs.Common.{◌≡◌, ◌≢◌, ℕ, ◌+◌, ◌<◌, ◌^◌, List, ◌∷◌, ◌++◌, length, take, drop, refl, sym, ◌∙◌, ap, arith, Err, take-append-drop}
use Rattle.std.specs.Int.{w64, to_be_bytes, from_be_bytes}
use Rattle.std.proofs.lemmas.List.{drop-drop}
use Rattle.std.proofs.lemmas.Nat.{from_be_bytes-to_be_bytes_8}
use Rattle.queue_model.specs.QueueFile.{StoredRow, with_text, with_record}
use Rattle.queue_model.proofs.Chains.{same_parts, length-with_record}
use Rattle.queue_journal.specs.declared.error.OpenError.{OpenError}
use Rattle.queue_journal.specs.declared.error.OpenError.TheVariants.{Memory, NotAJournal, Failed}
use Rattle.queue_journal.specs.Reading.{ReadsTexts, ReadsRecord, CanStand}

pub no_record_short : (y : List ℕ) → length y < 9 → (low : ℕ) (s : StoredRow) (rest : List ℕ) → CanStand low s → y ≢ with_record s rest
no_record_short y short low s rest can is = let e = ap length is in let e' = length-with_record s rest in omega (arith, e, e', short)

module _ (file : List ℕ) (at state seq : ℕ) (small : seq < 2 ^ 64) (spelled : state ∷ to_be_bytes w64 seq ≡ take 9 (drop at file)) where
  pub at_head : drop at file ≡ state ∷ (to_be_bytes w64 seq ++ drop (at + 9) file)
  at_head = sym (take-append-drop 9 (drop at file)) ∙ ap (λ l. l ++ drop 9 (drop at file)) (sym spelled) ∙ ap (λ l. state ∷ (to_be_bytes w64 seq ++ l)) (drop-drop 9 at file)

  same_head : (s : StoredRow) (rest : List ℕ) → s.row.seq < 2 ^ 63 → drop at file ≡ with_record s rest
      → (seq ≡ s.row.seq) × (drop (at + 9) file ≡ with_text s.row.document (with_text s.row.operation (with_text s.row.variables rest)))
  same_head s rest fits is =
      let behind = ap (drop 1) (sym at_head ∙ is) in
      let parts = same_parts (to_be_bytes w64 seq) (to_be_bytes w64 s.row.seq) (drop (at + 9) file) (with_text s.row.document (with_text s.row.operation (with_text s.row.variables rest))) refl behind in
      (sym (from_be_bytes-to_be_bytes_8 seq small) ∙ ap (from_be_bytes w64) parts.0 ∙ from_be_bytes-to_be_bytes_8 s.row.seq (omega arith), parts.1)

  -- a number that can't follow
  pub no_record_number : (low : ℕ) → (low < seq → seq < 2 ^ 63 → ⊥) → (s : StoredRow) (rest : List ℕ) → CanStand low s → drop at file ≢ with_record s rest
  no_record_number low none s rest can is = let same = same_head s rest can.1 is in none (omega (arith, same.0, can.0)) (omega (arith, same.0, can.1))

  -- texts that aren't there
  pub no_record_texts : (low : ℕ) (error : OpenError) → ReadsTexts file (at + 9) (Err error) → ReadsRecord file at low (Err error)
  no_record_texts low Memory none = tt
  no_record_texts low Failed none = tt
  no_record_texts low NotAJournal none = λ s rest can is.
      let same = same_head s rest can.1 is in
      none s.row.document s.row.operation s.row.variables rest can.2 can.3 can.4 same.1
