-- What stands at a place of a file: a text with its length, or none.
use Rattle.std.proofs.Common.{◌≡◌, ◌≢◌, ℕ, ◌+◌, ◌<◌, ◌^◌, List, ◌++◌, length, take, drop, refl, sym, ◌∙◌, ap, subst, arith, length-append, take-append-drop, IsUtf8, Err}
use Rattle.std.specs.Int.{w32, to_be_bytes, from_be_bytes}
use Rattle.std.proofs.lemmas.List.{drop-drop}
use Rattle.std.proofs.lemmas.Nat.{from_be_bytes-to_be_bytes_4}
use Rattle.queue_model.specs.QueueFile.{with_text, FitsRecord}
use Rattle.queue_model.proofs.Chains.{same_parts, same_texts, length-with_text}
use Rattle.queue_journal.specs.declared.error.OpenError.{OpenError}
use Rattle.queue_journal.specs.declared.error.OpenError.TheVariants.{Memory, NotAJournal, Failed}
use Rattle.queue_journal.specs.Reading.{ReadsText, ReadsTexts}

pub no_text_short : (y : List ℕ) → length y < 4 → (text rest : List ℕ) → FitsRecord text → y ≢ with_text text rest
no_text_short y short text rest fits is = let e = ap length is in let e' = length-with_text text rest in omega (arith, e, e', short)

module _ (file : List ℕ) (at size : ℕ) (small : size < 2 ^ 32) (spelled : to_be_bytes w32 size ≡ take 4 (drop at file)) where
  at_size : drop at file ≡ to_be_bytes w32 size ++ drop (at + 4) file
  at_size = sym (take-append-drop 4 (drop at file)) ∙ ap (λ l. l ++ drop 4 (drop at file)) (sym spelled) ∙ ap (λ l. to_be_bytes w32 size ++ l) (drop-drop 4 at file)

  same_size : (text rest : List ℕ) → FitsRecord text → drop at file ≡ with_text text rest → (size ≡ length text) × (drop (at + 4) file ≡ text ++ rest)
  same_size text rest fits is =
      let parts = same_parts (to_be_bytes w32 size) (to_be_bytes w32 (length text)) (drop (at + 4) file) (text ++ rest) refl (sym at_size ∙ is) in
      (sym (from_be_bytes-to_be_bytes_4 size small) ∙ ap (from_be_bytes w32) parts.0 ∙ from_be_bytes-to_be_bytes_4 (length text) fits.1, parts.1)

  -- fewer bytes than the length says
  pub no_text_cut : length (drop (at + 4) file) < size → (text rest : List ℕ) → FitsRecord text → drop at file ≢ with_text text rest
  no_text_cut short text rest fits is =
      let same = same_size text rest fits is in
      let e = ap length same.1 in let e' = length-append text rest in omega (arith, same.0, e, e', short)

  module _ (bytes : List ℕ) (count : length bytes ≡ size) (read : bytes ≡ take size (drop (at + 4) file)) where
    behind : drop (at + 4) file ≡ bytes ++ drop (at + 4 + size) file
    behind = sym (take-append-drop size (drop (at + 4) file)) ∙ ap (λ l. l ++ drop size (drop (at + 4) file)) (sym read) ∙ ap (λ l. bytes ++ l) (drop-drop size (at + 4) file)

    pub text_here : drop at file ≡ with_text bytes (drop (at + 4 + size) file)
    text_here = at_size ∙ ap (λ l. to_be_bytes w32 size ++ l) behind ∙ ap (λ (n : ℕ). to_be_bytes w32 n ++ (bytes ++ drop (at + 4 + size) file)) (sym count)

    -- bytes that are no text
    pub no_text_utf8 : (IsUtf8 bytes → ⊥) → (text rest : List ℕ) → FitsRecord text → drop at file ≢ with_text text rest
    no_text_utf8 none text rest fits is =
        let same = same_size text rest fits is in
        let parts = same_parts bytes text (drop (at + 4 + size) file) rest (count ∙ same.0) (sym behind ∙ same.1) in
        none (subst IsUtf8 (sym parts.0) fits.0)

-- no three texts where the second isn't one
pub no_operation : (file : List ℕ) (at end : ℕ) (document : List ℕ) → FitsRecord document → drop at file ≡ with_text document (drop end file)
    → (error : OpenError) → ReadsText file end (Err error) → ReadsTexts file at (Err error)
no_operation file at end document fits here Memory none = tt
no_operation file at end document fits here Failed none = tt
no_operation file at end document fits here NotAJournal none = λ document' operation variables rest fits' fits_operation fits_variables is.
    let same = same_texts document document' (drop end file) (with_text operation (with_text variables rest)) fits.1 fits'.1 (sym here ∙ is) in
    none operation (with_text variables rest) fits_operation same.1

-- nor where the third isn't
pub no_variables : (file : List ℕ) (at middle end : ℕ) (document operation : List ℕ) → FitsRecord document → drop at file ≡ with_text document (drop middle file)
    → FitsRecord operation → drop middle file ≡ with_text operation (drop end file)
    → (error : OpenError) → ReadsText file end (Err error) → ReadsTexts file at (Err error)
no_variables file at middle end document operation fits here fits_operation here' Memory none = tt
no_variables file at middle end document operation fits here fits_operation here' Failed none = tt
no_variables file at middle end document operation fits here fits_operation here' NotAJournal none = λ document' operation' variables rest fits' fits_operation' fits_variables is.
    let same = same_texts document document' (drop middle file) (with_text operation' (with_text variables rest)) fits.1 fits'.1 (sym here ∙ is) in
    let same' = same_texts operation operation' (drop end file) (with_text variables rest) fits_operation.1 fits_operation'.1 (sym here' ∙ same.1) in
    none variables rest fits_variables same'.1
