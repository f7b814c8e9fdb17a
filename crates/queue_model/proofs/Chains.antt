-- What stands in a file is read in one way only.
use Rattle.std.proofs.Common.{◌≡◌, ◌≢◌, ℕ, ◌+◌, ◌<◌, ◌≤◌, ◌^◌, inl, inr, List, [], ◌∷◌, ◌++◌, length, take, drop, refl, sym, ◌∙◌, ap, arith, length-append}
use Rattle.std.specs.Int.{w32, w64, to_be_bytes, from_be_bytes}
use Rattle.std.proofs.lemmas.List.{take_at, drop_at}
use Rattle.std.proofs.lemmas.Nat.{from_be_bytes-to_be_bytes_4, from_be_bytes-to_be_bytes_8}
use Rattle.queue_model.specs.declared.row.Row.{Row}
use Rattle.queue_model.specs.QueueFile.{magic, StoredRow, with_text, with_record, with_chain, AreInOrder, IsQueueFile, held_rows}
use Rattle.queue_model.specs.Laws.{StandsForOneList}

-- two parts of equal length begin one list
pub same_parts : {A : Type 0} (p q x y : List A) → length p ≡ length q → p ++ x ≡ q ++ y → (p ≡ q) × (x ≡ y)
same_parts p q x y size is = (
  sym (take_at p x (length q) size) ∙ ap (λ l. take (length q) l) is ∙ take_at q y (length q) refl,
  sym (drop_at p x (length q) size) ∙ ap (λ l. drop (length q) l) is ∙ drop_at q y (length q) refl,
)

pub same_texts : (a b x y : List ℕ) → length a < 2 ^ 32 → length b < 2 ^ 32 → with_text a x ≡ with_text b y → (a ≡ b) × (x ≡ y)
same_texts a b x y small small' is =
    let fields = same_parts (to_be_bytes w32 (length a)) (to_be_bytes w32 (length b)) (a ++ x) (b ++ y) refl is in
    let sizes : length a ≡ length b =
    sym (from_be_bytes-to_be_bytes_4 (length a) small) ∙ ap (λ l. from_be_bytes w32 l) fields.0 ∙ from_be_bytes-to_be_bytes_4 (length b) small' in
    same_parts a b x y sizes fields.1

pub same_numbers : (m n : ℕ) (x y : List ℕ) → m < 2 ^ 63 → n < 2 ^ 63 → to_be_bytes w64 m ++ x ≡ to_be_bytes w64 n ++ y → (m ≡ n) × (x ≡ y)
same_numbers m n x y small small' is =
    let fields = same_parts (to_be_bytes w64 m) (to_be_bytes w64 n) x y refl is in (
      sym (from_be_bytes-to_be_bytes_8 m (omega arith)) ∙ ap (λ l. from_be_bytes w64 l) fields.0 ∙ from_be_bytes-to_be_bytes_8 n (omega arith),
      fields.1,
    )

-- what a record can hold
abbrev pub Fits : Row → Type 0
Fits row = (row.seq < 2 ^ 63) × (length row.document < 2 ^ 32) × (length row.operation < 2 ^ 32) × (length row.variables < 2 ^ 32)

pub same_records : (s t : StoredRow) (x y : List ℕ) → Fits s.row → Fits t.row → with_record s x ≡ with_record t y → (s ≡ t) × (x ≡ y)
same_records s t x y fits fits' is =
    let states : s.state ≡ t.state = cc in
    let behind : to_be_bytes w64 s.row.seq ++ with_text s.row.document (with_text s.row.operation (with_text s.row.variables x))
    ≡ to_be_bytes w64 t.row.seq ++ with_text t.row.document (with_text t.row.operation (with_text t.row.variables y)) = ap (λ l. drop 1 l) is in
    let numbers = same_numbers s.row.seq t.row.seq _ _ fits.0 fits'.0 behind in
    let documents = same_texts s.row.document t.row.document _ _ fits.1 fits'.1 numbers.1 in
    let operations = same_texts s.row.operation t.row.operation _ _ fits.2 fits'.2 documents.1 in
    let variables = same_texts s.row.variables t.row.variables _ _ fits.3 fits'.3 operations.1 in (
      λ i. record {
        state = states i;
        row = record { seq = numbers.0 i; document = documents.0 i; operation = operations.0 i; variables = variables.0 i };
      },
      variables.1,
    )

fits_of : (low : ℕ) (s : StoredRow) (ss : List StoredRow) → AreInOrder low (s ∷ ss) → Fits s.row
fits_of low s ss order = (order.1, order.2.1, order.3.1, order.4.1)

-- a chain that begins with these records goes on behind them
pub goes_on_behind : (chain whole : List StoredRow) (low low' commit : ℕ) (x y : List ℕ) → commit ≢ 1 → AreInOrder low chain → AreInOrder low' whole
    → with_chain chain x ≡ with_chain whole (commit ∷ y) → (more : List StoredRow) × (whole ≡ chain ++ more) × (x ≡ with_chain more (commit ∷ y))
goes_on_behind [] whole low low' commit x y shut order order' is = (whole, refl, is)
goes_on_behind (s ∷ chain) [] low low' commit x y shut order order' is = let same : 1 ≡ commit = cc in absurd (shut (sym same))
goes_on_behind (s ∷ chain) (t ∷ whole) low low' commit x y shut order order' is =
    let records = same_records s t (with_chain chain x) (with_chain whole (commit ∷ y)) (fits_of low s chain order) (fits_of low' t whole order') (ap (λ l. drop 1 l) is) in
    let rest = goes_on_behind chain whole s.row.seq t.row.seq commit x y shut order.5 order'.5 records.1 in
    (rest.0, (λ i. sym records.0 i ∷ rest.1 i), rest.2)

-- so two whole chains that begin one list are one
pub same_chains : (chain other : List StoredRow) (low low' commit commit' : ℕ) (x y : List ℕ) → commit ≢ 1 → commit' ≢ 1 → AreInOrder low chain → AreInOrder low' other
    → with_chain chain (commit ∷ x) ≡ with_chain other (commit' ∷ y) → chain ≡ other
same_chains [] [] low low' commit commit' x y shut shut' order order' is = refl
same_chains [] (t ∷ other) low low' commit commit' x y shut shut' order order' is = let same : commit ≡ 1 = cc in absurd (shut same)
same_chains (s ∷ chain) [] low low' commit commit' x y shut shut' order order' is = let same : 1 ≡ commit' = cc in absurd (shut' (sym same))
same_chains (s ∷ chain) (t ∷ other) low low' commit commit' x y shut shut' order order' is =
    let records = same_records s t (with_chain chain (commit ∷ x)) (with_chain other (commit' ∷ y)) (fits_of low s chain order) (fits_of low' t other order') (ap (λ l. drop 1 l) is) in
    let rest = same_chains chain other s.row.seq t.row.seq commit commit' x y shut shut' order.5 order'.5 records.1 in
    (λ i. records.0 i ∷ rest i)

pub same_files : (file : List ℕ) (chain other : List StoredRow) → IsQueueFile file chain → IsQueueFile file other → chain ≡ other
same_files file chain other one two =
    let bytes : magic ++ with_chain chain (one.commit ∷ one.remainder) ≡ magic ++ with_chain other (two.commit ∷ two.remainder) = sym one.bytes ∙ two.bytes in
    same_chains chain other 0 0 one.commit two.commit one.remainder two.remainder one.closed two.closed one.order two.order (ap (λ l. drop 8 l) bytes)

-- the length of what stands before a rest
pub length-with_text : (text rest : List ℕ) → length (with_text text rest) ≡ 4 + length text + length rest
length-with_text text rest = let e = length-append text rest in omega arith

pub length-with_record : (s : StoredRow) (rest : List ℕ) → length (with_record s rest) ≡ 21 + length s.row.document + length s.row.operation + length s.row.variables + length rest
length-with_record s rest =
    let one = length-with_text s.row.variables rest in
    let two = length-with_text s.row.operation (with_text s.row.variables rest) in
    let three = length-with_text s.row.document (with_text s.row.operation (with_text s.row.variables rest)) in
    omega arith

-- a file of at most 9 bytes has no record
pub short_chain : (file : List ℕ) (chain : List StoredRow) → length file ≤ 9 → IsQueueFile file chain → chain ≡ []
short_chain file [] short is = refl
short_chain file (s ∷ chain) short is =
    let size = length-with_record s (with_chain chain (is.commit ∷ is.remainder)) in
    let whole = ap length is.bytes in
    absurd (omega arith)

pub one_list : StandsForOneList
one_list file rows others (inl short) (inl short') = short.1 ∙ sym short'.1
one_list file rows others (inl short) (inr (chain, is, held)) = short.1 ∙ sym (ap held_rows (short_chain file chain short.0 is)) ∙ sym held
one_list file rows others (inr (chain, is, held)) (inl short) = held ∙ ap held_rows (short_chain file chain short.0 is) ∙ sym short.1
one_list file rows others (inr (chain, is, held)) (inr (other, is', held')) = held ∙ ap held_rows (same_files file chain other is is') ∙ sym held'
