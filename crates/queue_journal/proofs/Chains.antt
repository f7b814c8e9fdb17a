-- Record chains that grow at their end, or of which one row's state changes.
use Rattle.std.proofs.Common.{◌≡◌, ◌≢◌, inl, inr, ℕ, zero, suc, ◌+◌, ◌<◌, ◌^◌, true, false, List, [], ◌∷◌, ◌++◌, length, get_or, take, drop, refl, sym, ◌∙◌, ap, arith, append_assoc, length-append}
use Rattle.std.specs.Prelude.{if◌then◌else◌, ◌==◌}
use Rattle.std.specs.Int.{w32, w64, to_be_bytes}
use Rattle.std.specs.List.{remove}
use Rattle.std.proofs.lemmas.List.{take_at, drop_at}
use Rattle.std.proofs.lemmas.Bool.{cases_eq}
use Rattle.std.proofs.lemmas.Bool.Decides.{nat_tests}
use Rattle.queue_model.specs.QueueFile.{magic, StoredRow, with_text, with_record, with_chain, held_rows, last_number, end_of, FitsRecord, AreInOrder}
use Rattle.queue_journal.specs.Journal.{state_places}

pub with_text_append : (text x y : List ℕ) → with_text text (x ++ y) ≡ with_text text x ++ y
with_text_append text x y = let size = to_be_bytes w32 (length text) in sym (append_assoc size (text ++ x) y ∙ ap (λ l. size ++ l) (append_assoc text x y))

pub with_record_append : (s : StoredRow) (x y : List ℕ) → with_record s (x ++ y) ≡ with_record s x ++ y
with_record_append s x y =
    let number = to_be_bytes w64 s.row.seq in
    let variables = with_text_append s.row.variables x y in
    let operation = ap (with_text s.row.operation) variables ∙ with_text_append s.row.operation (with_text s.row.variables x) y in
    let document = ap (with_text s.row.document) operation ∙ with_text_append s.row.document (with_text s.row.operation (with_text s.row.variables x)) y in
    ap (λ l. s.state ∷ (number ++ l)) document ∙ ap (λ l. s.state ∷ l) (sym (append_assoc number (with_text s.row.document (with_text s.row.operation (with_text s.row.variables x))) y))

pub with_chain_append : (chain : List StoredRow) (x y : List ℕ) → with_chain chain (x ++ y) ≡ with_chain chain x ++ y
with_chain_append [] x y = refl
with_chain_append (s ∷ chain) x y = ap (λ l. 1 ∷ with_record s l) (with_chain_append chain x y) ∙ ap (λ l. 1 ∷ l) (with_record_append s (with_chain chain x) y)

pub with_chain_more : (a b : List StoredRow) (x : List ℕ) → with_chain (a ++ b) x ≡ with_chain a (with_chain b x)
with_chain_more [] b x = refl
with_chain_more (s ∷ a) b x = ap (λ l. 1 ∷ with_record s l) (with_chain_more a b x)

-- what stands before a chain's last commit byte
abbrev pub front : List StoredRow → List ℕ
front chain = magic ++ with_chain chain []

pub split_file : (chain : List StoredRow) (rest : List ℕ) → magic ++ with_chain chain rest ≡ front chain ++ rest
split_file chain rest = ap (λ l. magic ++ l) (with_chain_append chain [] rest) ∙ sym (append_assoc magic (with_chain chain []) rest)

pub length-front : (chain : List StoredRow) → length (front chain) + 1 ≡ end_of chain
length-front chain = let e = length-append magic (with_chain chain []) in omega arith

pub length-chain : (s : StoredRow) (chain : List StoredRow) (x : List ℕ) → length (with_chain (s ∷ chain) x) ≡ 1 + length (with_record s []) + length (with_chain chain x)
length-chain s chain x =
    let e = ap length (with_record_append s [] (with_chain chain x)) in
    let e' = length-append (with_record s []) (with_chain chain x) in
    omega arith

pub held_append : (a b : List StoredRow) → held_rows (a ++ b) ≡ held_rows a ++ held_rows b
held_append [] b = refl
held_append (s ∷ a) b =
    elim (s.state == 0) as (λ v. (if v then s.row ∷ held_rows (a ++ b) else held_rows (a ++ b)) ≡ (if v then s.row ∷ held_rows a else held_rows a) ++ held_rows b) [
      | true ↦ ap (λ l. s.row ∷ l) (held_append a b)
      | false ↦ held_append a b
    ]

pub places_append : (at : ℕ) (a b : List StoredRow) → state_places at (a ++ b) ≡ state_places at a ++ state_places (at + length (with_chain a [])) b
places_append at [] b = let same : at ≡ at + 0 = omega arith in ap (λ (n : ℕ). state_places n b) same
places_append at (s ∷ a) b =
    let next = at + 1 + length (with_record s []) in
    let same : next + length (with_chain a []) ≡ at + length (with_chain (s ∷ a) []) = let e = length-chain s a [] in omega arith in
    let rest : state_places next (a ++ b) ≡ state_places next a ++ state_places (at + length (with_chain (s ∷ a) [])) b =
    places_append next a b ∙ ap (λ (n : ℕ). state_places next a ++ state_places n b) same in
    elim (s.state == 0) as (λ v. (if v then (at + 1) ∷ state_places next (a ++ b) else state_places next (a ++ b))
    ≡ (if v then (at + 1) ∷ state_places next a else state_places next a) ++ state_places (at + length (with_chain (s ∷ a) [])) b) [
      | true ↦ ap (λ l. (at + 1) ∷ l) rest
      | false ↦ rest
    ]

pub held_one : (s : StoredRow) → s.state ≡ 0 → held_rows (s ∷ []) ≡ s.row ∷ []
held_one s zero_state = grind (arith, nat_tests)

pub done_one : (s : StoredRow) (b : List StoredRow) → s.state ≢ 0 → held_rows (s ∷ b) ≡ held_rows b
done_one s b other = grind (arith, nat_tests)

pub held_first : (s : StoredRow) (b : List StoredRow) → s.state ≡ 0 → held_rows (s ∷ b) ≡ s.row ∷ held_rows b
held_first s b zero_state = grind (arith, nat_tests)

pub places_first : (at : ℕ) (s : StoredRow) (b : List StoredRow) → s.state ≡ 0 → state_places at (s ∷ b) ≡ (at + 1) ∷ state_places (at + 1 + length (with_record s [])) b
places_first at s b zero_state = grind (arith, nat_tests)

pub places_done : (at : ℕ) (s : StoredRow) (b : List StoredRow) → s.state ≢ 0 → state_places at (s ∷ b) ≡ state_places (at + 1 + length (with_record s [])) b
places_done at s b other = grind (arith, nat_tests)

-- a record that follows the last one
abbrev pub Follows : ℕ → StoredRow → Type 0
Follows low s = (low < s.row.seq) × (s.row.seq < 2 ^ 63) × FitsRecord s.row.document × FitsRecord s.row.operation × FitsRecord s.row.variables

pub order_push : (low : ℕ) (chain : List StoredRow) (s : StoredRow) → AreInOrder low chain → Follows (last_number low chain) s → AreInOrder low (chain ++ s ∷ [])
order_push low [] s order next = (next.0, next.1, next.2, next.3, next.4, tt)
order_push low (t ∷ chain) s order next = (order.0, order.1, order.2, order.3, order.4, order_push t.row.seq chain s order.5 next)

pub last_push : (low : ℕ) (chain : List StoredRow) (s : StoredRow) → last_number low (chain ++ s ∷ []) ≡ s.row.seq
last_push low [] s = refl
last_push low (t ∷ chain) s = last_push t.row.seq chain s

-- the record with another state byte
abbrev pub with_state : StoredRow → ℕ → StoredRow
with_state s x = record { state = x; row = s.row }

pub order_state : (low : ℕ) (a : List StoredRow) (s : StoredRow) (b : List StoredRow) (x : ℕ) → AreInOrder low (a ++ s ∷ b) → AreInOrder low (a ++ with_state s x ∷ b)
order_state low [] s b x order = order
order_state low (t ∷ a) s b x order = (order.0, order.1, order.2, order.3, order.4, order_state t.row.seq a s b x order.5)

pub last_state : (low : ℕ) (a : List StoredRow) (s : StoredRow) (b : List StoredRow) (x : ℕ) → last_number low (a ++ with_state s x ∷ b) ≡ last_number low (a ++ s ∷ b)
last_state low [] s b x = refl
last_state low (t ∷ a) s b x = last_state t.row.seq a s b x

pub size_state : (a : List StoredRow) (s : StoredRow) (b : List StoredRow) (x : ℕ) (y : List ℕ) → length (with_chain (a ++ with_state s x ∷ b) y) ≡ length (with_chain (a ++ s ∷ b) y)
size_state [] s b x y = refl
size_state (t ∷ a) s b x y = let e = length-chain t (a ++ with_state s x ∷ b) y in let e' = length-chain t (a ++ s ∷ b) y in let e'' = size_state a s b x y in omega arith

-- the held row at a place among the held ones
pub record Split (at : ℕ) (chain : List StoredRow) (i : ℕ) : Type 0 where
  pub before : List StoredRow
  pub stored : StoredRow
  pub after : List StoredRow
  pub whole : chain ≡ before ++ stored ∷ after
  pub is_held : stored.state ≡ 0
  pub count : length (held_rows before) ≡ i
  pub places : length (state_places at before) ≡ i
  pub place : get_or (state_places at chain) i 0 ≡ at + 1 + length (with_chain before [])

split_first : (at : ℕ) (s : StoredRow) (chain : List StoredRow) → s.state ≡ 0 → Split at (s ∷ chain) 0
split_first at s chain held = record {
  before = [];
  stored = s;
  after = chain;
  whole = refl;
  is_held = held;
  count = refl;
  places = refl;
  place = ap (λ (l : List ℕ). get_or l 0 0) (places_first at s chain held) ∙ omega arith;
}

split_later : (at : ℕ) (s : StoredRow) (chain : List StoredRow) (i : ℕ) → s.state ≡ 0 → Split (at + 1 + length (with_record s [])) chain i → Split at (s ∷ chain) (suc i)
split_later at s chain i held rest = record {
  before = s ∷ rest.before;
  stored = rest.stored;
  after = rest.after;
  whole = ap (λ l. s ∷ l) rest.whole;
  is_held = rest.is_held;
  count = ap length (held_first s rest.before held) ∙ ap suc rest.count;
  places = ap length (places_first at s rest.before held) ∙ ap suc rest.places;
  place = ap (λ (l : List ℕ). get_or l (suc i) 0) (places_first at s chain held) ∙ rest.place ∙ (let e = length-chain s rest.before [] in omega arith);
}

split_other : (at : ℕ) (s : StoredRow) (chain : List StoredRow) (i : ℕ) → s.state ≢ 0 → Split (at + 1 + length (with_record s [])) chain i → Split at (s ∷ chain) i
split_other at s chain i other rest = record {
  before = s ∷ rest.before;
  stored = rest.stored;
  after = rest.after;
  whole = ap (λ l. s ∷ l) rest.whole;
  is_held = rest.is_held;
  count = ap length (done_one s rest.before other) ∙ rest.count;
  places = ap length (places_done at s rest.before other) ∙ rest.places;
  place = ap (λ (l : List ℕ). get_or l i 0) (places_done at s chain other) ∙ rest.place ∙ (let e = length-chain s rest.before [] in omega arith);
}

pub split_at_row : (at : ℕ) (chain : List StoredRow) (i : ℕ) → i < length (held_rows chain) → Split at chain i
split_at_row at [] i within = absurd (omega arith)
split_at_row at (s ∷ chain) zero within = elim (cases_eq s.state 0) [
  | inl held ↦ split_first at s chain held
  | inr other ↦ split_other at s chain 0 other (split_at_row (at + 1 + length (with_record s [])) chain 0 (let e = ap length (done_one s chain other) in omega (arith, within, e)))
]
split_at_row at (s ∷ chain) (suc i) within = elim (cases_eq s.state 0) [
  | inl held ↦ split_later at s chain i held (split_at_row (at + 1 + length (with_record s [])) chain i (let e = ap length (held_first s chain held) in omega (arith, within, e)))
  | inr other ↦ split_other at s chain (suc i) other (split_at_row (at + 1 + length (with_record s [])) chain (suc i) (let e = ap length (done_one s chain other) in omega (arith, within, e)))
]

module _ (at : ℕ) (chain : List StoredRow) (i : ℕ) (parts : Split at chain i) where
  held_parts : held_rows chain ≡ held_rows parts.before ++ parts.stored.row ∷ held_rows parts.after
  held_parts = ap held_rows parts.whole ∙ held_append parts.before (parts.stored ∷ parts.after) ∙ ap (λ l. held_rows parts.before ++ l) (held_first parts.stored parts.after parts.is_held)

  without_parts : {A : Type 0} (a b : List A) (x : A) (whole : List A) → whole ≡ a ++ x ∷ b → length a ≡ i → remove whole i ≡ a ++ b
  without_parts a b x whole is size =
      let split : whole ≡ (a ++ x ∷ []) ++ b = is ∙ sym (append_assoc a (x ∷ []) b) in
      let longer : length (a ++ x ∷ []) ≡ suc i = let e = length-append a (x ∷ []) in omega arith in
      ap (λ l. take i l ++ drop (suc i) whole) is ∙ ap (λ l. l ++ drop (suc i) whole) (take_at a (x ∷ b) i size)
      ∙ ap (λ l. a ++ drop (suc i) l) split ∙ ap (λ l. a ++ l) (drop_at (a ++ x ∷ []) b (suc i) longer)

  -- with the state byte 0 the row is held as before
  pub held_same : held_rows (parts.before ++ with_state parts.stored 0 ∷ parts.after) ≡ held_rows chain
  held_same = held_append parts.before (with_state parts.stored 0 ∷ parts.after) ∙ sym held_parts

  -- with any other the row is done
  pub held_without : (x : ℕ) → x ≢ 0 → held_rows (parts.before ++ with_state parts.stored x ∷ parts.after) ≡ remove (held_rows chain) i
  held_without x other =
      held_append parts.before (with_state parts.stored x ∷ parts.after) ∙ ap (λ l. held_rows parts.before ++ l) (done_one (with_state parts.stored x) parts.after other)
      ∙ sym (without_parts (held_rows parts.before) (held_rows parts.after) parts.stored.row (held_rows chain) held_parts parts.count)

  pub places_without : (x : ℕ) → x ≢ 0 → state_places at (parts.before ++ with_state parts.stored x ∷ parts.after) ≡ remove (state_places at chain) i
  places_without x other =
      let next = at + length (with_chain parts.before []) in
      let later = state_places (next + 1 + length (with_record parts.stored [])) parts.after in
      let whole : state_places at chain ≡ state_places at parts.before ++ (next + 1) ∷ later =
      ap (state_places at) parts.whole ∙ places_append at parts.before (parts.stored ∷ parts.after) ∙ ap (λ l. state_places at parts.before ++ l) (places_first next parts.stored parts.after parts.is_held) in
      places_append at parts.before (with_state parts.stored x ∷ parts.after) ∙ ap (λ l. state_places at parts.before ++ l) (places_done next (with_state parts.stored x) parts.after other)
      ∙ sym (without_parts (state_places at parts.before) later (next + 1) (state_places at chain) whole parts.places)
