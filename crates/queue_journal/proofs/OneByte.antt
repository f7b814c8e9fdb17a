-- One byte, or what stands behind one, in a list of bytes.
use Rattle.std.proofs.Common.{◌≡◌, ⊎_elim, ℕ, ◌+◌, ◌<◌, ◌≤◌, List, [], ◌∷◌, ◌++◌, length, get_or, take, drop, refl, sym, ◌∙◌, ap, arith, append_assoc, length-append, take-append-drop}
use Rattle.std.proofs.lemmas.List.{take_at, drop_at, drop_more}
use Rattle.gate_outside.specs.Disk.{IsTorn, written}

module _ (front : List ℕ) (b : ℕ) (tail : List ℕ) where
  abbrev file : List ℕ
  file = front ++ b ∷ tail

  split_one : file ≡ (front ++ b ∷ []) ++ tail
  split_one = sym (append_assoc front (b ∷ []) tail)

  size_one : length (front ++ b ∷ []) ≡ length front + 1
  size_one = let e = length-append front (b ∷ []) in omega arith

  take_front : take (length front) file ≡ front
  take_front = take_at front (b ∷ tail) (length front) refl

  take_one : take (length front + 1) file ≡ front ++ b ∷ []
  take_one = ap (λ l. take (length front + 1) l) split_one ∙ take_at (front ++ b ∷ []) tail (length front + 1) size_one

  drop_one : drop (length front + 1) file ≡ tail
  drop_one = ap (λ l. drop (length front + 1) l) split_one ∙ drop_at (front ++ b ∷ []) tail (length front + 1) size_one

  size : length front + 1 ≤ length file
  size = let e = length-append front (b ∷ tail) in omega arith

  no_shorter : (at n : ℕ) (c : List ℕ) → IsTorn at n file c → length file ≤ length c
  no_shorter at n c torn = ⊎_elim (λ same. omega (arith, same)) (λ longer. omega (arith, longer)) torn.size

  -- the byte torn: some byte stands in its place
  pub torn_one : (c : List ℕ) → IsTorn (length front) 1 file c → (x : ℕ) × (c ≡ front ++ x ∷ tail)
  torn_one c torn =
      let n = length front in
      let x = get_or c n 0 in
      let inside : n < length c = let long = no_shorter n 1 c torn in omega (arith, long, size) in
      let rest : drop n c ≡ x ∷ tail = drop_more c n 0 inside ∙ ap (λ (l : List ℕ). x ∷ l) (torn.after ∙ drop_one) in
      (x, sym (take-append-drop n c) ∙ ap (λ (l : List ℕ). l ++ drop n c) (torn.before ∙ take_front) ∙ ap (λ (l : List ℕ). front ++ l) rest)

  pub written_one : (x : ℕ) → written (length front) (x ∷ []) file ≡ front ++ x ∷ tail
  written_one x = ap (λ (l : List ℕ). l ++ (x ∷ drop (length front + 1) file)) take_front ∙ ap (λ (l : List ℕ). front ++ x ∷ l) drop_one

  -- what stands behind the byte torn: the byte stays
  pub torn_behind : (n : ℕ) (c : List ℕ) → IsTorn (length front + 1) n file c → (rest : List ℕ) × (c ≡ front ++ b ∷ rest)
  torn_behind n c torn =
      let rest = drop (length front + 1) c in
      (rest, sym (take-append-drop (length front + 1) c) ∙ ap (λ (l : List ℕ). l ++ rest) (torn.before ∙ take_one) ∙ append_assoc front (b ∷ []) rest)

  pub written_behind : (bytes : List ℕ) → (rest : List ℕ) × (written (length front + 1) bytes file ≡ front ++ b ∷ (bytes ++ rest))
  written_behind bytes =
      let rest = drop (length front + 1 + length bytes) file in
      (rest, ap (λ (l : List ℕ). l ++ (bytes ++ rest)) take_one ∙ append_assoc front (b ∷ []) (bytes ++ rest))
