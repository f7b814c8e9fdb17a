-- The numbers of input fields, counted over all types in order.
use Rattle.std.proofs.Common.{◌≡◌, ℕ, zero, suc, ◌+◌, ◌-◌, ◌≤◌, ◌<◌, true, cond, ltb, lt-ltb, le-ltb, List, [], ◌∷◌, ◌++◌, map, length, get_or, take, slice_get, refl, sym, ap, ◌∙◌, ◌⊎◌, inl, inr, ⊎_elim, arith, Option, Some, None, length-append}
use Rattle.std.specs.List.{flat_map}
use Rattle.std.proofs.lemmas.Bool.{false≢true}
use Rattle.std.proofs.lemmas.List.FromFn.{get_or-map-range_with_len}
use Rattle.digraph.specs.Walks.{Graph, is_among}
use Rattle.schema_model.specs.declared.schema.InputValue.{InputValue}
use Rattle.schema_model.specs.Schemas.{NamedType}
use Rattle.schema_circles.specs.Fillings.{input_fields, lines_in, field_lines, first_number, first_numbers}
use Rattle.schema_order.proofs.FirstLaws.{none_some, same_some}
use Rattle.schema_order.proofs.PlaceLaws.{among_at}

pub slice_within : {X : Type 0} (xs : List X) (i : ℕ) (x : X) → slice_get xs i ≡ Some x → i < length xs
slice_within [] i x e = absurd (none_some x (sym e))
slice_within (y ∷ xs) zero x e = omega arith
slice_within (y ∷ xs) (suc i) x e = let rest = slice_within xs i x e in omega arith

-- ---- the type and the field of a number

abbrev fields_in : NamedType → List (List ℕ × InputValue)
fields_in t = input_fields t.1.form

lines_counted : {X Y : Type 0} (line : X → Y) (xs : List X) → length (map line xs) ≡ length xs
lines_counted line [] = refl
lines_counted line (x ∷ xs) = ap (λ n. suc n) (lines_counted line xs)

first_more : (t : NamedType) (ts : List NamedType) (k : ℕ) → first_number (t ∷ ts) (suc k) ≡ length (fields_in t) + first_number ts k
first_more t ts k =
    length-append (lines_in t) (field_lines (take k ts))
    ∙ ap (λ n. n + first_number ts k) (lines_counted (λ (f : List ℕ × InputValue). f.1.line) (fields_in t))

-- the name of the type that a number falls in, and the field's place there
abbrev pub decoded : List NamedType → ℕ → Option (List ℕ × ℕ)
decoded [] n = None
decoded (t ∷ ts) n = cond (ltb n (length (fields_in t))) (Some (t.0, n)) (decoded ts (n - length (fields_in t)))

pub decoded_at : (ts : List NamedType) (k : ℕ) (p : NamedType) (j : ℕ) → slice_get ts k ≡ Some p → j < length (fields_in p) → decoded ts (first_number ts k + j) ≡ Some (p.0, j)
decoded_at [] k p j e l = absurd (none_some p (sym e))
decoded_at (t ∷ ts) zero p j e l =
    let same : t ≡ p = same_some t p e in
    let within : j < length (fields_in t) = subst_lt (sym same) l in
    let at : 0 + j ≡ j = omega arith in
    ap (decoded (t ∷ ts)) at
    ∙ ap (λ b. cond b (Some (t.0, j)) (decoded ts (j - length (fields_in t)))) (lt-ltb j (length (fields_in t)) within)
    ∙ ap (λ (q : NamedType). Some (q.0, j)) same
  where
    subst_lt : {q r : NamedType} → q ≡ r → j < length (fields_in q) → j < length (fields_in r)
    subst_lt same less = let n = ap (λ (s : NamedType). length (fields_in s)) same in omega arith
decoded_at (t ∷ ts) (suc k) p j e l =
    let more = first_more t ts k in
    let n : ℕ = first_number (t ∷ ts) (suc k) + j in
    let behind : length (fields_in t) ≤ n = omega arith in
    let less : n - length (fields_in t) ≡ first_number ts k + j = omega arith in
    ap (λ b. cond b (Some (t.0, n)) (decoded ts (n - length (fields_in t)))) (le-ltb n (length (fields_in t)) behind)
    ∙ ap (decoded ts) less
    ∙ decoded_at ts k p j e l

pub first_is : (ts : List NamedType) (k : ℕ) (p : NamedType) → slice_get ts k ≡ Some p → get_or (first_numbers ts) k 0 ≡ first_number ts k
first_is ts k p e =
    let within = slice_within ts k p e in
    let at : 0 + k ≡ k = omega arith in
    get_or-map-range_with_len (first_number ts) 0 (length ts) k k 0 within at

-- ---- a graph that has a node for each field

module _ (f : InputValue → List ℕ) where
  abbrev nodes_in : List (List ℕ × InputValue) → Graph
  nodes_in fields = map (λ i. f i.1) fields

  abbrev pub graph_of : List NamedType → Graph
  graph_of ts = flat_map (λ t. nodes_in (input_fields t.1.form)) ts

  -- the type and the field that a node stands for
  pub record IsNode (ts : List NamedType) (n m : ℕ) : Type 0 where
    pub place : ℕ
    pub type : NamedType
    pub at : ℕ
    pub field : List ℕ × InputValue
    pub type_there : slice_get ts place ≡ Some type
    pub field_there : slice_get (fields_in type) at ≡ Some field
    pub number : n ≡ first_number ts place + at
    pub leads : is_among m (f field.1) ≡ true

  split : (xs ys : Graph) (n m : ℕ) → is_among m (get_or (xs ++ ys) n []) ≡ true
      → (is_among m (get_or xs n []) ≡ true) ⊎ ((i : ℕ) × ((n ≡ length xs + i) × (is_among m (get_or ys i []) ≡ true)))
  split [] ys n m e = let at : n ≡ 0 + n = omega arith in inr (n, (at, e))
  split (x ∷ xs) ys zero m e = inl e
  split (x ∷ xs) ys (suc n) m e =
      ⊎_elim
      (λ front. inl front)
      (λ back. let l = back.1.0 in let at : suc n ≡ length (x ∷ xs) + back.0 = omega arith in inr (back.0, (at, back.1.1)))
      (split xs ys n m e)

  pub node_at : (ts : List NamedType) (n m : ℕ) → is_among m (get_or (graph_of ts) n []) ≡ true → IsNode ts n m
  node_at [] n m e = absurd (false≢true e)
  node_at (t ∷ ts) n m e =
      ⊎_elim
      (λ front.
      let here = among_at (λ (i : List ℕ × InputValue). f i.1) (fields_in t) n m front in
      let at : n ≡ 0 + n = omega arith in
      record { place = 0; type = t; at = n; field = here.0; type_there = refl; field_there = here.1.0; number = at; leads = here.1.1 })
      (λ back.
      let rest = node_at ts back.0 m back.1.1 in
      let more = first_more t ts rest.place in
      let counted = lines_counted (λ (i : List ℕ × InputValue). f i.1) (fields_in t) in
      let l = back.1.0 in
      let k = rest.number in
      let at : n ≡ first_number (t ∷ ts) (suc rest.place) + rest.at = omega arith in
      record {
        place = suc rest.place;
        type = rest.type;
        at = rest.at;
        field = rest.field;
        type_there = rest.type_there;
        field_there = rest.field_there;
        number = at;
        leads = rest.leads;
      })
      (split (nodes_in (fields_in t)) (graph_of ts) n m e)

  in_front : (fields : List (List ℕ × InputValue)) (ys : Graph) (j : ℕ) (i : List ℕ × InputValue) → slice_get fields j ≡ Some i → get_or (nodes_in fields ++ ys) j [] ≡ f i.1
  in_front [] ys j i e = absurd (none_some i (sym e))
  in_front (x ∷ fields) ys zero i e = ap (λ (y : List ℕ × InputValue). f y.1) (same_some x i e)
  in_front (x ∷ fields) ys (suc j) i e = in_front fields ys j i e

  behind_front : (fields : List (List ℕ × InputValue)) (ys : Graph) (n k : ℕ) → n ≡ length fields + k → get_or (nodes_in fields ++ ys) n [] ≡ get_or ys k []
  behind_front [] ys n k e = let same : n ≡ k = omega arith in ap (λ c. get_or ys c []) same
  behind_front (x ∷ fields) ys zero k e = absurd (omega arith)
  behind_front (x ∷ fields) ys (suc n) k e = behind_front fields ys n k (omega arith)

  -- the node of a field
  pub node_is : (ts : List NamedType) (k : ℕ) (p : NamedType) (j : ℕ) (i : List ℕ × InputValue) → slice_get ts k ≡ Some p → slice_get (fields_in p) j ≡ Some i
      → get_or (graph_of ts) (first_number ts k + j) [] ≡ f i.1
  node_is [] k p j i e h = absurd (none_some p (sym e))
  node_is (t ∷ ts) zero p j i e h =
      let at : 0 + j ≡ j = omega arith in
      ap (λ n. get_or (graph_of (t ∷ ts)) n []) at
      ∙ in_front (fields_in t) (graph_of ts) j i (ap (λ (q : NamedType). slice_get (fields_in q) j) (same_some t p e) ∙ h)
  node_is (t ∷ ts) (suc k) p j i e h =
      let more = first_more t ts k in
      behind_front (fields_in t) (graph_of ts) (first_number (t ∷ ts) (suc k) + j) (first_number ts k + j) (omega arith)
      ∙ node_is ts k p j i e h

  pub as_many : (ts : List NamedType) → length (graph_of ts) ≡ length (field_lines ts)
  as_many [] = refl
  as_many (t ∷ ts) =
      let rest = as_many ts in
      let left = length-append (nodes_in (fields_in t)) (graph_of ts) in
      let right = length-append (lines_in t) (field_lines ts) in
      let nodes = lines_counted (λ (i : List ℕ × InputValue). f i.1) (fields_in t) in
      let lines = lines_counted (λ (i : List ℕ × InputValue). i.1.line) (fields_in t) in
      omega arith
