-- Names that stand twice in one order stand twice in any other.
use Rattle.std.proofs.Common.{◌≡◌, ℕ, ◌+◌, ◌≤◌, false, cond, List, [], ◌∷◌, ◌++◌, refl, sym, ap, ◌∙◌, ⊎_elim, arith, Option, Some, None, is_some, bytes_eq}
use Rattle.std.specs.List.{fold, flat_map, sum_by}
use Rattle.std.specs.List.Sorted.{IsPermutation}
use Rattle.std.specs.Cmp.Lexicographic.{nat_list_eq_equiv}
use Rattle.std.proofs.lemmas.Bool.{cases_Bool}
use Rattle.std.proofs.lemmas.List.Sums.{sum_by-cons, sum_by-append}
use Rattle.std.proofs.lemmas.List.Sorted.{sum_by-IsPermutation, IsPermutation-sym}
use Rattle.gql_model.specs.declared.type_system.TypeSystemForm.{TypeSystemForm}
use Rattle.schema_rules.specs.Lines.{Mark, earlier, least_by}
use Rattle.schema_defaults.specs.Repetitions.{same_name, repeated}
use Rattle.gql_schema.specs.Repeated.{scalar_marks, repeated_in, repeated_line}
use Rattle.schema_order.proofs.FirstLaws.{tick}
use Rattle.schema_order.proofs.FaultLaws.{least_permuted}
use Rattle.schema_order.proofs.OrderLaws.{has_name, of_name, of_name_cons, at_most_once, earlier_parts, type_marks_of, directive_marks_of, schema_marks_of}

not_some : (o : Option ℕ) → is_some o ≡ false → o ≡ None
not_some None e = refl
not_some (Some l) e = absurd cc

earlier_nones : (a b : Option ℕ) → a ≡ None → b ≡ None → earlier a b ≡ None
earlier_nones a b x y = ap (λ o. earlier o b) x ∙ y

-- no mark has a name that none has
none_same : (m : Mark) (ms : List Mark) → of_name m.0 ms ≡ 0 → least_by (same_name m) ms ≡ None
none_same m [] e = refl
none_same m (k ∷ ms) e =
    let step = of_name_cons m.0 k ms in
    ⊎_elim
    (λ here. let one : tick (has_name m.0 k) ≡ 1 = ap tick here in absurd (omega arith))
    (λ not_here.
    let zero : tick (has_name m.0 k) ≡ 0 = ap tick not_here in
    let differ : bytes_eq k.0 m.0 ≡ false = nat_list_eq_equiv.symm k.0 m.0 ∙ not_here in
    ap (λ (o : Option ℕ). fold (λ least x. earlier least (same_name m x)) o ms) (ap (λ b. cond b (Some k.1) None) differ)
    ∙ none_same m ms (omega arith))
    (cases_Bool (bytes_eq m.0 k.0))

pub once_each : (ms : List Mark) → ((name : List ℕ) → of_name name ms ≤ 1) → repeated ms ≡ None
once_each [] few = refl
once_each (m ∷ ms) few =
    let step : (name : List ℕ) → of_name name (m ∷ ms) ≡ tick (has_name name m) + of_name name ms = λ name. of_name_cons name m ms in
    let same : tick (has_name m.0 m) ≡ 1 = ap tick (nat_list_eq_equiv.refl m.0) in
    let here = step m.0 in
    let most = few m.0 in
    let rest = once_each ms (λ name. let s = step name in let f = few name in omega arith) in
    earlier_nones (least_by (same_name m) ms) (repeated ms) (none_same m ms (omega arith)) rest

-- how often a name stands among the marks of definitions
of_each : (marks : TypeSystemForm → List Mark) (name : List ℕ) (ds : List TypeSystemForm) → of_name name (flat_map marks ds) ≡ sum_by (λ d. of_name name (marks d)) ds
of_each marks name [] = refl
of_each marks name (d ∷ ds) =
    sum_by-append (λ k. tick (has_name name k)) (marks d) (flat_map marks ds)
    ∙ ap (λ n. of_name name (marks d) + n) (of_each marks name ds)
    ∙ sym (sum_by-cons (λ x. of_name name (marks x)) d ds)

module _ (ds es : List TypeSystemForm) (p : IsPermutation ds es) where
  as_often : (marks : TypeSystemForm → List Mark) (name : List ℕ) → of_name name (flat_map marks es) ≡ of_name name (flat_map marks ds)
  as_often marks name =
      of_each marks name es ∙ sum_by-IsPermutation (λ d. of_name name (marks d)) ds es p ∙ sym (of_each marks name ds)

  still_once : (front : List Mark) (marks : TypeSystemForm → List Mark) → repeated (front ++ flat_map marks ds) ≡ None → repeated (front ++ flat_map marks es) ≡ None
  still_once front marks once =
      once_each (front ++ flat_map marks es) (λ name.
      let before = at_most_once name (front ++ flat_map marks ds) once in
      let left : of_name name (front ++ flat_map marks ds) ≡ of_name name front + of_name name (flat_map marks ds) =
      sum_by-append (λ k. tick (has_name name k)) front (flat_map marks ds) in
      let right : of_name name (front ++ flat_map marks es) ≡ of_name name front + of_name name (flat_map marks es) =
      sum_by-append (λ k. tick (has_name name k)) front (flat_map marks es) in
      let often = as_often marks name in
      omega arith)

  none_permuted : least_by repeated_in ds ≡ None → least_by repeated_in es ≡ None
  none_permuted e = not_some (least_by repeated_in es) (sym (least_permuted repeated_in ds es p) ∙ ap is_some e)

  none_repeated : repeated_line ds ≡ None → repeated_line es ≡ None
  none_repeated once =
      let types = repeated (scalar_marks ++ flat_map type_marks_of ds) in
      let directives = repeated (flat_map directive_marks_of ds) in
      let schemas = repeated (flat_map schema_marks_of ds) in
      let both = earlier_parts (earlier types directives) (earlier schemas (least_by repeated_in ds)) once in
      let front = earlier_parts types directives both.0 in
      let back = earlier_parts schemas (least_by repeated_in ds) both.1 in
      earlier_nones _ _
      (earlier_nones _ _ (still_once scalar_marks type_marks_of front.0) (still_once [] directive_marks_of front.1))
      (earlier_nones _ _ (still_once [] schema_marks_of back.0) (none_permuted back.1))

-- something stands twice in one order exactly where it does in the other
pub repeated_permuted : (ds es : List TypeSystemForm) → IsPermutation ds es → is_some (repeated_line ds) ≡ is_some (repeated_line es)
repeated_permuted ds es p = by (repeated_line ds) (repeated_line es) (none_repeated ds es p) (none_repeated es ds (IsPermutation-sym ds es p))
  where
    by : (a b : Option ℕ) → (a ≡ None → b ≡ None) → (b ≡ None → a ≡ None) → is_some a ≡ is_some b
    by None b there back = sym (ap is_some (there refl))
    by (Some l) None there back = ap is_some (back refl)
    by (Some l) (Some k) there back = refl
