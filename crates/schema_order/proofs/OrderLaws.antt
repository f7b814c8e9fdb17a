-- Definitions of which none stands twice, in another order.
use Rattle.std.proofs.Common.{◌≡◌, ℕ, ◌+◌, ◌≤◌, Bool, true, false, cond, List, [], ◌∷◌, ◌++◌, map, refl, sym, ap, ◌∙◌, ⊎_elim, arith, Option, Some, None, is_some, unwrap_or, option_map, codes, bytes_eq}
use Rattle.std.specs.Option.{option_or, option_to_list}
use Rattle.std.specs.List.{AllByRecursion, fold, flat_map, count_by}
use Rattle.std.specs.List.Sorted.{IsPermutation}
use Rattle.std.specs.Cmp.Lexicographic.{nat_list_eq_equiv}
use Rattle.std.proofs.lemmas.Bool.{both_ways, cases_Bool}
use Rattle.std.proofs.lemmas.List.Sums.{sum_by-cons, sum_by-append}
use Rattle.gql_model.specs.declared.type_system.TypeSystemForm.{TypeSystemForm}
use Rattle.gql_model.specs.declared.type_system.TypeSystemForm.TheVariants as form
use Rattle.schema_model.specs.declared.schema.SchemaType.{SchemaType}
use Rattle.schema_model.specs.declared.schema.RootNames.{RootNames}
use Rattle.schema_model.specs.Tables.{entry}
use Rattle.schema_rules.specs.Lines.{Mark, earlier, least_by}
use Rattle.schema_defaults.specs.Repetitions.{same_name, repeated}
use Rattle.gql_schema.specs.Marks.{mark_of, type_mark, directive_mark}
use Rattle.gql_schema.specs.Ignored.{scalars}
use Rattle.gql_schema.specs.Meaning.{scalar_entry, type_entries, directive_entries, schema_roots, stated_roots, default_roots, types_of, schema_of}
use Rattle.gql_schema.specs.Repeated.{scalar_marks, repeated_in, repeated_line}
use Rattle.schema_order.specs.Order.{LooksAlike, OrderIsFree}
use Rattle.schema_order.proofs.FirstLaws.{tick, first, count, first_permuted}
use Rattle.schema_order.proofs.TabledLaws.{entry-append, entry_tabled, entry_flat_map, fold_first}

-- ---- names that stand once

pub earlier_parts : (a b : Option ℕ) → earlier a b ≡ None → (a ≡ None) × (b ≡ None)
earlier_parts None b e = (refl, e)
earlier_parts (Some a) None e = absurd cc
earlier_parts (Some a) (Some b) e = absurd cc

least_none : {X : Type 0} (line : X → Option ℕ) (known : Option ℕ) (xs : List X) → fold (λ least x. earlier least (line x)) known xs ≡ None
    → (known ≡ None) × AllByRecursion (λ x. line x ≡ None) xs
least_none line known [] e = (e, tt)
least_none line known (x ∷ xs) e =
    let rest = least_none line (earlier known (line x)) xs e in
    let parts = earlier_parts known (line x) rest.0 in
    (parts.0, (parts.1, rest.1))

abbrev pub has_name : List ℕ → Mark → Bool
has_name name m = bytes_eq name m.0

abbrev pub of_name : List ℕ → List Mark → ℕ
of_name name ms = count_by (has_name name) ms

pub of_name_cons : (name : List ℕ) (m : Mark) (ms : List Mark) → of_name name (m ∷ ms) ≡ tick (has_name name m) + of_name name ms
of_name_cons name m ms = sum_by-cons (λ k. tick (has_name name k)) m ms

differ_case : (b : Bool) (line : ℕ) → cond b (Some line) None ≡ None → b ≡ false
differ_case true line e = absurd cc
differ_case false line e = refl

none_else : (name : List ℕ) (m : Mark) (ms : List Mark) → bytes_eq name m.0 ≡ true → AllByRecursion (λ k. same_name m k ≡ None) ms → of_name name ms ≡ 0
none_else name m [] same all = refl
none_else name m (k ∷ ms) same all =
    let rest = none_else name m ms same all.1 in
    let step = of_name_cons name k ms in
    let differ : bytes_eq k.0 m.0 ≡ false = differ_case (bytes_eq k.0 m.0) k.1 all.0 in
    ⊎_elim
    (λ here. absurd (both_ways (bytes_eq k.0 m.0) differ (sym (nat_list_eq_equiv.congr name k.0 m.0 here) ∙ same)))
    (λ not_here. let zero : tick (has_name name k) ≡ 0 = ap tick not_here in omega arith)
    (cases_Bool (bytes_eq name k.0))

pub at_most_once : (name : List ℕ) (ms : List Mark) → repeated ms ≡ None → of_name name ms ≤ 1
at_most_once name [] e = omega arith
at_most_once name (m ∷ ms) e =
    let parts = earlier_parts (least_by (same_name m) ms) (repeated ms) e in
    let step = of_name_cons name m ms in
    ⊎_elim
    (λ here.
    let one : tick (has_name name m) ≡ 1 = ap tick here in
    let others = none_else name m ms here (least_none (same_name m) None ms parts.0).1 in
    omega arith)
    (λ not_here.
    let zero : tick (has_name name m) ≡ 0 = ap tick not_here in
    let rest = at_most_once name ms parts.1 in
    omega arith)
    (cases_Bool (bytes_eq name m.0))

repeated_back : (ms ks : List Mark) → repeated (ms ++ ks) ≡ None → repeated ks ≡ None
repeated_back [] ks e = e
repeated_back (m ∷ ms) ks e = repeated_back ms ks (earlier_parts (least_by (same_name m) (ms ++ ks)) (repeated (ms ++ ks)) e).1

-- ---- what a definition gives under a name, and its marks

abbrev pub type_marks_of : TypeSystemForm → List Mark
type_marks_of d = option_to_list (option_map mark_of (type_mark d))

abbrev pub directive_marks_of : TypeSystemForm → List Mark
directive_marks_of d = option_to_list (option_map mark_of (directive_mark d))

abbrev pub schema_marks_of : TypeSystemForm → List Mark
schema_marks_of (form.Schema d) = (codes "schema", d.place.row) ∷ []
schema_marks_of _ = []

counted : {V : Type 0} (f : TypeSystemForm → Option V) (marks : TypeSystemForm → List Mark) (name : List ℕ)
    → ((d : TypeSystemForm) → of_name name (marks d) ≡ tick (is_some (f d)))
    → (ds : List TypeSystemForm) → count f ds ≡ of_name name (flat_map marks ds)
counted f marks name each [] = refl
counted f marks name each (d ∷ ds) =
    let here = each d in
    let rest = counted f marks name each ds in
    let step : count f (d ∷ ds) ≡ tick (is_some (f d)) + count f ds = sum_by-cons (λ x. tick (is_some (f x))) d ds in
    let split : of_name name (marks d ++ flat_map marks ds) ≡ of_name name (marks d) + of_name name (flat_map marks ds) =
    sum_by-append (λ k. tick (has_name name k)) (marks d) (flat_map marks ds) in
    omega arith

same_first : {V : Type 0} (f : TypeSystemForm → Option V) (marks : TypeSystemForm → List Mark) (name : List ℕ)
    → ((d : TypeSystemForm) → of_name name (marks d) ≡ tick (is_some (f d)))
    → (ds es : List TypeSystemForm) → IsPermutation ds es → repeated (flat_map marks ds) ≡ None → first f ds ≡ first f es
same_first f marks name each ds es p e =
    let all = counted f marks name each ds in
    let few = at_most_once name (flat_map marks ds) e in
    first_permuted f ds es p (omega arith)

one_mark : {X : Type 0} (b : Bool) (x : X) → 0 + tick b ≡ tick (is_some (cond b (Some x) None))
one_mark true x = refl
one_mark false x = refl

type_marks : (name : List ℕ) (d : TypeSystemForm) → of_name name (type_marks_of d) ≡ tick (is_some (entry (type_entries d) name))
type_marks name (form.Schema d) = refl
type_marks name (form.Scalar d) = one_mark (bytes_eq name d.name.text) _
type_marks name (form.Object d) = one_mark (bytes_eq name d.name.text) _
type_marks name (form.Interface d) = one_mark (bytes_eq name d.name.text) _
type_marks name (form.Union d) = one_mark (bytes_eq name d.name.text) _
type_marks name (form.Enum d) = one_mark (bytes_eq name d.name.text) _
type_marks name (form.Input d) = one_mark (bytes_eq name d.name.text) _
type_marks name (form.Directive d) = refl

directive_marks : (name : List ℕ) (d : TypeSystemForm) → of_name name (directive_marks_of d) ≡ tick (is_some (entry (directive_entries d) name))
directive_marks name (form.Directive d) = one_mark (bytes_eq name d.name.text) _
directive_marks name _ = refl

schema_marks : (d : TypeSystemForm) → of_name (codes "schema") (schema_marks_of d) ≡ tick (is_some (schema_roots d))
schema_marks (form.Schema d) = refl
schema_marks _ = refl

-- ---- the schema

-- what a name has among the types: a built-in scalar, or what the first definition of it gives
found_type : (name : List ℕ) (ds : List TypeSystemForm)
    → entry (types_of ds) name ≡ option_or (entry (map scalar_entry scalars) name) (first (λ d. entry (type_entries d) name) ds)
found_type name ds =
    let front = map scalar_entry scalars in
    entry_tabled name (front ++ flat_map type_entries ds)
    ∙ entry-append name front (flat_map type_entries ds)
    ∙ ap (option_or (entry front name)) (entry_flat_map name type_entries ds)

module _ (ds es : List TypeSystemForm) (p : IsPermutation ds es) (once : repeated_line ds ≡ None) where
  parts : (repeated (scalar_marks ++ flat_map type_marks_of ds) ≡ None)
      × ((repeated (flat_map directive_marks_of ds) ≡ None) × (repeated (flat_map schema_marks_of ds) ≡ None))
  parts =
      let types = repeated (scalar_marks ++ flat_map type_marks_of ds) in
      let directives = repeated (flat_map directive_marks_of ds) in
      let schemas = repeated (flat_map schema_marks_of ds) in
      let both = earlier_parts (earlier types directives) (earlier schemas (least_by repeated_in ds)) once in
      let front = earlier_parts types directives both.0 in
      (front.0, (front.1, (earlier_parts schemas (least_by repeated_in ds) both.1).0))

  types_alike : (name : List ℕ) → entry (types_of ds) name ≡ entry (types_of es) name
  types_alike name =
      found_type name ds
      ∙ ap (option_or (entry (map scalar_entry scalars) name))
      (same_first (λ d. entry (type_entries d) name) type_marks_of name (type_marks name) ds es p (repeated_back scalar_marks (flat_map type_marks_of ds) parts.0))
      ∙ sym (found_type name es)

  directives_alike : (name : List ℕ) → entry (schema_of ds).directives name ≡ entry (schema_of es).directives name
  directives_alike name =
      entry_tabled name (flat_map directive_entries ds)
      ∙ entry_flat_map name directive_entries ds
      ∙ same_first (λ d. entry (directive_entries d) name) directive_marks_of name (directive_marks name) ds es p parts.1.0
      ∙ sym (entry_tabled name (flat_map directive_entries es) ∙ entry_flat_map name directive_entries es)

  stated_alike : stated_roots ds ≡ stated_roots es
  stated_alike =
      fold_first schema_roots None ds
      ∙ same_first schema_roots schema_marks_of (codes "schema") schema_marks ds es p parts.1.1
      ∙ sym (fold_first schema_roots None es)

  default_alike : default_roots (types_of ds) ≡ default_roots (types_of es)
  default_alike =
      ap (λ (o : Option SchemaType). made o (entry (types_of ds) (codes "Mutation")) (entry (types_of ds) (codes "Subscription"))) (types_alike (codes "Query"))
      ∙ ap (λ (o : Option SchemaType). made (entry (types_of es) (codes "Query")) o (entry (types_of ds) (codes "Subscription"))) (types_alike (codes "Mutation"))
      ∙ ap (λ (o : Option SchemaType). made (entry (types_of es) (codes "Query")) (entry (types_of es) (codes "Mutation")) o) (types_alike (codes "Subscription"))
    where
      made : Option SchemaType → Option SchemaType → Option SchemaType → RootNames
      made q m s = record {
        query = option_map (λ t. record { line = t.line; text = codes "Query" }) q;
        mutation = option_map (λ t. record { line = t.line; text = codes "Mutation" }) m;
        subscription = option_map (λ t. record { line = t.line; text = codes "Subscription" }) s;
      }

  alike : LooksAlike (schema_of ds) (schema_of es)
  alike = record {
    types = types_alike;
    directives = directives_alike;
    roots =
        ap (λ (o : Option RootNames). unwrap_or o (default_roots (types_of ds))) stated_alike
        ∙ ap (λ (r : RootNames). unwrap_or (stated_roots es) r) default_alike;
  }

pub order_is_free : OrderIsFree
order_is_free ds es p once = alike ds es p once
