-- Definitions of which none stands twice give their parts as they are, so that another order has the same parts.
use Rattle.std.proofs.Common.{◌≡◌, ℕ, ◌+◌, ◌≤◌, Bool, true, false, cond, ◌||◌, List, [], ◌∷◌, ◌++◌, map, refl, sym, ap, subst, ◌∙◌, ⊎_elim, arith, Some, None, is_some, bytes_eq, append_assoc, append-nil}
use Rattle.std.specs.List.{fold, flat_map, count_by, list_any}
use Rattle.std.specs.List.Sorted.{IsPermutation}
use Rattle.std.specs.Cmp.Lexicographic.{nat_list_eq_equiv}
use Rattle.std.proofs.lemmas.Bool.{cases_Bool, false≢true}
use Rattle.std.proofs.lemmas.List.Sums.{sum_by-cons, sum_by-append}
use Rattle.std.proofs.lemmas.List.Folds.{list_any-append}
use Rattle.std.proofs.lemmas.List.Sorted.{list_any-IsPermutation}
use Rattle.gql_model.specs.declared.type_system.TypeSystemForm.{TypeSystemForm}
use Rattle.gql_model.specs.declared.type_system.TypeSystemForm.TheVariants as form
use Rattle.schema_model.specs.declared.schema.SchemaDirective.{SchemaDirective}
use Rattle.schema_model.specs.Schemas.{NamedType}
use Rattle.schema_model.specs.Tables.{entry, put, tabled}
use Rattle.schema_rules.specs.Lines.{Mark, earlier, least_by}
use Rattle.schema_defaults.specs.Repetitions.{repeated}
use Rattle.gql_schema.specs.Ignored.{scalars}
use Rattle.gql_schema.specs.Meaning.{scalar_entry, type_entries, directive_entries, types_of, schema_of}
use Rattle.gql_schema.specs.Repeated.{scalar_marks, repeated_in, repeated_line}
use Rattle.schema_order.proofs.FirstLaws.{tick}
use Rattle.schema_order.proofs.FaultLaws.{any_flat_map}
use Rattle.schema_order.proofs.TabledLaws.{placed_from}
use Rattle.schema_order.proofs.OrderLaws.{of_name, has_name, at_most_once, earlier_parts, type_marks_of, directive_marks_of, schema_marks_of}

-- ---- a table of pairs of which no two have one name

-- how many pairs have a name
abbrev pub named : {X : Type 0} → List ℕ → List (List ℕ × X) → ℕ
named name ps = count_by (λ p. bytes_eq name p.0) ps

named_append : {X : Type 0} (name : List ℕ) (ps qs : List (List ℕ × X)) → named name (ps ++ qs) ≡ named name ps + named name qs
named_append name ps qs = sum_by-append (λ p. tick (bytes_eq name p.0)) ps qs

pub named_cons : {X : Type 0} (name : List ℕ) (p : List ℕ × X) (ps : List (List ℕ × X)) → named name (p ∷ ps) ≡ tick (bytes_eq name p.0) + named name ps
named_cons name p ps = sum_by-cons (λ q. tick (bytes_eq name q.0)) p ps

-- a name that is found is counted
some_named : {X : Type 0} (name : List ℕ) (ps : List (List ℕ × X)) → is_some (entry ps name) ≡ true → 1 ≤ named name ps
some_named name [] e = absurd (false≢true e)
some_named name (p ∷ ps) e =
    let step = named_cons name p ps in
    ⊎_elim
    (λ here. let one : tick (bytes_eq name p.0) ≡ 1 = ap tick here in omega arith)
    (λ not_here.
    let rest = some_named name ps (sym (ap (λ b. is_some (cond b (Some p.1) (entry ps name))) not_here) ∙ e) in
    omega arith)
    (cases_Bool (bytes_eq name p.0))

put_new : {X : Type 0} (ps : List (List ℕ × X)) (p : List ℕ × X) → is_some (entry ps p.0) ≡ false → put ps p ≡ ps ++ p ∷ []
put_new ps p e = ap (λ b. cond b ps (ps ++ p ∷ [])) (placed_from p.0 0 ps ∙ e)

put_all : {X : Type 0} (known ps : List (List ℕ × X)) → ((name : List ℕ) → named name (known ++ ps) ≤ 1) → fold put known ps ≡ known ++ ps
put_all known [] few = sym (append-nil known)
put_all known (p ∷ ps) few =
    ap (λ l. fold put l ps) (put_new known p new)
    ∙ put_all (known ++ p ∷ []) ps (λ name. subst (λ l. named name l ≤ 1) (sym regrouped) (few name))
    ∙ regrouped
  where
    regrouped : (known ++ p ∷ []) ++ ps ≡ known ++ p ∷ ps
    regrouped = append_assoc known (p ∷ []) ps

    new : is_some (entry known p.0) ≡ false
    new =
        ⊎_elim
        (λ there.
        let before = some_named p.0 known there in
        let all = named_append p.0 known (p ∷ ps) in
        let step = named_cons p.0 p ps in
        let one : tick (bytes_eq p.0 p.0) ≡ 1 = ap tick (nat_list_eq_equiv.refl p.0) in
        let most = few p.0 in
        absurd (omega arith))
        (λ not_there. not_there)
        (cases_Bool (is_some (entry known p.0)))

tabled_once : {X : Type 0} (ps : List (List ℕ × X)) → ((name : List ℕ) → named name ps ≤ 1) → tabled ps ≡ ps
tabled_once ps few = put_all [] ps few

-- ---- the pairs of definitions, and their marks

pairs_counted : {X : Type 0} (entries : TypeSystemForm → List (List ℕ × X)) (marks : TypeSystemForm → List Mark) (name : List ℕ)
    → ((d : TypeSystemForm) → named name (entries d) ≡ of_name name (marks d))
    → (ds : List TypeSystemForm) → named name (flat_map entries ds) ≡ of_name name (flat_map marks ds)
pairs_counted entries marks name each [] = refl
pairs_counted entries marks name each (d ∷ ds) =
    let here = each d in
    let rest = pairs_counted entries marks name each ds in
    let left = named_append name (entries d) (flat_map entries ds) in
    let right : of_name name (marks d ++ flat_map marks ds) ≡ of_name name (marks d) + of_name name (flat_map marks ds) =
    sum_by-append (λ k. tick (has_name name k)) (marks d) (flat_map marks ds) in
    omega arith

type_counted : (name : List ℕ) (d : TypeSystemForm) → named name (type_entries d) ≡ of_name name (type_marks_of d)
type_counted name (form.Schema d) = refl
type_counted name (form.Scalar d) = refl
type_counted name (form.Object d) = refl
type_counted name (form.Interface d) = refl
type_counted name (form.Union d) = refl
type_counted name (form.Enum d) = refl
type_counted name (form.Input d) = refl
type_counted name (form.Directive d) = refl

directive_counted : (name : List ℕ) (d : TypeSystemForm) → named name (directive_entries d) ≡ of_name name (directive_marks_of d)
directive_counted name (form.Directive d) = refl
directive_counted name _ = refl

-- ---- the types and the directives of a schema

abbrev pub listed_types : List TypeSystemForm → List NamedType
listed_types ds = map scalar_entry scalars ++ flat_map type_entries ds

module _ (ds : List TypeSystemForm) (once : repeated_line ds ≡ None) where
  fronts : (repeated (scalar_marks ++ flat_map type_marks_of ds) ≡ None) × (repeated (flat_map directive_marks_of ds) ≡ None)
  fronts =
      let types = repeated (scalar_marks ++ flat_map type_marks_of ds) in
      let directives = repeated (flat_map directive_marks_of ds) in
      let schemas = repeated (flat_map schema_marks_of ds) in
      let both = earlier_parts (earlier types directives) (earlier schemas (least_by repeated_in ds)) once in
      earlier_parts types directives both.0

  pub one_type_each : (name : List ℕ) → named name (listed_types ds) ≤ 1
  one_type_each name =
      let most = at_most_once name (scalar_marks ++ flat_map type_marks_of ds) fronts.0 in
      let left = named_append name (map scalar_entry scalars) (flat_map type_entries ds) in
      let right : of_name name (scalar_marks ++ flat_map type_marks_of ds) ≡ of_name name scalar_marks + of_name name (flat_map type_marks_of ds) =
      sum_by-append (λ k. tick (has_name name k)) scalar_marks (flat_map type_marks_of ds) in
      let front : named name (map scalar_entry scalars) ≡ of_name name scalar_marks = refl in
      let back = pairs_counted type_entries type_marks_of name (type_counted name) ds in
      omega arith

  pub types_are : types_of ds ≡ listed_types ds
  types_are = tabled_once (listed_types ds) one_type_each

  pub directives_are : (schema_of ds).directives ≡ flat_map directive_entries ds
  directives_are =
      tabled_once (flat_map directive_entries ds) (λ name.
      let most = at_most_once name (flat_map directive_marks_of ds) fronts.1 in
      let same = pairs_counted directive_entries directive_marks_of name (directive_counted name) ds in
      omega arith)

-- what some part of definitions passes, some part of them in another order passes
any_part : {X : Type 0} (p : X → Bool) (entries : TypeSystemForm → List X) (ds es : List TypeSystemForm) → IsPermutation ds es
    → list_any p (flat_map entries ds) ≡ list_any p (flat_map entries es)
any_part p entries ds es shuffled =
    any_flat_map p entries ds
    ∙ list_any-IsPermutation (λ d. list_any p (entries d)) ds es shuffled
    ∙ sym (any_flat_map p entries es)

module _ (ds es : List TypeSystemForm) (shuffled : IsPermutation ds es) (left : repeated_line ds ≡ None) (right : repeated_line es ≡ None) where
  pub any_type : (p : NamedType → Bool) → list_any p (types_of ds) ≡ list_any p (types_of es)
  any_type p =
      let front = map scalar_entry scalars in
      ap (list_any p) (types_are ds left)
      ∙ list_any-append p front (flat_map type_entries ds)
      ∙ ap (λ b. list_any p front || b) (any_part p type_entries ds es shuffled)
      ∙ sym (list_any-append p front (flat_map type_entries es))
      ∙ sym (ap (list_any p) (types_are es right))

  pub any_directive : (p : List ℕ × SchemaDirective → Bool) → list_any p (schema_of ds).directives ≡ list_any p (schema_of es).directives
  any_directive p =
      ap (list_any p) (directives_are ds left)
      ∙ any_part p directive_entries ds es shuffled
      ∙ sym (ap (list_any p) (directives_are es right))
