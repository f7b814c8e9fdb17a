-- Input objects that need themselves, in another order.
use Rattle.std.proofs.Common.{◌≡◌, ℕ, suc, ◌≤◌, Bool, true, false, ◌||◌, List, [], ◌∷◌, ◌++◌, map, length, refl, sym, ap, ◌∙◌, ⊎_elim, Option, Some, is_some, option_to_list, nat_eq, eq-eqb}
use Rattle.std.proofs.lemmas.Bool.{false≢true, eqb-true}
use Rattle.std.proofs.lemmas.List.Folds.{list_any-append}
use Rattle.gql_model.specs.declared.type_ref.TypeRef.{TypeRef, out-TypeRef}
use Rattle.gql_model.specs.declared.type_ref.TypeRef.TheOpen.{TypeRef-F}
use Rattle.schema_model.specs.declared.schema.Schema.{Schema}
use Rattle.schema_model.specs.declared.schema.InputValue.{InputValue}
use Rattle.schema_model.specs.declared.schema.TypeForm.{TypeForm}
use Rattle.schema_model.specs.declared.schema.TypeForm.TheVariants as form
use Rattle.schema_model.specs.declared.schema.SchemaType.{SchemaType}
use Rattle.schema_model.specs.Schemas.{NamedType}
use Rattle.schema_model.specs.Tables.{place_of, entry}
use Rattle.digraph.specs.Walks.{is_among, leads, has_circle}
use Rattle.digraph.specs.Laws.{WalksAreDecided}
use Rattle.schema_circles.specs.Needs.{needed_type, needed, needed_by, needs, needs_graph, type_lines, needs_itself_line}
use Rattle.schema_order.proofs.CircleLaws.{or_left, or_right, or_either, moved_circle, some_circled}
use Rattle.schema_order.proofs.FirstLaws.{cases}
use Rattle.schema_order.proofs.PartsLaws.{named}
use Rattle.schema_order.proofs.PlaceLaws.{moved, moved_place, moved_pair, among_at, given_at}

pub among_append : (j : ℕ) (xs ys : List ℕ) → is_among j (xs ++ ys) ≡ (is_among j xs || is_among j ys)
among_append j xs ys = list_any-append (nat_eq j) xs ys

pub one_itself : (n : ℕ) → is_among n (n ∷ []) ≡ true
one_itself n = or_left (nat_eq n n) false (eq-eqb n n refl)

pub one_is : (n m : ℕ) → is_among n (m ∷ []) ≡ true → n ≡ m
one_is n m h = ⊎_elim (λ here. eqb-true n m here) (λ behind. absurd (false≢true behind)) (or_either (nat_eq n m) false h)

module _ (a b : Schema) (found : (name : List ℕ) → entry a.types name ≡ entry b.types name) (few : (name : List ℕ) → named name a.types ≤ 1) where
  abbrev there : ℕ → ℕ
  there i = moved a.types b.types found few i

  place_needed : (j : ℕ) (name : List ℕ) → is_among j (option_to_list (place_of a.types name)) ≡ true → is_among (there j) (option_to_list (place_of b.types name)) ≡ true
  place_needed j name e =
      ⊎_elim
      (λ none. absurd (false≢true (sym (ap (λ (o : Option ℕ). is_among j (option_to_list o)) none) ∙ e)))
      (λ k.
      let is : is_among j (k.0 ∷ []) ≡ true = sym (ap (λ (o : Option ℕ). is_among j (option_to_list o)) k.1) ∙ e in
      let same : j ≡ k.0 = one_is j k.0 is in
      ap (λ (o : Option ℕ). is_among (there j) (option_to_list o)) (moved_place a.types b.types found few name k.0 k.1 ∙ ap (λ (n : ℕ). Some (there n)) (sym same))
      ∙ one_itself (there j))
      (cases (place_of a.types name))

  type_needed : (j : ℕ) (t : TypeRef-F TypeRef) → is_among j (option_to_list (needed_type a t)) ≡ true → is_among (there j) (option_to_list (needed_type b t)) ≡ true
  type_needed j (TypeRef-F.Named name true) e = place_needed j name e
  type_needed j (TypeRef-F.Named name false) e = absurd (false≢true e)
  type_needed j (TypeRef-F.List inner required) e = absurd (false≢true e)

  fields_needed : (j : ℕ) (fields : List (List ℕ × InputValue)) → is_among j (needed_by a fields) ≡ true → is_among (there j) (needed_by b fields) ≡ true
  fields_needed j [] e = absurd (false≢true e)
  fields_needed j (f ∷ fields) e =
      among_append (there j) (option_to_list (needed b f.1)) (needed_by b fields)
      ∙ ⊎_elim
      (λ here. or_left _ _ (type_needed j (out-TypeRef f.1.input_type.type_ref) here))
      (λ behind. or_right _ _ (fields_needed j fields behind))
      (or_either _ _ (sym (among_append j (option_to_list (needed a f.1)) (needed_by a fields)) ∙ e))

  form_needed : (j : ℕ) (t : TypeForm) → is_among j (needs a t) ≡ true → is_among (there j) (needs b t) ≡ true
  form_needed j (form.Input fields) e = fields_needed j fields e
  form_needed j _ e = absurd (false≢true e)

  step : (i j : ℕ) → leads (needs_graph a a.types) i j ≡ true → leads (needs_graph b b.types) (there i) (there j) ≡ true
  step i j e =
      let at = among_at (λ (t : NamedType). needs a t.1.form) a.types i j e in
      let other = moved_pair a.types b.types found few i at.0 at.1.0 in
      ap (is_among (there j)) (given_at (λ (t : NamedType). needs b t.1.form) b.types (there i) other.0 other.1.0)
      ∙ ap (λ (t : SchemaType). is_among (there j) (needs b t.form)) other.1.1
      ∙ form_needed j at.0.1.form at.1.1

  pub needs_moved : WalksAreDecided → has_circle (needs_graph a a.types) ≡ true → has_circle (needs_graph b b.types) ≡ true
  needs_moved decided = moved_circle decided (needs_graph a a.types) (needs_graph b b.types) there step

pub same_lengths : {X Y Z : Type 0} (f : X → Y) (g : X → Z) (xs : List X) → length (map f xs) ≡ length (map g xs)
same_lengths f g [] = refl
same_lengths f g (x ∷ xs) = ap (λ n. suc n) (same_lengths f g xs)

pub some_needs : (a : Schema) → is_some (needs_itself_line a) ≡ has_circle (needs_graph a a.types)
some_needs a = some_circled (needs_graph a a.types) (type_lines a.types) (same_lengths _ _ a.types)

pub both_true : (x y : Bool) → (x ≡ true → y ≡ true) → (y ≡ true → x ≡ true) → x ≡ y
both_true true y onward back = sym (onward refl)
both_true false true onward back = back refl
both_true false false onward back = refl

-- an input object needs itself in one schema exactly where one does in the other
pub needs_same : WalksAreDecided → (a b : Schema) → ((name : List ℕ) → entry a.types name ≡ entry b.types name)
    → ((name : List ℕ) → named name a.types ≤ 1) → ((name : List ℕ) → named name b.types ≤ 1)
    → is_some (needs_itself_line a) ≡ is_some (needs_itself_line b)
needs_same decided a b found few_a few_b =
    some_needs a
    ∙ both_true _ _ (needs_moved a b found few_a decided) (needs_moved b a (λ name. sym (found name)) few_b decided)
    ∙ sym (some_needs b)
