-- A schema whose lines and places are blanked, and what look-ups in it find.
use Rattle.std.proofs.Common.{◌≡◌, ℕ, zero, suc, ◌+◌, Bool, true, false, cond, ◌&&◌, ◌||◌, List, [], ◌∷◌, ◌++◌, map, length, take, slice_get, refl, sym, ap, ◌∙◌, Option, Some, None, is_some, is_none, option_map, bytes_eq}
use Rattle.std.specs.List.{fold, list_any, list_all, position_from}
use Rattle.std.specs.Option.{option_map_or}
use Rattle.schema_model.specs.declared.schema.Schema.{Schema}
use Rattle.schema_model.specs.declared.schema.SchemaType.{SchemaType}
use Rattle.schema_model.specs.declared.schema.SchemaField.{SchemaField}
use Rattle.schema_model.specs.declared.schema.SchemaDirective.{SchemaDirective}
use Rattle.schema_model.specs.declared.schema.InputValue.{InputValue}
use Rattle.schema_model.specs.declared.schema.Interfaced.{Interfaced}
use Rattle.schema_model.specs.declared.schema.RootName.{RootName}
use Rattle.schema_model.specs.declared.schema.RootNames.{RootNames}
use Rattle.schema_model.specs.declared.schema.TypeForm.{TypeForm}
use Rattle.schema_model.specs.declared.schema.TypeForm.TheVariants as form
use Rattle.schema_model.specs.Tables.{place_of, entry, put, tabled}
use Rattle.schema_rules.specs.Lines.{least_by}
use Rattle.gql_printing.specs.Places.{bare_names, bare_literal, bare_type}
use Rattle.schema_order.proofs.FaultLaws.{some_least}

-- ---- tables whose values are changed and whose names stay

abbrev pub over : {X Y : Type 0} → (X → Y) → List ℕ × X → List ℕ × Y
over f p = (p.0, f p.1)

abbrev pub mapped : {X Y : Type 0} → (X → Y) → List (List ℕ × X) → List (List ℕ × Y)
mapped f ps = map (over f) ps

pub map_append : {X Y : Type 0} (f : X → Y) (xs ys : List X) → map f (xs ++ ys) ≡ map f xs ++ map f ys
map_append f [] ys = refl
map_append f (x ∷ xs) ys = ap (λ l. f x ∷ l) (map_append f xs ys)

pub map_length : {X Y : Type 0} (f : X → Y) (xs : List X) → length (map f xs) ≡ length xs
map_length f [] = refl
map_length f (x ∷ xs) = ap (λ n. suc n) (map_length f xs)

module _ {X Y : Type 0} (f : X → Y) where
  position_mapped : (name : List ℕ) (i : ℕ) (ps : List (List ℕ × X)) → position_from (λ q. bytes_eq name q.0) i (mapped f ps) ≡ position_from (λ q. bytes_eq name q.0) i ps
  position_mapped name i [] = refl
  position_mapped name i (p ∷ ps) = ap (cond (bytes_eq name p.0) (Some i)) (position_mapped name (i + 1) ps)

  pub place_mapped : (name : List ℕ) (ps : List (List ℕ × X)) → place_of (mapped f ps) name ≡ place_of ps name
  place_mapped name ps = position_mapped name 0 ps

  entry_case : (b : Bool) (x : X) (o : Option Y) (u : Option X) → o ≡ option_map f u → cond b (Some (f x)) o ≡ option_map f (cond b (Some x) u)
  entry_case true x o u e = refl
  entry_case false x o u e = e

  pub entry_mapped : (name : List ℕ) (ps : List (List ℕ × X)) → entry (mapped f ps) name ≡ option_map f (entry ps name)
  entry_mapped name [] = refl
  entry_mapped name (p ∷ ps) = entry_case (bytes_eq name p.0) p.1 (entry (mapped f ps) name) (entry ps name) (entry_mapped name ps)

  put_case : (b : Bool) (ps : List (List ℕ × X)) (p : List ℕ × X) → cond b (mapped f ps) (mapped f ps ++ over f p ∷ []) ≡ mapped f (cond b ps (ps ++ p ∷ []))
  put_case true ps p = refl
  put_case false ps p = sym (map_append (over f) ps (p ∷ []))

  put_mapped : (ps : List (List ℕ × X)) (p : List ℕ × X) → put (mapped f ps) (over f p) ≡ mapped f (put ps p)
  put_mapped ps p =
      ap (λ (o : Option ℕ). cond (is_some o) (mapped f ps) (mapped f ps ++ over f p ∷ [])) (place_mapped p.0 ps)
      ∙ put_case (is_some (place_of ps p.0)) ps p

  fold_mapped : (known ps : List (List ℕ × X)) → fold put (mapped f known) (mapped f ps) ≡ mapped f (fold put known ps)
  fold_mapped known [] = refl
  fold_mapped known (p ∷ ps) = ap (λ l. fold put l (mapped f ps)) (put_mapped known p) ∙ fold_mapped (put known p) ps

  pub tabled_mapped : (ps : List (List ℕ × X)) → tabled (mapped f ps) ≡ mapped f (tabled ps)
  tabled_mapped ps = fold_mapped [] ps

  pub some_map : (o : Option X) → is_some (option_map f o) ≡ is_some o
  some_map None = refl
  some_map (Some x) = refl

  pub none_map : (o : Option X) → is_none (option_map f o) ≡ is_none o
  none_map None = refl
  none_map (Some x) = refl

  pub map_or_map : {Z : Type 0} (p : Y → Z) (q : X → Z) (d : Z) → ((x : X) → p (f x) ≡ q x) → (o : Option X) → option_map_or p (option_map f o) d ≡ option_map_or q o d
  map_or_map p q d each None = refl
  map_or_map p q d each (Some x) = each x

  pub slice_map : (xs : List X) (i : ℕ) → slice_get (map f xs) i ≡ option_map f (slice_get xs i)
  slice_map [] i = refl
  slice_map (x ∷ xs) zero = refl
  slice_map (x ∷ xs) (suc i) = slice_map xs i

  pub take_map : (i : ℕ) (xs : List X) → take i (map f xs) ≡ map f (take i xs)
  take_map zero xs = refl
  take_map (suc i) [] = refl
  take_map (suc i) (x ∷ xs) = ap (λ l. f x ∷ l) (take_map i xs)

  any_map : (p : Y → Bool) (q : X → Bool) → ((x : X) → p (f x) ≡ q x) → (xs : List X) → list_any p (map f xs) ≡ list_any q xs
  any_map p q each [] = refl
  any_map p q each (x ∷ xs) = ap (λ b. b || list_any p (map f xs)) (each x) ∙ ap (λ b. q x || b) (any_map p q each xs)

  pub all_map : (p : Y → Bool) (q : X → Bool) → ((x : X) → p (f x) ≡ q x) → (xs : List X) → list_all p (map f xs) ≡ list_all q xs
  all_map p q each [] = refl
  all_map p q each (x ∷ xs) = ap (λ b. b && list_all p (map f xs)) (each x) ∙ ap (λ b. q x && b) (all_map p q each xs)

  -- a least line is there where it was
  pub least_map : (line : Y → Option ℕ) (other : X → Option ℕ) → ((x : X) → is_some (line (f x)) ≡ is_some (other x)) → (xs : List X)
      → is_some (least_by line (map f xs)) ≡ is_some (least_by other xs)
  least_map line other each xs =
      some_least line (map f xs) ∙ any_map (λ y. is_some (line y)) (λ x. is_some (other x)) each xs ∙ sym (some_least other xs)

-- ---- blank schemas

abbrev pub blank_line : ℕ → ℕ
blank_line n = 0

abbrev pub blank_input : InputValue → InputValue
blank_input i = record { line = 0; input_type = bare_type i.input_type; default = option_map bare_literal i.default }

abbrev pub blank_field : SchemaField → SchemaField
blank_field f = record { line = 0; arguments = mapped blank_input f.arguments; field_type = bare_type f.field_type }

abbrev pub blank_parts : Interfaced → Interfaced
blank_parts p = record { interfaces = mapped blank_line p.interfaces; fields = mapped blank_field p.fields }

abbrev pub blank_form : TypeForm → TypeForm
blank_form form.Scalar = form.Scalar
blank_form (form.Object parts) = form.Object (blank_parts parts)
blank_form (form.Interface parts) = form.Interface (blank_parts parts)
blank_form (form.Union members) = form.Union (mapped blank_line members)
blank_form (form.Enum values) = form.Enum (mapped blank_line values)
blank_form (form.Input fields) = form.Input (mapped blank_input fields)

abbrev pub blank_type : SchemaType → SchemaType
blank_type t = record { line = 0; form = blank_form t.form }

abbrev pub blank_directive : SchemaDirective → SchemaDirective
blank_directive d = record { line = 0; arguments = mapped blank_input d.arguments; repeatable = d.repeatable; locations = bare_names d.locations }

abbrev pub blank_root : RootName → RootName
blank_root r = record { line = 0; text = r.text }

abbrev pub blank_roots : RootNames → RootNames
blank_roots r = record { query = option_map blank_root r.query; mutation = option_map blank_root r.mutation; subscription = option_map blank_root r.subscription }

-- a schema without its lines and places
abbrev pub blank : Schema → Schema
blank s = record { types = mapped blank_type s.types; directives = mapped blank_directive s.directives; roots = blank_roots s.roots }
