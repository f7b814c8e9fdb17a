-- Defaults that have themselves filled in, in another order.
use Rattle.std.proofs.Common.{◌≡◌, ℕ, suc, ◌+◌, ◌≤◌, ◌<◌, Bool, true, false, cond, List, [], ◌∷◌, ◌++◌, map, length, get_or, slice_get, refl, sym, ap, ◌∙◌, ⊎_elim, arith, Option, Some, None, is_some, unwrap_or}
use Rattle.std.specs.List.{AllByRecursion, flat_map}
use Rattle.std.specs.Option.{option_map_or}
use Rattle.std.proofs.lemmas.Bool.{false≢true}
use Rattle.gql_model.specs.declared.literal.Literal.{Literal, roll-Literal}
use Rattle.gql_model.specs.declared.literal.LiteralValue.{LiteralValue, roll-LiteralValue}
use Rattle.gql_model.specs.declared.literal.ObjectField.{ObjectField, roll-ObjectField}
use Rattle.gql_model.specs.declared.literal.LiteralValue.TheOpen.{Literal-F, LiteralValue-F, ObjectField-F}
use Rattle.gql_model.specs.declared.literal.LiteralValue.TheFolds.{fold-roll-Literal, fold-roll-LiteralValue, fold-roll-ObjectField, map-LiteralValue}
use Rattle.gql_model.specs.declared.type_ref.TypeRef.{TypeRef, out-TypeRef}
use Rattle.gql_model.specs.declared.type_ref.TypeRef.TheOpen.{TypeRef-F}
use Rattle.gql_model.proofs.Literals.{Level, OfParts, literal_induction}
use Rattle.schema_model.specs.declared.schema.Schema.{Schema}
use Rattle.schema_model.specs.declared.schema.SchemaType.{SchemaType}
use Rattle.schema_model.specs.declared.schema.InputValue.{InputValue}
use Rattle.schema_model.specs.declared.schema.TypeForm.{TypeForm}
use Rattle.schema_model.specs.declared.schema.TypeForm.TheVariants as form
use Rattle.schema_model.specs.Schemas.{NamedType}
use Rattle.schema_model.specs.Tables.{place_of, entry}
use Rattle.schema_rules.specs.TypeRefs.{named_type}
use Rattle.schema_defaults.specs.Repetitions.{meets}
use Rattle.digraph.specs.Walks.{is_among, leads, has_circle}
use Rattle.digraph.specs.Laws.{WalksAreDecided}
use Rattle.schema_circles.specs.Fillings.{input_fields, field_lines, first_number, first_numbers, Filling, FieldFilling, given_names, takes_default, left_out, field_fills, form_fills, place_fills, object_fills, list_fills, literal_step, value_step, field_step, literal_fills, value_fills, object_field_fills, default_fills, filling_graph, fills_itself_line}
use Rattle.schema_order.proofs.CircleLaws.{or_left, or_right, or_either, moved_circle, some_circled}
use Rattle.schema_order.proofs.FirstLaws.{cases}
use Rattle.schema_order.proofs.NeedsLaws.{among_append, one_itself, one_is, both_true}
use Rattle.schema_order.proofs.NumberLaws.{slice_within, decoded, decoded_at, first_is, node_at, node_is, as_many}
use Rattle.schema_order.proofs.PartsLaws.{named}
use Rattle.schema_order.proofs.PlaceLaws.{moved, moved_place, moved_pair, at_place, own_place}

module _ (a b : Schema) (found : (name : List ℕ) → entry a.types name ≡ entry b.types name) (few : (name : List ℕ) → named name a.types ≤ 1) where
  abbrev place : ℕ → ℕ
  place i = moved a.types b.types found few i

  abbrev numbered : Option (List ℕ × ℕ) → ℕ
  numbered o = option_map_or (λ q. first_number b.types (unwrap_or (place_of b.types q.0) 0) + q.1) o 0

  -- the number in the second schema of an input field of the first
  abbrev number : ℕ → ℕ
  number n = numbered (decoded a.types n)

  abbrev ones : List ℕ
  ones = first_numbers a.types

  abbrev others : List ℕ
  others = first_numbers b.types

  number_at : (k : ℕ) (p : NamedType) (j : ℕ) → slice_get a.types k ≡ Some p → j < length (input_fields p.1.form)
      → number (first_number a.types k + j) ≡ first_number b.types (place k) + j
  number_at k p j e l =
      ap numbered (decoded_at a.types k p j e l)
      ∙ ap (λ (o : Option ℕ). first_number b.types (unwrap_or o 0) + j)
      (moved_place a.types b.types found few p.0 k (own_place a.types k p (few p.0) e))

  number_from : (k : ℕ) (p : NamedType) (j : ℕ) → slice_get a.types k ≡ Some p → j < length (input_fields p.1.form)
      → number (get_or ones k 0 + j) ≡ get_or others (place k) 0 + j
  number_from k p j e l =
      let other = moved_pair a.types b.types found few k p e in
      ap (λ (n : ℕ). number (n + j)) (first_is a.types k p e)
      ∙ number_at k p j e l
      ∙ ap (λ (n : ℕ). n + j) (sym (first_is b.types (place k) other.0 other.1.0))

  -- ---- lists of numbers

  -- what is among the first numbers has its own number among the second
  abbrev Has : List ℕ → List ℕ → Type 0
  Has xs ys = (m : ℕ) → is_among m xs ≡ true → is_among (number m) ys ≡ true

  abbrev Moves : Filling → Filling → Type 0
  Moves f g = (t : TypeRef) → Has (f t) (g t)

  has_none : (ys : List ℕ) → Has [] ys
  has_none ys m e = absurd (false≢true e)

  has_both : (xs us ys vs : List ℕ) → Has xs ys → Has us vs → Has (xs ++ us) (ys ++ vs)
  has_both xs us ys vs front back m e =
      among_append (number m) ys vs
      ∙ ⊎_elim (λ here. or_left _ _ (front m here)) (λ behind. or_right _ _ (back m behind)) (or_either _ _ (sym (among_append m xs us) ∙ e))

  has_by : (xs us ys vs : List ℕ) → xs ≡ us → ys ≡ vs → Has us vs → Has xs ys
  has_by xs us ys vs left right has m e = ap (is_among (number m)) right ∙ has m (sym (ap (is_among m) left) ∙ e)

  -- ---- what an object literal leaves out

  has_default : (b : Bool) (n k : ℕ) → number n ≡ k → Has (cond b (n ∷ []) []) (cond b (k ∷ []) [])
  has_default true n k is m e =
      let same : m ≡ n = one_is m n e in
      ap (λ (c : ℕ). is_among c (k ∷ [])) (ap number same ∙ is) ∙ one_itself k
  has_default false n k is m e = absurd (false≢true e)

  has_left_out : (given : List ℕ → Bool) (n k : ℕ) (declared : List (List ℕ × InputValue))
      → ((j : ℕ) → j < length declared → number (n + j) ≡ k + j) → Has (left_out given n declared) (left_out given k declared)
  has_left_out given n k [] each = has_none []
  has_left_out given n k (d ∷ declared) each =
      let first : number n ≡ k =
      (let left : n ≡ n + 0 = omega arith in let right : k + 0 ≡ k = omega arith in ap number left ∙ each 0 (omega arith) ∙ right) in
      has_both (cond (takes_default given d) (n ∷ []) []) (left_out given (n + 1) declared) (cond (takes_default given d) (k ∷ []) []) (left_out given (k + 1) declared)
      (has_default (takes_default given d) n k first)
      (has_left_out given (n + 1) (k + 1) declared (λ j l.
      let left : (n + 1) + j ≡ n + suc j = omega arith in
      let right : k + suc j ≡ (k + 1) + j = omega arith in
      ap number left ∙ each (suc j) (omega arith) ∙ right))

  -- ---- literals

  abbrev MovesField : FieldFilling → FieldFilling → Type 0
  MovesField f g = (f.0 ≡ g.0) × Moves f.1 g.1

  abbrev OfValue : LiteralValue → Type 0
  OfValue v = Moves (value_fills a ones v) (value_fills b others v)

  abbrev OfLiteral : Literal → Type 0
  OfLiteral l = Moves (literal_fills a ones l) (literal_fills b others l)

  abbrev OfField : ObjectField → Type 0
  OfField f = MovesField (object_field_fills a ones f) (object_field_fills b others f)

  items_moved : (items : List Literal) → AllByRecursion OfLiteral items → (inner : TypeRef)
      → Has (flat_map (λ (fills : Filling). fills inner) (map (literal_fills a ones) items)) (flat_map (λ (fills : Filling). fills inner) (map (literal_fills b others) items))
  items_moved [] all inner = has_none []
  items_moved (l ∷ items) all inner = has_both _ _ _ _ (all.0 inner) (items_moved items all.1 inner)

  list_moved : (items : List Literal) → AllByRecursion OfLiteral items → (t : TypeRef-F TypeRef)
      → Has (list_fills (map (literal_fills a ones) items) t) (list_fills (map (literal_fills b others) items) t)
  list_moved items all (TypeRef-F.Named name required) = has_none []
  list_moved items all (TypeRef-F.List inner required) = items_moved items all inner

  abbrev fields_one : List ObjectField → List FieldFilling
  fields_one fields = map (object_field_fills a ones) fields

  abbrev fields_other : List ObjectField → List FieldFilling
  fields_other fields = map (object_field_fills b others) fields

  names_same : (fields : List ObjectField) → AllByRecursion OfField fields → given_names (fields_one fields) ≡ given_names (fields_other fields)
  names_same [] all = refl
  names_same (f ∷ fields) all =
      ap (λ (n : List ℕ). (n, 0) ∷ given_names (fields_one fields)) all.0.0
      ∙ ap (λ (ms : List (List ℕ × ℕ)). ((object_field_fills b others f).0, 0) ∷ ms) (names_same fields all.1)

  filled_case : (o : Option InputValue) (f g : Filling) → Moves f g
      → Has (option_map_or (λ i. f i.input_type.type_ref) o []) (option_map_or (λ i. g i.input_type.type_ref) o [])
  filled_case None f g moves = has_none []
  filled_case (Some i) f g moves = moves i.input_type.type_ref

  fields_moved : (declared : List (List ℕ × InputValue)) (fields : List ObjectField) → AllByRecursion OfField fields
      → Has (flat_map (field_fills declared) (fields_one fields)) (flat_map (field_fills declared) (fields_other fields))
  fields_moved declared [] all = has_none []
  fields_moved declared (f ∷ fields) all =
      let one = object_field_fills a ones f in
      let other = object_field_fills b others f in
      has_both (field_fills declared one) _ (field_fills declared other) _
      (has_by (field_fills declared one) (option_map_or (λ i. one.1 i.input_type.type_ref) (entry declared other.0) []) (field_fills declared other) (field_fills declared other)
      (ap (λ (n : List ℕ). option_map_or (λ i. one.1 i.input_type.type_ref) (entry declared n) []) all.0.0)
      refl
      (filled_case (entry declared other.0) one.1 other.1 all.0.1))
      (fields_moved declared fields all.1)

  form_moved : (n k : ℕ) (fields : List ObjectField) → AllByRecursion OfField fields → (t : TypeForm)
      → ((j : ℕ) → j < length (input_fields t) → number (n + j) ≡ k + j) → Has (form_fills n (fields_one fields) t) (form_fills k (fields_other fields) t)
  form_moved n k fields all (form.Input declared) each =
      has_both (flat_map (field_fills declared) (fields_one fields)) _ (flat_map (field_fills declared) (fields_other fields)) _
      (fields_moved declared fields all)
      (has_by _ (left_out (λ name. meets name (given_names (fields_other fields))) n declared) _ _
      (ap (λ (ms : List (List ℕ × ℕ)). left_out (λ name. meets name ms) n declared) (names_same fields all))
      refl
      (has_left_out (λ name. meets name (given_names (fields_other fields))) n k declared each))
  form_moved n k fields all _ each = has_none []

  place_moved : (k : ℕ) (p : NamedType) → slice_get a.types k ≡ Some p → (fields : List ObjectField) → AllByRecursion OfField fields
      → Has (place_fills a ones (fields_one fields) k) (place_fills b others (fields_other fields) (place k))
  place_moved k p e fields all =
      let other = moved_pair a.types b.types found few k p e in
      has_by _ (form_fills (get_or ones k 0) (fields_one fields) p.1.form) _ (form_fills (get_or others (place k) 0) (fields_other fields) p.1.form)
      (ap (λ (o : Option NamedType). option_map_or (λ t. form_fills (get_or ones k 0) (fields_one fields) t.1.form) o []) e)
      (ap (λ (o : Option NamedType). option_map_or (λ t. form_fills (get_or others (place k) 0) (fields_other fields) t.1.form) o []) other.1.0
      ∙ ap (λ (t : SchemaType). form_fills (get_or others (place k) 0) (fields_other fields) t.form) other.1.1)
      (form_moved (get_or ones k 0) (get_or others (place k) 0) fields all p.1.form (λ j l. number_from k p j e l))

  object_moved : (fields : List ObjectField) → AllByRecursion OfField fields → (name : List ℕ)
      → Has (object_fills a ones (fields_one fields) name) (object_fills b others (fields_other fields) name)
  object_moved fields all name =
      ⊎_elim
      (λ none.
      has_by _ [] _ _ (ap (λ (o : Option ℕ). option_map_or (place_fills a ones (fields_one fields)) o []) none) refl (has_none _))
      (λ k.
      let at = at_place a.types name k.0 k.1 in
      has_by _ (place_fills a ones (fields_one fields) k.0) _ (place_fills b others (fields_other fields) (place k.0))
      (ap (λ (o : Option ℕ). option_map_or (place_fills a ones (fields_one fields)) o []) k.1)
      (ap (λ (o : Option ℕ). option_map_or (place_fills b others (fields_other fields)) o []) (moved_place a.types b.types found few name k.0 k.1))
      (place_moved k.0 at.pair at.there fields all))
      (cases (place_of a.types name))

  abbrev one_level : Level → Filling
  one_level x = value_step a ones (map-LiteralValue LiteralValue Literal ObjectField Filling Filling FieldFilling (value_fills a ones) (literal_fills a ones) (object_field_fills a ones) x)

  abbrev other_level : Level → Filling
  other_level x = value_step b others (map-LiteralValue LiteralValue Literal ObjectField Filling Filling FieldFilling (value_fills b others) (literal_fills b others) (object_field_fills b others) x)

  level_moved : (x : Level) → OfParts OfLiteral OfField x → Moves (one_level x) (other_level x)
  level_moved (LiteralValue-F.Variable name) parts t = has_none []
  level_moved (LiteralValue-F.Integer text n) parts t = has_none []
  level_moved (LiteralValue-F.String text) parts t = has_none []
  level_moved (LiteralValue-F.Boolean v) parts t = has_none []
  level_moved LiteralValue-F.Null parts t = has_none []
  level_moved (LiteralValue-F.Enum word) parts t = has_none []
  level_moved (LiteralValue-F.List items) parts t = list_moved items parts (out-TypeRef t)
  level_moved (LiteralValue-F.Object fields) parts t = object_moved fields parts (named_type t)

  value_moved : (x : Level) → OfParts OfLiteral OfField x → OfValue (roll-LiteralValue x)
  value_moved x parts t =
      has_by _ (one_level x t) _ (other_level x t)
      (ap (λ (f : Filling). f t) (fold-roll-LiteralValue Filling Filling FieldFilling (value_step a ones) literal_step field_step x))
      (ap (λ (f : Filling). f t) (fold-roll-LiteralValue Filling Filling FieldFilling (value_step b others) literal_step field_step x))
      (level_moved x parts t)

  literal_as_value : (x : Literal-F LiteralValue Literal ObjectField) → OfValue x.value → OfLiteral (roll-Literal x)
  literal_as_value x claim t =
      has_by _ (value_fills a ones x.value t) _ (value_fills b others x.value t)
      (ap (λ (f : Filling). f t) (fold-roll-Literal Filling Filling FieldFilling (value_step a ones) literal_step field_step x))
      (ap (λ (f : Filling). f t) (fold-roll-Literal Filling Filling FieldFilling (value_step b others) literal_step field_step x))
      (claim t)

  field_as_literal : (x : ObjectField-F LiteralValue Literal ObjectField) → OfLiteral x.value → OfField (roll-ObjectField x)
  field_as_literal x claim =
      let one : object_field_fills a ones (roll-ObjectField x) ≡ (x.name.text, literal_fills a ones x.value) =
      fold-roll-ObjectField Filling Filling FieldFilling (value_step a ones) literal_step field_step x in
      let other : object_field_fills b others (roll-ObjectField x) ≡ (x.name.text, literal_fills b others x.value) =
      fold-roll-ObjectField Filling Filling FieldFilling (value_step b others) literal_step field_step x in (
        ap (λ (f : FieldFilling). f.0) one ∙ sym (ap (λ (f : FieldFilling). f.0) other),
        λ t. has_by _ (literal_fills a ones x.value t) _ (literal_fills b others x.value t)
            (ap (λ (f : FieldFilling). f.1 t) one) (ap (λ (f : FieldFilling). f.1 t) other) (claim t),
      )

  -- what a literal has filled in has its own number in the other schema, and is filled in there
  literal_moved : (l : Literal) → OfLiteral l
  literal_moved = literal_induction OfValue OfLiteral OfField value_moved literal_as_value field_as_literal

  -- ---- the graph

  default_case : (o : Option Literal) (t : TypeRef) → Has (option_map_or (λ l. literal_fills a ones l t) o []) (option_map_or (λ l. literal_fills b others l t) o [])
  default_case None t = has_none []
  default_case (Some l) t = literal_moved l t

  step : (n m : ℕ) → leads (filling_graph a ones a.types) n m ≡ true → leads (filling_graph b others b.types) (number n) (number m) ≡ true
  step n m e =
      let node = node_at (default_fills a ones) a.types n m e in
      let other = moved_pair a.types b.types found few node.place node.type node.type_there in
      let there : slice_get (input_fields other.0.1.form) node.at ≡ Some node.field =
      ap (λ (t : SchemaType). slice_get (input_fields t.form) node.at) other.1.1 ∙ node.field_there in
      let within = slice_within (input_fields node.type.1.form) node.at node.field node.field_there in
      let moved_number : number n ≡ first_number b.types (place node.place) + node.at =
      ap number node.number ∙ number_at node.place node.type node.at node.type_there within in
      ap (λ (k : ℕ). is_among (number m) (get_or (filling_graph b others b.types) k [])) moved_number
      ∙ ap (is_among (number m)) (node_is (default_fills b others) b.types (place node.place) other.0 node.at node.field other.1.0 there)
      ∙ default_case node.field.1.default node.field.1.input_type.type_ref m node.leads

  pub fills_moved : WalksAreDecided → has_circle (filling_graph a ones a.types) ≡ true → has_circle (filling_graph b others b.types) ≡ true
  fills_moved decided = moved_circle decided (filling_graph a ones a.types) (filling_graph b others b.types) number step

pub some_fills : (a : Schema) → is_some (fills_itself_line a) ≡ has_circle (filling_graph a (first_numbers a.types) a.types)
some_fills a =
    some_circled (filling_graph a (first_numbers a.types) a.types) (field_lines a.types) (as_many (default_fills a (first_numbers a.types)) a.types)

-- a default has itself filled in in one schema exactly where one does in the other
pub fills_same : WalksAreDecided → (a b : Schema) → ((name : List ℕ) → entry a.types name ≡ entry b.types name)
    → ((name : List ℕ) → named name a.types ≤ 1) → ((name : List ℕ) → named name b.types ≤ 1)
    → is_some (fills_itself_line a) ≡ is_some (fills_itself_line b)
fills_same decided a b found few_a few_b =
    some_fills a
    ∙ both_true _ _ (fills_moved a b found few_a decided) (fills_moved b a (λ name. sym (found name)) few_b decided)
    ∙ sym (some_fills b)
