-- The graph of defaults: each input field has a number, and no field is on a circle.
use Rattle.std.proofs.Common.{◌≡◌, ℕ, zero, suc, ◌+◌, ◌<◌, Bool, true, false, List, [], ◌∷◌, length, take, get_or, refl, ap, ap₂, sym, ◌∙◌, subst, arith, ⊎_elim, zero-add}
use Rattle.std.specs.Prelude.{Option, None, Some, slice_get, min}
use Rattle.std.specs.Option.{option_map}
use Rattle.std.specs.List.{AllByRecursion, flat_map, fold, zip}
use Rattle.std.proofs.lemmas.Bool.{false≢true, both_ways, cases_lt}
use Rattle.std.proofs.lemmas.List.{length-map, length-append, get_or_past}
use Rattle.std.proofs.lemmas.List.Concat.{get_or-flat_map}
use Rattle.std.proofs.lemmas.List.Folds.{length-flat_map-take}
use Rattle.std.proofs.lemmas.List.FromFn.{get_or-map-range_with_len, length-map-range_with_len}
use Rattle.std.proofs.lemmas.Option.{slice_get_within, get_or_from_slice_get, slice_get-map}
use Rattle.schema_model.specs.declared.schema.Schema.{Schema}
use Rattle.schema_model.specs.declared.schema.InputValue.{InputValue}
use Rattle.schema_model.specs.declared.schema.TypeForm.{TypeForm}
use Rattle.schema_model.specs.declared.schema.TypeForm.TheVariants as form
use Rattle.schema_model.specs.Schemas.{NamedType}
use Rattle.schema_rules.specs.Lines.{earlier, least_by}
use Rattle.schema_circles.specs.Marked.{marked_line}
use Rattle.schema_circles.specs.Fillings.{input_fields, lines_in, field_lines, first_number, first_numbers, default_fills, fields_fill, filling_graph, fills_itself_line}
use Rattle.digraph.specs.Walks.{Graph, is_among, leads, IsWalk, reaches, circled, successors}
use Rattle.digraph.specs.Laws.{WalksAreDecided}
use Rattle.gql_coercion.specs.Settled.{form_fields, field_count}
use Rattle.default_laws.specs.Ranks.{HasNoCircle}
use Rattle.default_laws.specs.Settling.{IsFieldAt}

-- ---- lengths

-- what the defaults of a type have filled in
abbrev pub piece : Schema → List ℕ → NamedType → List (List ℕ)
piece schema firsts type = fields_fill schema firsts (input_fields type.1.form)

pub lengths_same : (schema : Schema) (firsts : List ℕ) (types : List NamedType) → length (filling_graph schema firsts types) ≡ length (field_lines types)
lengths_same schema firsts [] = refl
lengths_same schema firsts (t ∷ types) =
    length-append (piece schema firsts t) (filling_graph schema firsts types)
    ∙ ap₂ (λ (n m : ℕ). n + m)
    (length-map (input_fields t.1.form) (λ (f : List ℕ × InputValue). default_fills schema firsts f.1) ∙ sym (length-map (input_fields t.1.form) (λ (f : List ℕ × InputValue). f.1.line)))
    (lengths_same schema firsts types)
    ∙ sym (length-append (lines_in t) (field_lines types))

form_length : (shape : TypeForm) → length (input_fields shape) ≡ form_fields shape
form_length (form.Input fields) = refl
form_length form.Scalar = refl
form_length (form.Object parts) = refl
form_length (form.Interface parts) = refl
form_length (form.Union members) = refl
form_length (form.Enum values) = refl

lines_count : (types : List NamedType) → length (field_lines types) ≡ field_count types
lines_count [] = refl
lines_count (t ∷ types) =
    length-append (lines_in t) (field_lines types)
    ∙ ap₂ (λ (n m : ℕ). n + m) (length-map (input_fields t.1.form) (λ (f : List ℕ × InputValue). f.1.line) ∙ form_length t.1.form) (lines_count types)

-- a node for each input field
pub graph_length : (schema : Schema) (firsts : List ℕ) (types : List NamedType) → length (filling_graph schema firsts types) ≡ field_count types
graph_length schema firsts types = lengths_same schema firsts types ∙ lines_count types

-- ---- a field's node

abbrev pub graph_of : Schema → Graph
graph_of schema = filling_graph schema (first_numbers schema.types) schema.types

-- the number of a field
abbrev pub number_of : Schema → ℕ → ℕ → ℕ
number_of schema place at = first_number schema.types place + at

pub first_is : (schema : Schema) (place : ℕ) → place < length schema.types → get_or (first_numbers schema.types) place 0 ≡ first_number schema.types place
first_is schema place l = get_or-map-range_with_len (first_number schema.types) 0 (length schema.types) place place 0 l (zero-add place)

pub node_is : (schema : Schema) (place : ℕ) (type : NamedType) (at : ℕ) (field : List ℕ × InputValue) → IsFieldAt schema place type at field
    → (successors (graph_of schema) (number_of schema place at) ≡ default_fills schema (first_numbers schema.types) field.1) × (number_of schema place at < length (graph_of schema))
node_is schema place type at field (type_is, field_is) =
    let firsts = first_numbers schema.types in
    let types = schema.types in
    let f = λ (t : NamedType). piece schema firsts t in
    let inside = slice_get_within types place type type_is in
    let got : get_or types place type ≡ type = get_or_from_slice_get types place type type type_is in
    let fills = default_fills schema firsts field.1 in
    let node : slice_get (f type) at ≡ Some fills =
    slice_get-map (λ (d : List ℕ × InputValue). default_fills schema firsts d.1) (input_fields type.1.form) at
    ∙ ap (option_map (λ (d : List ℕ × InputValue). default_fills schema firsts d.1)) field_is in
    let within : at < length (f type) = slice_get_within (f type) at fills node in
    let before : length (flat_map f (take place types)) ≡ first_number types place = lengths_same schema firsts (take place types) in
    let there : at < length (f (get_or types place type)) = subst (λ (t : NamedType). at < length (f t)) (sym got) within in
    let upto = length-flat_map-take f types place type inside in (
      ap (λ (n : ℕ). get_or (flat_map f types) (n + at) []) (sym before)
          ∙ get_or-flat_map f types place at type [] inside there
          ∙ ap (λ (t : NamedType). get_or (f t) at []) got
          ∙ get_or_from_slice_get (f type) at fills [] node,
      omega (arith, upto, there, before),
    )

-- ---- no circle

after_some : {X : Type 0} (line : X → Option ℕ) (xs : List X) (a : ℕ) (o : Option ℕ) → ((c : ℕ) → fold (λ least x. earlier least (line x)) (Some c) xs ≡ None → ⊥)
    → fold (λ least x. earlier least (line x)) (earlier (Some a) o) xs ≡ None → ⊥
after_some line xs a None stays e = stays a e
after_some line xs a (Some b) stays e = stays (min a b) e

some_stays : {X : Type 0} (line : X → Option ℕ) (xs : List X) (a : ℕ) → fold (λ least x. earlier least (line x)) (Some a) xs ≡ None → ⊥
some_stays line [] a e = absurd (cc)
some_stays line (x ∷ xs) a e = after_some line xs a (line x) (some_stays line xs) e

none_case : {X : Type 0} (line : X → Option ℕ) (x : X) (xs : List X) (o : Option ℕ) → line x ≡ o → (least_by line xs ≡ None → AllByRecursion (λ y. line y ≡ None) xs)
    → fold (λ least y. earlier least (line y)) o xs ≡ None → AllByRecursion (λ y. line y ≡ None) (x ∷ xs)
none_case line x xs None is later e = (is, later e)
none_case line x xs (Some a) is later e = absurd (some_stays line xs a e)

-- where there is no least line, there is none
pub no_line : {X : Type 0} (line : X → Option ℕ) (xs : List X) → least_by line xs ≡ None → AllByRecursion (λ x. line x ≡ None) xs
no_line line [] e = tt
no_line line (x ∷ xs) e = none_case line x xs (line x) refl (no_line line xs) e

pub neither_line : (a b : Option ℕ) → earlier a b ≡ None → (a ≡ None) × (b ≡ None)
neither_line None b e = (refl, e)
neither_line (Some a) None e = absurd (cc)
neither_line (Some a) (Some b) e = absurd (cc)

unmarked : (mark : Bool) (line : ℕ) → marked_line (mark, line) ≡ None → mark ≡ false
unmarked true line e = absurd (cc)
unmarked false line e = refl

none_marked : (marks : List Bool) (lines : List ℕ) → length marks ≡ length lines → AllByRecursion (λ p. marked_line p ≡ None) (zip marks lines) → (a : ℕ) → get_or marks a false ≡ false
none_marked [] lines same all a = refl
none_marked (m ∷ marks) [] same all a = absurd (omega (arith, same))
none_marked (m ∷ marks) (l ∷ lines) same (here, more) zero = unmarked m l here
none_marked (m ∷ marks) (l ∷ lines) same (here, more) (suc a) = none_marked marks lines (omega (arith, same)) more a

first_leads : (graph : Graph) (a : ℕ) (between : List ℕ) (b : ℕ) → IsWalk graph a between b → (c : ℕ) × (leads graph a c ≡ true)
first_leads graph a [] b walk = (b, walk)
first_leads graph a (c ∷ between) b walk = (c, walk.0)

leads_within : (graph : Graph) (a c : ℕ) → leads graph a c ≡ true → a < length graph
leads_within graph a c step =
    ⊎_elim (λ l. l)
    (λ past. absurd (false≢true (ap (is_among c) (sym (get_or_past graph a [] past)) ∙ step)))
    (cases_lt a (length graph))

-- no default is on a circle
pub no_circle : WalksAreDecided → (schema : Schema) → fills_itself_line schema ≡ None → HasNoCircle (graph_of schema)
no_circle decided schema none a walk =
    let graph = graph_of schema in
    let step = first_leads graph a walk.0 a walk.1 in
    let l = leads_within graph a step.0 step.1 in
    let marked : get_or (circled graph) a false ≡ reaches graph a a = get_or-map-range_with_len (λ (x : ℕ). reaches graph x x) 0 (length graph) a a false l (zero-add a) in
    let long : length (circled graph) ≡ length (field_lines schema.types) =
    length-map-range_with_len (λ (x : ℕ). reaches graph x x) 0 (length graph) ∙ lengths_same schema (first_numbers schema.types) schema.types in
    both_ways (reaches graph a a)
    (sym marked ∙ none_marked (circled graph) (field_lines schema.types) long (no_line marked_line (zip (circled graph) (field_lines schema.types)) none) a)
    ((decided graph a a).1 walk)
