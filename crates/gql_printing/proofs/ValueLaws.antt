-- What is written for values and types derives them again.
use Rattle.std.proofs.Common.{◌≡◌, ℕ, Bool, true, false, List, [], ◌∷◌, ◌++◌, Some, refl, sym, ap, subst, ◌∙◌, inl, inr, ◌⊎◌, append_assoc}
use Rattle.std.specs.Prelude.{codes, bytes_eq}
use Rattle.std.proofs.lemmas.Slice.Eq.{bytes_eq-Decides}
use Rattle.gql_value.specs.Text.{quoted}
use Rattle.gql_tokens.specs.Tokens.{string_value_of, integer_value_of}
use Rattle.gql_tokens.specs.Heads.{is_last}
use Rattle.gql_tokens.specs.Places.{first_place}
use Rattle.gql_tokens.specs.declared.token.Kind.{Kind}
use Rattle.gql_tokens.specs.declared.token.Kind.TheVariants as kind
use Rattle.gql_tokens.proofs.Choices.{choice}
use Rattle.gql_spelling.specs.Spelling.{IsTextOf, printed_text, ArePrintable}
use Rattle.gql_spelling.proofs.Quotes.{quoted_value}
use Rattle.gql_spelling.proofs.Texts.{value_text}
use Rattle.gql_model.specs.declared.name.Name.{Name}
use Rattle.gql_model.specs.declared.literal.Literal.{Literal, roll-Literal}
use Rattle.gql_model.specs.declared.literal.LiteralValue.{LiteralValue, roll-LiteralValue}
use Rattle.gql_model.specs.declared.literal.ObjectField.{ObjectField, roll-ObjectField}
use Rattle.gql_model.specs.declared.literal.LiteralValue.TheOpen.{Literal-F, LiteralValue-F, ObjectField-F}
use Rattle.gql_model.specs.declared.literal.LiteralValue.TheFolds.{fold-roll-Literal, fold-roll-LiteralValue, fold-roll-ObjectField, map-LiteralValue}
use Rattle.gql_model.specs.declared.type_ref.TypeNode.{TypeNode}
use Rattle.gql_model.specs.declared.type_ref.TypeRef.{TypeRef, roll-TypeRef, fold-roll-TypeRef}
use Rattle.gql_model.specs.declared.type_ref.TypeRef.TheOpen.{TypeRef-F}
use Rattle.gql_model.specs.Rules.{Rule}
use Rattle.gql_model.specs.Literals.{plain_value, PlainRule, string_of, named_value, variable_of, list_of, object_of, literal_of, object_field_of, ListRule, ObjectRule, ObjectFieldRule, VariableRule, ValueOver, ValueRule}
use Rattle.gql_model.specs.Types.{type_of, of_name, of_type, TypeOver, TypeRule}
use Rattle.gql_printing.specs.Tokens.{Toks, token, punctuator, word}
use Rattle.gql_printing.specs.Literals as tokens
use Rattle.gql_printing.specs.Literals.{literal_tokens, value_tokens, object_field_tokens}
use Rattle.gql_printing.specs.Types.{type_tokens, type_step, bang_tokens}
use Rattle.gql_printing.specs.Places as places
use Rattle.gql_printing.specs.Places.{bare_name, bare_literal, bare_value, bare_object_field, bare_type}
use Rattle.gql_printing.specs.Executables.{name_tokens}
use Rattle.gql_printing.proofs.Joining.{is_calm, joins_one}
use Rattle.gql_printing.proofs.Again.{Again, Spells, single, spells_seq, spells_as, spells_made, spells_either, spells_unless, spells_here, spells_many, spells_behind, spells_between, spells_whether, spells_nested, both, both_tokens}
use Rattle.gql_printing.proofs.Tokens.{bang, dollar, colon, bracket_open, bracket_close, brace_open, brace_close, spells_name}

-- ---- one level of a value

value_roll : (v : LiteralValue-F LiteralValue Literal ObjectField) → value_tokens (roll-LiteralValue v) ≡ tokens.value_step (map-LiteralValue LiteralValue Literal ObjectField Toks Toks Toks value_tokens literal_tokens object_field_tokens v)
value_roll v = fold-roll-LiteralValue Toks Toks Toks tokens.value_step tokens.literal_step tokens.field_step v

value_bare : (v : LiteralValue-F LiteralValue Literal ObjectField) → bare_value (roll-LiteralValue v) ≡ roll-LiteralValue (map-LiteralValue LiteralValue Literal ObjectField LiteralValue Literal ObjectField bare_value bare_literal bare_object_field v)
value_bare v = fold-roll-LiteralValue LiteralValue Literal ObjectField places.value_step places.literal_step places.object_field_step v

literal_roll : (l : Literal-F LiteralValue Literal ObjectField) → literal_tokens (roll-Literal l) ≡ value_tokens l.value
literal_roll l = fold-roll-Literal Toks Toks Toks tokens.value_step tokens.literal_step tokens.field_step l

literal_bare : (l : Literal-F LiteralValue Literal ObjectField) → bare_literal (roll-Literal l) ≡ roll-Literal (record { place = first_place; value = bare_value l.value })
literal_bare l = fold-roll-Literal LiteralValue Literal ObjectField places.value_step places.literal_step places.object_field_step l

field_roll : (f : ObjectField-F LiteralValue Literal ObjectField) → object_field_tokens (roll-ObjectField f) ≡ word f.name.text ∷ punctuator kind.Colon ∷ literal_tokens f.value
field_roll f = fold-roll-ObjectField Toks Toks Toks tokens.value_step tokens.literal_step tokens.field_step f

field_bare : (f : ObjectField-F LiteralValue Literal ObjectField) → bare_object_field (roll-ObjectField f) ≡ roll-ObjectField (record { name = bare_name f.name; value = bare_literal f.value })
field_bare f = fold-roll-ObjectField LiteralValue Literal ObjectField places.value_step places.literal_step places.object_field_step f

-- ---- values of one token

again_plain : (k : Kind) (text : List ℕ) (v w : LiteralValue) → plain_value k text ≡ Some w → w ≡ v → value_tokens v ≡ token k text ∷ [] → IsTextOf k text → is_calm false k ≡ true → Again false PlainRule bare_value (bare_value v) (value_tokens v)
again_plain k text v w e same t h calm =
    subst (Again false PlainRule bare_value (bare_value v)) (sym t) (record {
      again = λ ts b.
          let one = single (k, text) ts b in
          (w, (one.0, one.1, ap (λ (x : Kind × List ℕ). plain_value x.0 x.1) one.2 ∙ e), ap bare_value same);
      spelled = (h, tt);
      joins = joins_one false (token k text) calm;
    })

same_text : (a b : List ℕ) → bytes_eq a b ≡ true → a ≡ b
same_text a b e = (bytes_eq-Decides a b).0 e

named_tokens : (text : List ℕ) → value_tokens (named_value text) ≡ word text ∷ []
named_tokens text =
    choice IsNamed (bytes_eq text (codes "true")) _ _ (λ e. value_roll (LiteralValue-F.Boolean true) ∙ spelled (codes "true") e)
    (λ _. choice IsNamed (bytes_eq text (codes "false")) _ _ (λ e. value_roll (LiteralValue-F.Boolean false) ∙ spelled (codes "false") e)
    (λ _. choice IsNamed (bytes_eq text (codes "null")) _ _ (λ e. value_roll LiteralValue-F.Null ∙ spelled (codes "null") e)
    (λ _. value_roll (LiteralValue-F.Enum text))))
  where
    IsNamed : LiteralValue → Type 0
    IsNamed v = value_tokens v ≡ word text ∷ []

    spelled : (w : List ℕ) → bytes_eq text w ≡ true → word w ∷ [] ≡ word text ∷ []
    spelled w e = ap (λ (t : List ℕ). word t ∷ []) (sym (same_text text w e))

some_is : (a b : LiteralValue) → Some a ≡ Some b → a ≡ b
some_is a b e = cc

abbrev Printable : Kind → List ℕ → Type 0
Printable k text = is_last k ≡ false → IsTextOf k (printed_text k text)

plain_by_kind : (k : Kind) (text : List ℕ) (v : LiteralValue) → plain_value k text ≡ Some v → Printable k text → Again false PlainRule bare_value (bare_value v) (value_tokens v)
plain_by_kind kind.Integer text v e h =
    again_plain kind.Integer text v v e refl (ap value_tokens (sym (some_is _ _ e)) ∙ value_roll (LiteralValue-F.Integer text (integer_value_of text))) (h refl) refl
plain_by_kind kind.String text v e h =
    let value = string_value_of text in
    let is : string_of text ≡ v = some_is _ _ e in
    let same : string_of (quoted value) ≡ v = ap (λ (t : List ℕ). roll-LiteralValue (LiteralValue-F.String t)) (quoted_value value (value_text text)) ∙ is in
    again_plain kind.String (quoted value) v (string_of (quoted value)) refl same (ap value_tokens (sym is) ∙ value_roll (LiteralValue-F.String value)) (value, (value_text text, refl)) refl
plain_by_kind kind.Name text v e h = again_plain kind.Name text v v e refl (ap value_tokens (sym (some_is _ _ e)) ∙ named_tokens text) (h refl) refl
plain_by_kind _ text v e h = absurd cc

spells_plain : Spells false PlainRule PlainRule bare_value value_tokens
spells_plain = record { law = λ front v r h. plain_by_kind r.0.kind r.0.text v r.2 (subst ArePrintable r.1 h).0 }

-- ---- values in values

spells_list : {R R' : Rule Literal} → Spells false R R' bare_literal literal_tokens → Spells false (ListRule R) (ListRule R') bare_value value_tokens
spells_list l =
    spells_as list_of bare_value value_tokens list_of (λ values. value_bare (LiteralValue-F.List values)) (λ values. value_roll (LiteralValue-F.List values))
    (spells_between bracket_open bracket_close (spells_many l) false)

spells_object_field : {R R' : Rule Literal} → Spells false R R' bare_literal literal_tokens → Spells false (ObjectFieldRule R) (ObjectFieldRule R') bare_object_field object_field_tokens
spells_object_field l =
    spells_as object_field_of bare_object_field object_field_tokens object_field_of (λ p. field_bare (record { name = p.0; value = p.1 })) (λ p. field_roll (record { name = p.0; value = p.1 }))
    (spells_seq spells_name (spells_behind (colon false) l))

spells_object : {R R' : Rule Literal} → Spells false R R' bare_literal literal_tokens → Spells false (ObjectRule R) (ObjectRule R') bare_value value_tokens
spells_object l =
    spells_as object_of bare_value value_tokens object_of (λ fields. value_bare (LiteralValue-F.Object fields)) (λ fields. value_roll (LiteralValue-F.Object fields))
    (spells_between brace_open brace_close (spells_many (spells_object_field l)) false)

spells_variable : Spells false VariableRule VariableRule bare_value value_tokens
spells_variable =
    spells_as variable_of bare_value value_tokens variable_of (λ n. value_bare (LiteralValue-F.Variable n.text)) (λ n. value_roll (LiteralValue-F.Variable n.text))
    (spells_behind (dollar false) spells_name)

value_over : (constant : Bool) (R R' : Rule Literal) → Spells false R R' bare_literal literal_tokens → Spells false (ValueOver constant R) (ValueOver constant R') bare_literal literal_tokens
value_over constant R R' l =
    spells_here (λ place place'. spells_made (literal_of place) (literal_of place') bare_literal literal_tokens (literal_of first_place)
    (λ v. literal_bare (record { place = place; value = v })) (λ v. literal_bare (record { place = place'; value = v })) (λ front v r. literal_roll (record { place = place; value = v }))
    (spells_either (spells_list l) (spells_either (spells_object l) (spells_either (spells_unless constant spells_variable) spells_plain))))

pub spells_value : (constant : Bool) → Spells false (ValueRule constant) (ValueRule constant) bare_literal literal_tokens
spells_value constant = spells_nested (ValueOver constant) (value_over constant)

-- ---- types

abbrev pub type_node_tokens : TypeNode → Toks
type_node_tokens t = type_tokens t.type_ref

type_roll : (t : TypeRef-F TypeRef) → type_tokens (roll-TypeRef t) ≡ type_step (Rattle.gql_model.specs.declared.type_ref.TypeRef.map-TypeRef TypeRef Toks type_tokens t)
type_roll t = fold-roll-TypeRef Toks type_step t

abbrev inner_tokens : Name ⊎ TypeNode → Toks
inner_tokens (inl name) = name_tokens name
inner_tokens (inr t) = punctuator kind.BracketOpen ∷ (type_node_tokens t ++ punctuator kind.BracketClose ∷ [])

abbrev bare_inner : Name ⊎ TypeNode → Name ⊎ TypeNode
bare_inner (inl name) = inl (bare_name name)
bare_inner (inr t) = inr (bare_type t)

bare_type_of : (p : (Name ⊎ TypeNode) × Bool) → bare_type (type_of p) ≡ type_of (both bare_inner (λ (b : Bool). b) p)
bare_type_of (inl name, b) = refl
bare_type_of (inr t, b) = refl

type_of_tokens : (p : (Name ⊎ TypeNode) × Bool) → type_node_tokens (type_of p) ≡ both_tokens inner_tokens bang_tokens p
type_of_tokens (inl name, b) = type_roll (TypeRef-F.Named name.text b)
type_of_tokens (inr t, b) =
    type_roll (TypeRef-F.List t.type_ref b)
    ∙ ap (λ (ts : Toks). punctuator kind.BracketOpen ∷ ts) (sym (append_assoc (type_tokens t.type_ref) (punctuator kind.BracketClose ∷ []) (bang_tokens b)))

type_over : {c : Bool} (R R' : Rule TypeNode) → Spells c R R' bare_type type_node_tokens → Spells c (TypeOver R) (TypeOver R') bare_type type_node_tokens
type_over {c} R R' l =
    spells_as type_of bare_type type_node_tokens type_of bare_type_of type_of_tokens
    (spells_seq
    (spells_either
    (spells_as of_name bare_inner inner_tokens of_name (λ n. refl) (λ n. refl) spells_name)
    (spells_as of_type bare_inner inner_tokens of_type (λ t. refl) (λ t. refl) (spells_between bracket_open bracket_close l c)))
    (spells_whether bang_tokens (bang c) refl refl))

pub spells_type : {c : Bool} → Spells c TypeRule TypeRule bare_type type_node_tokens
spells_type = spells_nested TypeOver type_over
