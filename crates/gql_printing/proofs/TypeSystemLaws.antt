-- What is written for type system definitions derives them again.
use Rattle.std.proofs.Common.{◌≡◌, ℕ, Bool, true, false, List, [], ◌∷◌, ◌++◌, map, Option, Some, None, refl, sym, ap, subst, ◌∙◌, IsUtf8}
use Rattle.std.specs.Prelude.{codes}
use Rattle.std.specs.Option.{option_map}
use Rattle.gql_value.specs.Text.{quoted}
use Rattle.gql_tokens.specs.Tokens.{string_value_of}
use Rattle.gql_tokens.specs.Places.{first_place}
use Rattle.gql_tokens.specs.declared.token.Kind.{Kind}
use Rattle.gql_tokens.specs.declared.token.Kind.TheVariants as kind
use Rattle.gql_tokens.specs.declared.token.Place.{Place}
use Rattle.gql_spelling.specs.Spelling.{mark_of, ArePrintable}
use Rattle.gql_spelling.proofs.Quotes.{quoted_value}
use Rattle.gql_spelling.proofs.Texts.{value_text}
use Rattle.gql_model.specs.declared.name.Name.{Name}
use Rattle.gql_model.specs.declared.type_system.RootOperation.{RootOperation}
use Rattle.gql_model.specs.Sorts.{mark}
use Rattle.gql_model.specs.Sorts as sorts
use Rattle.gql_model.specs.Selections.{DirectivesRule}
use Rattle.gql_model.specs.declared.selection.Directive.{Directive}
use Rattle.gql_printing.specs.Selections.{directives_tokens}
use Rattle.gql_model.specs.Rules.{Rule, Opt, Seq, Many, Made, Behind, Perhaps, cons}
use Rattle.gql_model.specs.Names.{NameRule}
use Rattle.gql_model.specs.TypeSystems as grammar
use Rattle.gql_model.specs.TypeSystems.{string_in, DescriptionRule, Braced, ListedBy, RootRule, SchemaRule, ScalarRule, InputRule, InputsRule, FieldDefinitionRule, ImplementsRule, CompositeRule, ObjectTypeRule, InterfaceRule, UnionRule, EnumValueRule, EnumRule, InputObjectRule, DirectiveDefinitionRule, FormRule, TypeSystemRule}
use Rattle.gql_printing.specs.Tokens.{Toks, word, optional, punctuator, string, listed}
use Rattle.gql_printing.specs.TypeSystems.{description_tokens, braced, root_tokens, input_tokens, inputs_tokens, field_definition_tokens, enum_value_tokens, implements_tokens, members_tokens, repeatable_tokens, composite_tokens, form_tokens, type_system_tokens}
use Rattle.gql_printing.specs.Places.{bare_names, bare_root, bare_input, bare_field_definition, bare_enum_value, bare_composite, bare_form, bare_type_system}
use Rattle.gql_printing.proofs.Joining.{joins_one}
use Rattle.gql_printing.proofs.Again.{Again, Spells, Fixed, printable_right, single, joined_by, spells_seq, spells_as, spells_made, spells_either, spells_here, spells_opt, spells_many, spells_more, spells_behind, spells_between, spells_perhaps, some_between, spells_grouped, spells_whether}
use Rattle.gql_printing.proofs.Tokens.{plain_calm, ampersand, paren_open, paren_close, colon, equals, at, brace_open, brace_close, pipe, keyword, spells_name, spells_enum_name}
use Rattle.gql_printing.proofs.ValueLaws.{spells_type}
use Rattle.gql_printing.proofs.SelectionLaws.{spells_directives}
use Rattle.gql_printing.proofs.ExecutableLaws.{spells_kind, spells_default}

-- ---- descriptions

abbrev same_text : List ℕ → List ℕ
same_text text = text

again_description : {c : Bool} (value : List ℕ) → IsUtf8 value → Again c DescriptionRule same_text value (description_tokens value)
again_description {c} value h = record {
  again = λ ts e.
      let one = single (kind.String, quoted value) ts e in
      (string_value_of (quoted value), (one.0, one.1, ap (λ (b : Kind × List ℕ). string_in b.0 b.1) one.2), quoted_value value h);
  spelled = ((value, (h, refl)), tt);
  joins = joins_one c (string value) (plain_calm c kind.String refl refl);
}

described : {c : Bool} (k : Kind) (text value : List ℕ) → string_in k text ≡ Some value → Again c DescriptionRule same_text value (description_tokens value)
described {c} kind.String text value e =
    let is : string_value_of text ≡ value = cc in
    subst (λ (v : List ℕ). Again c DescriptionRule same_text v (description_tokens v)) is (again_description (string_value_of text) (value_text text))
described _ text value e = absurd cc

spells_description : {c : Bool} → Spells c DescriptionRule DescriptionRule same_text description_tokens
spells_description = record { law = λ front value r h. described r.0.kind r.0.text value r.2 }

same_texts : (o : Option (List ℕ)) → option_map same_text o ≡ o
same_texts None = refl
same_texts (Some text) = refl

spells_described : {c : Bool} → Spells c (Opt DescriptionRule) (Opt DescriptionRule) (λ (d : Option (List ℕ)). d) (optional description_tokens)
spells_described = record {
  law = λ front d r h.
      let x = (spells_opt spells_description).law front d r h in
      record { again = λ ts e. let k = x.again ts e in (k.0, k.1, sym (same_texts k.0) ∙ k.2 ∙ same_texts d); spelled = x.spelled; joins = x.joins };
}

-- ---- lists of names

listed_law : {c : Bool} (k : Kind) → Fixed c (mark k) k (mark_of k) → Spells c (Made cons (Seq NameRule (Many (Behind (mark k) NameRule)))) (Made cons (Seq NameRule (Many (Behind (mark k) NameRule)))) bare_names (listed k)
listed_law k f = spells_as cons bare_names (listed k) cons (λ p. refl) (λ p. refl) (spells_seq spells_name (spells_many (spells_behind f spells_name)))

-- the punctuator before the first name is left out
spells_listed : {c : Bool} (k : Kind) → Fixed c (mark k) k (mark_of k) → Spells c (ListedBy k) (ListedBy k) bare_names (listed k)
spells_listed {c} k f = record {
  law = λ front names r h.
      let x = (listed_law k f).law r.rule.after r.of.1 r.rule.second (printable_right r.rule.before r.rule.after (subst ArePrintable r.rule.whole h)) in
      subst (λ (all : List Name). Again c (ListedBy k) bare_names (bare_names all) (listed k all)) r.is (record {
        again = λ ts e. let m = x.again ts e in (m.0, record { of = (false, m.0); is = refl; rule = record { before = []; after = ts; whole = refl; first = record { of = None; is = refl; rule = refl }; second = m.1 } }, m.2);
        spelled = x.spelled;
        joins = x.joins;
      });
}

-- there is a name
some_listed : (k : Kind) (P : List Name → Type 0) (front : Toks) (names : List Name) → ListedBy k front names → ((name : Name) (more : List Name) → P (name ∷ more)) → P names
some_listed k P front names r h = subst P (r.rule.second.is ∙ r.is) (h r.rule.second.of.0 r.rule.second.of.1)

-- ---- parts

spells_root : {c : Bool} → Spells c RootRule RootRule bare_root root_tokens
spells_root {c} =
    spells_here (λ place place'. spells_made (grammar.root_of place) (grammar.root_of place') bare_root root_tokens (grammar.root_of first_place)
    (λ p. refl) (λ p. refl) (λ front p r. refl)
    (spells_seq spells_kind (spells_behind (colon c) spells_name)))

spells_input : Spells false InputRule InputRule bare_input input_tokens
spells_input =
    spells_as grammar.input_of bare_input input_tokens grammar.input_of (λ p. refl) (λ p. refl)
    (spells_seq spells_described (spells_seq spells_name (spells_behind (colon false) (spells_seq spells_type (spells_seq (spells_opt spells_default) (spells_directives true))))))

spells_inputs : (c : Bool) → Spells c (Perhaps InputsRule) (Perhaps InputsRule) (map bare_input) inputs_tokens
spells_inputs c = spells_grouped kind.ParenOpen kind.ParenClose paren_open paren_close spells_input c

spells_field_definition : {c : Bool} → Spells c FieldDefinitionRule FieldDefinitionRule bare_field_definition field_definition_tokens
spells_field_definition {c} =
    spells_as grammar.field_definition_of bare_field_definition field_definition_tokens grammar.field_definition_of (λ p. refl) (λ p. refl)
    (spells_seq spells_described (spells_seq spells_name (spells_seq (spells_inputs c) (spells_behind (colon c) (spells_seq spells_type (spells_directives true))))))

spells_enum_value : {c : Bool} → Spells c EnumValueRule EnumValueRule bare_enum_value enum_value_tokens
spells_enum_value =
    spells_as grammar.enum_value_of bare_enum_value enum_value_tokens grammar.enum_value_of (λ p. refl) (λ p. refl)
    (spells_seq spells_described (spells_seq spells_enum_name (spells_directives true)))

spells_braced : {A S : Type 0} {d : Bool} {R : Rule A} {s : A → S} {p : A → Toks} → Spells d R R s p → (c : Bool) → Spells c (Perhaps (Braced R)) (Perhaps (Braced R)) (map s) (braced p)
spells_braced l c = spells_grouped kind.BraceOpen kind.BraceClose brace_open brace_close l c

-- ---- definitions

spells_implements : {c : Bool} → Spells c (Perhaps ImplementsRule) (Perhaps ImplementsRule) bare_names implements_tokens
spells_implements {c} =
    spells_perhaps implements_tokens refl
    (λ front names r. subst (λ (all : List Name). implements_tokens all ≡ word (codes "implements") ∷ listed kind.Ampersand all) r.is
    (some_listed kind.Ampersand (λ all. implements_tokens all ≡ word (codes "implements") ∷ listed kind.Ampersand all) r.rule.after r.of.1 r.rule.second (λ name more. refl)))
    (spells_behind (keyword c (codes "implements") refl (λ place. refl)) (spells_listed kind.Ampersand (ampersand c)))

spells_members : {c : Bool} → Spells c (Perhaps (Behind (mark kind.Equals) (ListedBy kind.Pipe))) (Perhaps (Behind (mark kind.Equals) (ListedBy kind.Pipe))) bare_names members_tokens
spells_members {c} =
    spells_perhaps members_tokens refl
    (λ front names r. subst (λ (all : List Name). members_tokens all ≡ punctuator kind.Equals ∷ listed kind.Pipe all) r.is
    (some_listed kind.Pipe (λ all. members_tokens all ≡ punctuator kind.Equals ∷ listed kind.Pipe all) r.rule.after r.of.1 r.rule.second (λ name more. refl)))
    (spells_behind (equals c) (spells_listed kind.Pipe (pipe c)))

schema_roots : (front : Toks) (roots : List RootOperation) → Braced RootRule front roots → braced root_tokens roots ≡ punctuator kind.BraceOpen ∷ (joined_by root_tokens roots ++ punctuator kind.BraceClose ∷ [])
schema_roots front roots r = some_between (mark kind.BraceOpen) (mark kind.BraceClose) (λ all. braced root_tokens all ≡ punctuator kind.BraceOpen ∷ (joined_by root_tokens all ++ punctuator kind.BraceClose ∷ [])) front roots r (λ root more. refl)

abbrev SchemaParts : Rule (List Directive × List RootOperation)
SchemaParts = Behind (sorts.word (codes "schema")) (Seq (DirectivesRule true) (Braced RootRule))

schema_written : (place : Place) (front : Toks) (p : List Directive × List RootOperation) → SchemaParts front p → form_tokens (grammar.schema_of place p) ≡ word (codes "schema") ∷ (directives_tokens p.0 ++ (punctuator kind.BraceOpen ∷ (joined_by root_tokens p.1 ++ punctuator kind.BraceClose ∷ [])))
schema_written place front p r =
    subst (λ (q : List Directive × List RootOperation). form_tokens (grammar.schema_of place q) ≡ word (codes "schema") ∷ (directives_tokens q.0 ++ (punctuator kind.BraceOpen ∷ (joined_by root_tokens q.1 ++ punctuator kind.BraceClose ∷ [])))) r.is
    (ap (λ (t : Toks). word (codes "schema") ∷ (directives_tokens r.of.1.0 ++ t)) (schema_roots r.rule.second.after r.of.1.1 r.rule.second.second))

spells_schema : Spells true SchemaRule SchemaRule bare_form form_tokens
spells_schema =
    spells_here (λ place place'. spells_made (grammar.schema_of place) (grammar.schema_of place') bare_form form_tokens (grammar.schema_of first_place)
    (λ p. refl) (λ p. refl) (schema_written place)
    (spells_behind (keyword true (codes "schema") refl (λ place. refl)) (spells_seq (spells_directives true) (spells_between {d = true} brace_open brace_close (spells_more spells_root) true))))

spells_scalar : Spells true ScalarRule ScalarRule bare_form form_tokens
spells_scalar =
    spells_as grammar.scalar_of bare_form form_tokens grammar.scalar_of (λ p. refl) (λ p. refl)
    (spells_behind (keyword true (codes "scalar") refl (λ place. refl)) (spells_seq spells_name (spells_directives true)))

spells_composite : {c : Bool} → Spells c CompositeRule CompositeRule bare_composite composite_tokens
spells_composite {c} =
    spells_as grammar.composite_of bare_composite composite_tokens grammar.composite_of (λ p. refl) (λ p. refl)
    (spells_seq spells_name (spells_seq spells_implements (spells_seq (spells_directives true) (spells_braced {d = true} spells_field_definition c))))

spells_object_type : Spells true ObjectTypeRule ObjectTypeRule bare_form form_tokens
spells_object_type =
    spells_as grammar.object_form bare_form form_tokens grammar.object_form (λ p. refl) (λ p. refl)
    (spells_behind (keyword true (codes "type") refl (λ place. refl)) spells_composite)

spells_interface : Spells true InterfaceRule InterfaceRule bare_form form_tokens
spells_interface =
    spells_as grammar.interface_form bare_form form_tokens grammar.interface_form (λ p. refl) (λ p. refl)
    (spells_behind (keyword true (codes "interface") refl (λ place. refl)) spells_composite)

spells_union : Spells true UnionRule UnionRule bare_form form_tokens
spells_union =
    spells_as grammar.union_of bare_form form_tokens grammar.union_of (λ p. refl) (λ p. refl)
    (spells_behind (keyword true (codes "union") refl (λ place. refl)) (spells_seq spells_name (spells_seq (spells_directives true) spells_members)))

spells_enum : Spells true EnumRule EnumRule bare_form form_tokens
spells_enum =
    spells_as grammar.enum_of bare_form form_tokens grammar.enum_of (λ p. refl) (λ p. refl)
    (spells_behind (keyword true (codes "enum") refl (λ place. refl)) (spells_seq spells_name (spells_seq (spells_directives true) (spells_braced {d = true} spells_enum_value true))))

spells_input_object : Spells true InputObjectRule InputObjectRule bare_form form_tokens
spells_input_object =
    spells_as grammar.input_object_of bare_form form_tokens grammar.input_object_of (λ p. refl) (λ p. refl)
    (spells_behind (keyword true (codes "input") refl (λ place. refl)) (spells_seq spells_name (spells_seq (spells_directives true) (spells_braced spells_input true))))

spells_directive_definition : Spells true DirectiveDefinitionRule DirectiveDefinitionRule bare_form form_tokens
spells_directive_definition =
    spells_as grammar.directive_form bare_form form_tokens grammar.directive_form (λ p. refl) (λ p. refl)
    (spells_behind (keyword true (codes "directive") refl (λ place. refl)) (spells_behind (at true) (spells_seq spells_name (spells_seq (spells_inputs true)
    (spells_seq (spells_whether repeatable_tokens (keyword true (codes "repeatable") refl (λ place. refl)) refl refl)
    (spells_behind (keyword true (codes "on") refl (λ place. refl)) (spells_listed kind.Pipe (pipe true))))))))

spells_form : Spells true FormRule FormRule bare_form form_tokens
spells_form =
    spells_either spells_schema (spells_either spells_scalar (spells_either spells_object_type (spells_either spells_interface (spells_either spells_union (spells_either spells_enum (spells_either spells_input_object spells_directive_definition))))))

pub spells_type_system : Spells true TypeSystemRule TypeSystemRule bare_type_system type_system_tokens
spells_type_system =
    spells_here (λ place place'. spells_made (grammar.type_system_of place) (grammar.type_system_of place') bare_type_system type_system_tokens (grammar.type_system_of first_place)
    (λ p. refl) (λ p. refl) (λ front p r. refl)
    (spells_seq spells_described spells_form))
