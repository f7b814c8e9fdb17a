-- The laws of type system definitions.
use Rattle.std.proofs.Common.{◌≡◌, ℕ, zero, suc, Bool, true, false, List, [], ◌∷◌, ◌++◌, Option, Some, None, refl, inl, inr}
use Rattle.std.specs.Prelude.{codes}
use Rattle.gql_tokens.specs.Tokens.{Token}
use Rattle.gql_tokens.specs.declared.token.Kind.{Kind}
use Rattle.gql_tokens.specs.declared.token.Kind.TheVariants as kind
use Rattle.gql_tokens.specs.Heads.{is_last}
use Rattle.gql_model.specs.Sorts.{Sort, Mark, Word, is_in, mark, word}
use Rattle.gql_model.specs.Rules.{Rule, Opt, Many, Behind, Perhaps, cons, last}
use Rattle.gql_model.specs.Names.{any_name, enum_name, NameRule}
use Rattle.gql_model.specs.TypeSystems as grammar
use Rattle.gql_model.specs.TypeSystems.{DescriptionRule, Braced, ListedBy, RootRule, SchemaRule, ScalarRule, InputRule, InputsRule, FieldDefinitionRule, ImplementsRule, CompositeRule, ObjectTypeRule, InterfaceRule, UnionRule, EnumValueRule, EnumRule, InputObjectRule, DirectiveDefinitionRule, FormRule, TypeSystemRule}
use Rattle.std.specs.Prelude.{Result, Ok, Err}
use Rattle.gql_model.specs.declared.name.Name.{Name}
use Rattle.gql_model.specs.declared.type_system.InputDefinition.{InputDefinition}
use Rattle.gql_documents.specs.declared.error.ParseError.{ParseError}
use Rattle.gql_documents.specs.declared.error.ParseError.TheVariants.{Memory, Syntax}
use Rattle.gql_documents.specs.Names.{name}
use Rattle.gql_documents.specs.Parsing.{Outcome, Done, Fail, Parser, Reads, and_then, tok, token, seq, via, behind, whether}
use Rattle.gql_documents.specs.TypeSystems.{described_start, description, description_if_any, braced, name_behind, listed_by, root, roots, schema, scalar, input, inputs, inputs_if_any, field_definition, field_definitions, field_definitions_if_any, implements, implements_if_any, composite, object_type, interface, members, members_if_any, union, enum_value, enum_values, enum_values_if_any, enumeration, input_fields, input_fields_if_any, input_object, locations, directive_definition, form_from_union, form, type_system}
use Rattle.gql_documents.specs.Documents.{type_system_start}
use Rattle.gql_documents.proofs.Laws.{Shape, Law, Lawful, origin, one_shape, seq_shape, law_one, law_seq}
use Rattle.gql_documents.proofs.Manys.{Eats, repeated_shape, law_many}
use Rattle.gql_documents.proofs.Turns.{eats_lawful}
use Rattle.gql_documents.proofs.Parts.{law_made, law_opt, law_either, law_here}
use Rattle.gql_documents.proofs.Forms.{law_fit, shape, loose, sample, law_mark, law_word, law_behind, law_between, law_more, law_perhaps, law_whether}
use Rattle.gql_documents.proofs.ValueLaws.{law_name, law_enum_name, law_type}
use Rattle.gql_documents.proofs.SelectionLaws.{law_directives, directives_go}
use Rattle.gql_documents.proofs.ExecutableLaws.{kind_words, law_kind, law_default_if_any, typed_goes}

description_is : (x : Token) (a : List ℕ) → grammar.description_in x ≡ Some a → is_in (mark kind.String) x ≡ true
description_is x a e = by_kind x.kind x.text e
  where
    by_kind : (k : Kind) (text : List ℕ) → grammar.string_in k text ≡ Some a → is_in (mark kind.String) (record { kind = k; text = text; place = origin }) ≡ true
    by_kind kind.String text e = refl
    by_kind _ text e = absurd cc

pub law_description_if_any : {n : ℕ} → Lawful n (Opt DescriptionRule) (Opt DescriptionRule) description_if_any description_if_any (loose (mark kind.String) (mark kind.String))
unfolding description_if_any description
law_description_if_any =
    law_fit (loose (mark kind.String) (mark kind.String))
    (law_opt (mark kind.String) (law_one grammar.description_in (mark kind.String) description_is refl (sample kind.String []) _ refl refl)) refl

pub law_name_behind : {n : ℕ} (k : Kind) → is_last k ≡ false → Lawful n (Behind (mark k) NameRule) (Behind (mark k) NameRule) (name_behind k) (name_behind k) (seq_shape (one_shape (mark k)) (one_shape any_name))
unfolding name_behind
law_name_behind k free = law_behind (law_mark k free) law_name

pub law_ampersands : {n : ℕ} → Lawful n (ListedBy kind.Ampersand) (ListedBy kind.Ampersand) (listed_by kind.Ampersand) (listed_by kind.Ampersand) (shape (Mark kind.Ampersand ∷ any_name) (mark kind.Ampersand))
unfolding listed_by
law_ampersands = law_fit (shape (Mark kind.Ampersand ∷ any_name) (mark kind.Ampersand)) (law_made last (law_seq (law_whether (law_mark kind.Ampersand refl)) (law_made cons (law_seq law_name (law_many (mark kind.Ampersand) (law_name_behind kind.Ampersand refl)))))) refl

pub law_pipes : {n : ℕ} → Lawful n (ListedBy kind.Pipe) (ListedBy kind.Pipe) (listed_by kind.Pipe) (listed_by kind.Pipe) (shape (Mark kind.Pipe ∷ any_name) (mark kind.Pipe))
unfolding listed_by
law_pipes = law_fit (shape (Mark kind.Pipe ∷ any_name) (mark kind.Pipe)) (law_made last (law_seq (law_whether (law_mark kind.Pipe refl)) (law_made cons (law_seq law_name (law_many (mark kind.Pipe) (law_name_behind kind.Pipe refl)))))) refl

-- ---- schemas and scalars

pub law_root : {n : ℕ} → Lawful n RootRule RootRule root root (shape kind_words [])
unfolding root
law_root = law_fit (shape kind_words []) (law_here (λ place. law_made (grammar.root_of place) (law_seq law_kind (law_behind (law_mark kind.Colon refl) law_name)))) refl

pub law_schema : {n : ℕ} → Lawful n SchemaRule SchemaRule schema schema (shape (word (codes "schema")) [])
unfolding schema roots
law_schema =
    law_fit (shape (word (codes "schema")) [])
    (law_here (λ place. law_made (grammar.schema_of place) (law_behind (law_word (codes "schema")) (law_seq (law_directives true) (law_between kind.BraceOpen kind.BraceClose refl refl (law_more any_name law_root)))))) refl

pub law_scalar : {n : ℕ} → Lawful n ScalarRule ScalarRule scalar scalar (shape (word (codes "scalar")) directives_go)
unfolding scalar
law_scalar = law_fit (shape (word (codes "scalar")) directives_go) (law_made grammar.scalar_of (law_behind (law_word (codes "scalar")) (law_seq law_name (law_directives true)))) refl

-- ---- objects and interfaces

pub law_input : {n : ℕ} → Lawful n InputRule InputRule input input (shape described_start typed_goes)
unfolding input
law_input =
    law_fit (shape described_start typed_goes)
    (law_made grammar.input_of (law_seq law_description_if_any (law_seq law_name (law_behind (law_mark kind.Colon refl) (law_seq law_type (law_seq law_default_if_any (law_directives true))))))) refl

pub law_inputs_if_any : {n : ℕ} → Lawful n (Perhaps InputsRule) (Perhaps InputsRule) inputs_if_any inputs_if_any (loose (mark kind.ParenOpen) (mark kind.ParenOpen))
unfolding inputs_if_any inputs
law_inputs_if_any =
    law_fit (loose (mark kind.ParenOpen) (mark kind.ParenOpen)) (law_perhaps (mark kind.ParenOpen) (law_between kind.ParenOpen kind.ParenClose refl refl (law_more described_start law_input))) refl

pub law_field_definition : {n : ℕ} → Lawful n FieldDefinitionRule FieldDefinitionRule field_definition field_definition (shape described_start (Mark kind.Bang ∷ directives_go))
unfolding field_definition
law_field_definition =
    law_fit (shape described_start (Mark kind.Bang ∷ directives_go))
    (law_made grammar.field_definition_of (law_seq law_description_if_any (law_seq law_name (law_seq law_inputs_if_any (law_behind (law_mark kind.Colon refl) (law_seq law_type (law_directives true))))))) refl

pub law_fields : {n : ℕ} → Lawful n (Braced FieldDefinitionRule) (Braced FieldDefinitionRule) field_definitions field_definitions (shape (mark kind.BraceOpen) [])
unfolding field_definitions
law_fields = law_fit (shape (mark kind.BraceOpen) []) (law_between kind.BraceOpen kind.BraceClose refl refl (law_more described_start law_field_definition)) refl

pub law_implements_if_any : {n : ℕ} → Lawful n (Perhaps ImplementsRule) (Perhaps ImplementsRule) implements_if_any implements_if_any (loose (word (codes "implements")) (Word (codes "implements") ∷ Mark kind.Ampersand ∷ []))
unfolding implements_if_any implements
law_implements_if_any =
    law_fit (loose (word (codes "implements")) (Word (codes "implements") ∷ Mark kind.Ampersand ∷ []))
    (law_perhaps (word (codes "implements")) (law_behind (law_word (codes "implements")) law_ampersands)) refl

-- what goes on behind an object type
abbrev pub composite_goes : List Sort
composite_goes = Mark kind.BraceOpen ∷ Mark kind.At ∷ Mark kind.ParenOpen ∷ Word (codes "implements") ∷ Mark kind.Ampersand ∷ []

pub law_composite : {n : ℕ} → Lawful n CompositeRule CompositeRule composite composite (shape any_name composite_goes)
unfolding composite field_definitions_if_any
law_composite =
    law_fit (shape any_name composite_goes)
    (law_made grammar.composite_of (law_seq law_name (law_seq law_implements_if_any (law_seq (law_directives true) (law_perhaps (mark kind.BraceOpen) law_fields))))) refl

pub law_object_type : {n : ℕ} → Lawful n ObjectTypeRule ObjectTypeRule object_type object_type (shape (word (codes "type")) composite_goes)
unfolding object_type
law_object_type = law_fit (shape (word (codes "type")) composite_goes) (law_made grammar.object_form (law_behind (law_word (codes "type")) law_composite)) refl

pub law_interface : {n : ℕ} → Lawful n InterfaceRule InterfaceRule interface interface (shape (word (codes "interface")) composite_goes)
unfolding interface
law_interface = law_fit (shape (word (codes "interface")) composite_goes) (law_made grammar.interface_form (law_behind (law_word (codes "interface")) law_composite)) refl

-- ---- unions, enums, input objects and directives

pub law_union : {n : ℕ} → Lawful n UnionRule UnionRule union union (shape (word (codes "union")) (Mark kind.Equals ∷ Mark kind.Pipe ∷ directives_go))
unfolding union members_if_any members
law_union =
    law_fit (shape (word (codes "union")) (Mark kind.Equals ∷ Mark kind.Pipe ∷ directives_go))
    (law_made grammar.union_of (law_behind (law_word (codes "union")) (law_seq law_name (law_seq (law_directives true) (law_perhaps (mark kind.Equals) (law_behind (law_mark kind.Equals refl) law_pipes)))))) refl

pub law_enum_value : {n : ℕ} → Lawful n EnumValueRule EnumValueRule enum_value enum_value (shape described_start directives_go)
unfolding enum_value
law_enum_value = law_fit (shape described_start directives_go) (law_made grammar.enum_value_of (law_seq law_description_if_any (law_seq law_enum_name (law_directives true)))) refl

pub law_enum_values : {n : ℕ} → Lawful n (Braced EnumValueRule) (Braced EnumValueRule) enum_values enum_values (shape (mark kind.BraceOpen) [])
unfolding enum_values
law_enum_values = law_fit (shape (mark kind.BraceOpen) []) (law_between kind.BraceOpen kind.BraceClose refl refl (law_more described_start law_enum_value)) refl

-- what goes on behind an enum or an input object type
abbrev pub braced_goes : List Sort
braced_goes = Mark kind.BraceOpen ∷ directives_go

pub law_enum : {n : ℕ} → Lawful n EnumRule EnumRule enumeration enumeration (shape (word (codes "enum")) braced_goes)
unfolding enumeration enum_values_if_any
law_enum =
    law_fit (shape (word (codes "enum")) braced_goes)
    (law_made grammar.enum_of (law_behind (law_word (codes "enum")) (law_seq law_name (law_seq (law_directives true) (law_perhaps (mark kind.BraceOpen) law_enum_values))))) refl

pub law_input_fields : {n : ℕ} → Lawful n (Braced InputRule) (Braced InputRule) input_fields input_fields (shape (mark kind.BraceOpen) [])
unfolding input_fields
law_input_fields = law_fit (shape (mark kind.BraceOpen) []) (law_between kind.BraceOpen kind.BraceClose refl refl (law_more described_start law_input)) refl

pub law_input_object : {n : ℕ} → Lawful n InputObjectRule InputObjectRule input_object input_object (shape (word (codes "input")) braced_goes)
unfolding input_object input_fields_if_any
law_input_object =
    law_fit (shape (word (codes "input")) braced_goes)
    (law_made grammar.input_object_of (law_behind (law_word (codes "input")) (law_seq law_name (law_seq (law_directives true) (law_perhaps (mark kind.BraceOpen) law_input_fields))))) refl

pub law_directive_definition : {n : ℕ} → Lawful n DirectiveDefinitionRule DirectiveDefinitionRule directive_definition directive_definition (shape (word (codes "directive")) (mark kind.Pipe))
unfolding directive_definition locations
law_directive_definition =
    law_fit (shape (word (codes "directive")) (mark kind.Pipe))
    (law_made grammar.directive_form (law_behind (law_word (codes "directive")) (law_behind (law_mark kind.At refl) (law_seq law_name (law_seq law_inputs_if_any (law_seq (law_whether (law_word (codes "repeatable"))) (law_behind (law_word (codes "on")) law_pipes))))))) refl

-- ---- definitions

abbrev pub form_start : List Sort
form_start = Word (codes "schema") ∷ Word (codes "scalar") ∷ Word (codes "type") ∷ Word (codes "interface") ∷ Word (codes "union") ∷ Word (codes "enum") ∷ Word (codes "input") ∷ Word (codes "directive") ∷ []

-- what goes on behind some type system definition
abbrev pub form_goes : List Sort
form_goes = Mark kind.BraceOpen ∷ Mark kind.At ∷ Mark kind.ParenOpen ∷ Word (codes "implements") ∷ Mark kind.Ampersand ∷ Mark kind.Equals ∷ Mark kind.Pipe ∷ []

pub law_form : {n : ℕ} → Lawful n FormRule FormRule form form (shape form_start form_goes)
unfolding form form_from_union
law_form =
    law_fit (shape form_start form_goes)
    (law_either (word (codes "schema")) law_schema (law_either (word (codes "scalar")) law_scalar (law_either (word (codes "type")) law_object_type (law_either (word (codes "interface")) law_interface
    (law_either (word (codes "union")) law_union (law_either (word (codes "enum")) law_enum (law_either (word (codes "input")) law_input_object law_directive_definition))))))) refl

pub law_type_system : {n : ℕ} → Lawful n TypeSystemRule TypeSystemRule type_system type_system (shape type_system_start form_goes)
unfolding type_system
law_type_system = law_fit (shape type_system_start form_goes) (law_here (λ place. law_made (grammar.type_system_of place) (law_seq law_description_if_any law_form))) refl

pub eats_name_behind : (k : Kind) → is_last k ≡ false → Eats (name_behind k)
eats_name_behind k free = eats_lawful (law_name_behind k free) (name_sound k) refl
  where
    name_sound : (k : Kind) → (seq_shape (one_shape (mark k)) (one_shape any_name)).sound ≡ true
    name_sound k = refl

pub eats_root : Eats root
eats_root = eats_lawful law_root refl refl

pub eats_input : Eats input
eats_input = eats_lawful law_input refl refl

pub eats_field_definition : Eats field_definition
eats_field_definition = eats_lawful law_field_definition refl refl

pub eats_enum_value : Eats enum_value
eats_enum_value = eats_lawful law_enum_value refl refl

-- a directive definition whose parts were read up to its locations
pub directive_read : (ts m1 m2 m3 m4 m5 : List Token) (n : Name) (all : List InputDefinition) (repeated : Bool) (o : Outcome (List Name)) → token (word (codes "directive")) ts ≡ Done tt m1 → token (mark kind.At) m1 ≡ Done tt m2 → name m2 ≡ Done n m3
    → inputs_if_any m3 ≡ Done all m4 → whether (word (codes "repeatable")) m4 ≡ Done repeated m5 → locations m5 ≡ o → directive_definition ts ≡ and_then o (λ l rest. Done (grammar.directive_form (n, (all, (repeated, l)))) rest)
unfolding directive_definition behind via seq
directive_read ts m1 m2 m3 m4 m5 n all repeated (Done l rest) e1 e2 e3 e4 e5 e6 = rw (e1, e2, e3, e4, e5, e6) refl
directive_read ts m1 m2 m3 m4 m5 n all repeated (Fail rest) e1 e2 e3 e4 e5 e6 = rw (e1, e2, e3, e4, e5, e6) refl

pub directive_bad : (ts m1 m2 m3 m4 m5 new : List Token) (n : Name) (all : List InputDefinition) (repeated : Bool) (e : ParseError) → token (word (codes "directive")) ts ≡ Done tt m1 → token (mark kind.At) m1 ≡ Done tt m2 → name m2 ≡ Done n m3
    → inputs_if_any m3 ≡ Done all m4 → whether (word (codes "repeatable")) m4 ≡ Done repeated m5 → Reads (locations m5) (Err e) new → Reads (directive_definition ts) (Err e) new
directive_bad ts m1 m2 m3 m4 m5 new n all repeated Memory e1 e2 e3 e4 e5 r = tt
directive_bad ts m1 m2 m3 m4 m5 new n all repeated Syntax e1 e2 e3 e4 e5 r = directive_read ts m1 m2 m3 m4 m5 n all repeated (Fail new) e1 e2 e3 e4 e5 r
