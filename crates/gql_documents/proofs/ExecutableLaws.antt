-- The laws of operations and fragments.
use Rattle.std.proofs.Common.{◌≡◌, ℕ, zero, suc, Bool, true, false, List, [], ◌∷◌, ◌++◌, Option, Some, None, refl, sym, ap, inl, inr}
use Rattle.std.specs.Prelude.{codes, if◌then◌else◌}
use Rattle.gql_tokens.specs.Tokens.{Token}
use Rattle.gql_tokens.specs.declared.token.Kind.TheVariants as kind
use Rattle.gql_tokens.specs.declared.token.Place.{Place}
use Rattle.gql_model.specs.declared.executable.OperationKind.{OperationKind}
use Rattle.gql_model.specs.declared.executable.OperationKind.TheVariants.{Query, Mutation, Subscription}
use Rattle.gql_model.specs.Sorts.{Sort, Mark, Word, is_in, mark, word}
use Rattle.gql_model.specs.Rules.{Rule, Opt, Behind, Perhaps}
use Rattle.gql_model.specs.Names.{any_name, fragment_name, NameRule}
use Rattle.gql_model.specs.Executables.{kind_of, variable_definition_of, short_of, long_of, fragment_of, KindRule, DefaultRule, VariableDefinitionRule, VariablesRule, OperationRule, FragmentRule}
use Rattle.gql_documents.specs.Executables.{operation_kind, default_if_any, variable_definition, variables, variables_if_any, name_if_any, short, long, operation, fragment}
use Rattle.gql_documents.specs.Documents.{operation_start}
use Rattle.gql_documents.proofs.SortLaws.{covers_sound}
use Rattle.gql_documents.proofs.Laws.{Shape, Law, Lawful, origin, one_shape, law_one, law_seq}
use Rattle.gql_documents.proofs.Manys.{Eats}
use Rattle.gql_documents.proofs.Turns.{eats_lawful}
use Rattle.gql_documents.proofs.Parts.{law_made, law_opt, law_either, law_here}
use Rattle.gql_documents.proofs.Forms.{law_fit, shape, loose, sample, law_mark, law_word, law_behind, law_between, law_more, law_perhaps}
use Rattle.gql_documents.proofs.ValueLaws.{law_name, law_fragment_name, law_type, law_value}
use Rattle.gql_documents.proofs.SelectionLaws.{law_directives, directives_go, law_set}

abbrev pub kind_words : List Sort
kind_words = Word (codes "query") ∷ Word (codes "mutation") ∷ Word (codes "subscription") ∷ []

kind_is : (x : Token) (a : OperationKind) → kind_of x ≡ Some a → is_in kind_words x ≡ true
kind_is x a e = by_words (is_in (word (codes "query")) x) (is_in (word (codes "mutation")) x) (is_in (word (codes "subscription")) x) refl refl refl e
  where
    by_words : (q m s : Bool) → is_in (word (codes "query")) x ≡ q → is_in (word (codes "mutation")) x ≡ m → is_in (word (codes "subscription")) x ≡ s
        → (if q then Some Query else (if m then Some Mutation else (if s then Some Subscription else None))) ≡ Some a → is_in kind_words x ≡ true
    by_words true m s eq em es e = covers_sound kind_words (word (codes "query")) x refl eq
    by_words false true s eq em es e = covers_sound kind_words (word (codes "mutation")) x refl em
    by_words false false true eq em es e = covers_sound kind_words (word (codes "subscription")) x refl es
    by_words false false false eq em es e = absurd cc

pub law_kind : {n : ℕ} → Lawful n KindRule KindRule operation_kind operation_kind (one_shape kind_words)
unfolding operation_kind
law_kind = law_one kind_of kind_words kind_is refl (sample kind.Name (codes "query")) Query refl refl

pub law_default_if_any : {n : ℕ} → Lawful n (Opt DefaultRule) (Opt DefaultRule) default_if_any default_if_any (loose (mark kind.Equals) (mark kind.Equals))
unfolding default_if_any
law_default_if_any = law_fit (loose (mark kind.Equals) (mark kind.Equals)) (law_opt (mark kind.Equals) (law_behind (law_mark kind.Equals refl) (law_value true))) refl

-- what goes on behind a type and what follows it
abbrev pub typed_goes : List Sort
typed_goes = Mark kind.Bang ∷ Mark kind.Equals ∷ Mark kind.At ∷ Mark kind.ParenOpen ∷ []

pub law_variable_definition : {n : ℕ} → Lawful n VariableDefinitionRule VariableDefinitionRule variable_definition variable_definition (shape (mark kind.Dollar) typed_goes)
unfolding variable_definition
law_variable_definition =
    law_fit (shape (mark kind.Dollar) typed_goes)
    (law_here (λ place. law_made (variable_definition_of place)
    (law_behind (law_mark kind.Dollar refl) (law_seq law_name (law_behind (law_mark kind.Colon refl) (law_seq law_type (law_seq law_default_if_any (law_directives true)))))))) refl

pub law_variables_if_any : {n : ℕ} → Lawful n (Perhaps VariablesRule) (Perhaps VariablesRule) variables_if_any variables_if_any (loose (mark kind.ParenOpen) (mark kind.ParenOpen))
unfolding variables_if_any variables
law_variables_if_any =
    law_fit (loose (mark kind.ParenOpen) (mark kind.ParenOpen))
    (law_perhaps (mark kind.ParenOpen) (law_between kind.ParenOpen kind.ParenClose refl refl (law_more (mark kind.Dollar) law_variable_definition))) refl

pub law_name_if_any : {n : ℕ} → Lawful n (Opt NameRule) (Opt NameRule) name_if_any name_if_any (loose any_name any_name)
unfolding name_if_any
law_name_if_any = law_fit (loose any_name any_name) (law_opt any_name law_name) refl

pub law_operation : {n : ℕ} → Lawful n OperationRule OperationRule operation operation (shape operation_start [])
unfolding operation short long
law_operation =
    law_fit (shape operation_start [])
    (law_here (λ place. law_either (mark kind.BraceOpen) (law_made (short_of place) law_set)
    (law_made (long_of place) (law_seq law_kind (law_seq law_name_if_any (law_seq law_variables_if_any (law_seq (law_directives false) law_set))))))) refl

pub law_fragment : {n : ℕ} → Lawful n FragmentRule FragmentRule fragment fragment (shape (word (codes "fragment")) [])
unfolding fragment
law_fragment =
    law_fit (shape (word (codes "fragment")) [])
    (law_here (λ place. law_made (fragment_of place)
    (law_behind (law_word (codes "fragment")) (law_seq law_fragment_name (law_seq (law_behind (law_word (codes "on")) law_name) (law_seq (law_directives false) law_set)))))) refl

pub eats_variable_definition : Eats variable_definition
eats_variable_definition = eats_lawful law_variable_definition refl refl
