-- Which rules on uses are broken, definition by definition.
use Rattle.std.proofs.Common.{◌≡◌, ℕ, ◌+◌, ◌<◌, List, [], length, drop, get_or, refl, ap, sym, ◌∙◌, Bool, true, false, ◌||◌}
use Rattle.std.specs.List.{enumerate_from}
use Rattle.gql_model.specs.declared.executable.Operation.{Operation}
use Rattle.gql_model.specs.declared.document.Definition.{Definition}
use Rattle.gql_model.specs.declared.document.Definition.TheVariants as definition
use Rattle.gql_model.specs.declared.document.Document.{Document}
use Rattle.schema_model.specs.declared.schema.Schema.{Schema}
use Rattle.check_model.proofs.ListLaws.{next_left}
use Rattle.variable_rules.specs.declared.faults.UseFaults.{UseFaults}
use Rattle.variable_rules.specs.Faults.{faults_at, faults_in, none, either}

or_false : (a : Bool) → (a || false) ≡ a
or_false true = refl
or_false false = refl

or_assoc : (a b c : Bool) → ((a || b) || c) ≡ (a || (b || c))
or_assoc true b c = refl
or_assoc false b c = refl

either_assoc : (a b c : UseFaults) → either (either a b) c ≡ either a (either b c)
either_assoc a b c = λ i. record {
  undeclared = or_assoc a.undeclared b.undeclared c.undeclared i;
  unused = or_assoc a.unused b.unused c.unused i;
  disallowed = or_assoc a.disallowed b.disallowed c.disallowed i;
}

pub either_none : (s : Schema) (d : Document) (a : UseFaults) → either a (faults_in s d []) ≡ a
either_none s d a = λ i. record {
  undeclared = or_false a.undeclared i;
  unused = or_false a.unused i;
  disallowed = or_false a.disallowed i;
}

-- one definition more
pub faults_next : (s : Schema) (d : Document) (xs : List Definition) (i : ℕ) (x : Definition) (whole a b : UseFaults)
    → i < length xs → x ≡ get_or xs i x → whole ≡ either a (faults_in s d (enumerate_from i (drop i xs))) → b ≡ faults_at s d (i, x)
    → whole ≡ either (either a b) (faults_in s d (enumerate_from (i + 1) (drop (i + 1) xs)))
faults_next s d xs i x whole a b within is so_far here =
    so_far
    ∙ ap (λ ys. either a (faults_in s d (enumerate_from i ys))) (next_left xs i x within is)
    ∙ sym (either_assoc a (faults_at s d (i, x)) (faults_in s d (enumerate_from (i + 1) (drop (i + 1) xs))))
    ∙ ap (λ e. either (either a e) (faults_in s d (enumerate_from (i + 1) (drop (i + 1) xs)))) (sym here)

-- what is no operation breaks none of the rules
pub no_operation : (s : Schema) (d : Document) (place : ℕ) (x : Definition) → ((o : Operation) → x ≡ definition.Operation o → ⊥) → none ≡ faults_at s d (place, x)
no_operation s d place (definition.Operation o) not = absurd (not o refl)
no_operation s d place (definition.Fragment f) not = refl
no_operation s d place (definition.TypeSystem t) not = refl
