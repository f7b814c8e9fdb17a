-- The code of a refusal, of definitions in another order.
use Rattle.std.proofs.Common.{◌≡◌, ℕ, ◌≤◌, List, refl, sym, ap, subst, ◌∙◌, Option, Some, None, is_some}
use Rattle.std.specs.Option.{option_or}
use Rattle.std.specs.List.Sorted.{IsPermutation}
use Rattle.std.proofs.lemmas.Bool.{false≢true, true≢false}
use Rattle.gql_model.specs.declared.type_system.TypeSystemForm.{TypeSystemForm}
use Rattle.schema_model.specs.Schemas.{NamedType}
use Rattle.gql_schema.specs.declared.error.Refusal.{Refusal}
use Rattle.gql_schema.specs.Judged.{coded, circle_line, schema_refusal, refusal_of}
use Rattle.gql_schema.specs.Meaning.{types_of, schema_of}
use Rattle.gql_schema.specs.Repeated.{repeated_line}
use Rattle.gql_schema.specs.Reserved.{reserved_in, reserved_line}
use Rattle.digraph.specs.Laws.{WalksAreDecided}
use Rattle.schema_order.specs.Verdict.{code_of, VerdictIsFree}
use Rattle.schema_order.proofs.FaultLaws.{least_permuted}
use Rattle.schema_order.proofs.TabledLaws.{or_assoc}
use Rattle.schema_order.proofs.OrderLaws.{order_is_free}
use Rattle.schema_order.proofs.RepeatedLaws.{repeated_permuted}
use Rattle.schema_order.proofs.PartsLaws.{named, one_type_each, types_are, any_type, any_directive}
use Rattle.schema_order.proofs.NeedsLaws.{needs_same}
use Rattle.schema_order.proofs.FillsLaws.{fills_same}
use Rattle.schema_order.proofs.RuleLaws.{SameParts, either_same, some_unknown, some_misplaced, some_unsatisfied, some_root, some_empty, some_unfit}

-- one code more: both break it, or neither, and then the rest tells
pub code_more : (code : ℕ) (a b : Option ℕ) (x y : Option Refusal) → is_some a ≡ is_some b → (a ≡ None → b ≡ None → code_of x ≡ code_of y)
    → code_of (option_or (coded code a) x) ≡ code_of (option_or (coded code b) y)
code_more code None None x y same rest = rest refl refl
code_more code None (Some m) x y same rest = absurd (false≢true same)
code_more code (Some l) None x y same rest = absurd (true≢false same)
code_more code (Some l) (Some m) x y same rest = refl

pub code_last : (code : ℕ) (a b : Option ℕ) → is_some a ≡ is_some b → code_of (coded code a) ≡ code_of (coded code b)
code_last code None None same = refl
code_last code None (Some m) same = absurd (false≢true same)
code_last code (Some l) None same = absurd (true≢false same)
code_last code (Some l) (Some m) same = refl

-- no name has two types
once : (ds : List TypeSystemForm) → repeated_line ds ≡ None → (name : List ℕ) → named name (types_of ds) ≤ 1
once ds e name = subst (λ (ts : List NamedType). named name ts ≤ 1) (sym (types_are ds e)) (one_type_each ds e name)

module _ (ds es : List TypeSystemForm) (shuffled : IsPermutation ds es) where
  parts : repeated_line ds ≡ None → repeated_line es ≡ None → SameParts (schema_of ds) (schema_of es)
  parts left right =
      let alike = order_is_free ds es shuffled left in
      record {
        found = alike.types;
        roots = alike.roots;
        types = any_type ds es shuffled left right;
        directives = any_directive ds es shuffled left right;
      }

  module _ (decided : WalksAreDecided) where
    circle : repeated_line ds ≡ None → repeated_line es ≡ None → is_some (circle_line (schema_of ds)) ≡ is_some (circle_line (schema_of es))
    circle left right =
        let a = schema_of ds in
        let b = schema_of es in
        let found = (parts left right).found in
        either_same _ _ _ _ (needs_same decided a b found (once ds left) (once es right)) (fills_same decided a b found (once ds left) (once es right))

    schema_code : repeated_line ds ≡ None → repeated_line es ≡ None → code_of (schema_refusal (schema_of ds)) ≡ code_of (schema_refusal (schema_of es))
    schema_code left right =
        let a = schema_of ds in
        let b = schema_of es in
        let same = parts left right in
        code_more 5 _ _ _ _ (some_unknown a b same) (λ l5 r5.
        code_more 6 _ _ _ _ (some_misplaced a b same) (λ l6 r6.
        code_more 7 _ _ _ _ (some_unsatisfied a b same) (λ l7 r7.
        code_more 8 _ _ _ _ (some_root a b same) (λ l8 r8.
        code_last 9 _ _ (either_same _ _ _ _ (some_empty a b same) (either_same _ _ _ _ (some_unfit a b same) (circle left right)))))))

    pub code_same : code_of (refusal_of ds) ≡ code_of (refusal_of es)
    code_same =
        ap code_of (or_assoc (coded 3 (repeated_line ds)) (coded 4 (reserved_line ds)) (schema_refusal (schema_of ds)))
        ∙ code_more 3 (repeated_line ds) (repeated_line es) _ _ (repeated_permuted ds es shuffled) (λ left right.
        code_more 4 (reserved_line ds) (reserved_line es) _ _ (least_permuted reserved_in ds es shuffled) (λ l4 r4. schema_code left right))
        ∙ sym (ap code_of (or_assoc (coded 3 (repeated_line es)) (coded 4 (reserved_line es)) (schema_refusal (schema_of es))))

pub verdict_is_free : WalksAreDecided → VerdictIsFree
verdict_is_free decided ds es shuffled = code_same ds es shuffled decided
