-- Induction over literals: what holds of a value, a literal or a field of an object where it holds of its parts.
use Rattle.std.proofs.Common.{◌≡◌, List, [], ◌∷◌, map, subst, sym, ◌∙◌}
use Rattle.std.specs.List.{AllByRecursion}
use Rattle.gql_model.specs.declared.literal.Literal.{Literal, roll-Literal}
use Rattle.gql_model.specs.declared.literal.LiteralValue.{LiteralValue, roll-LiteralValue}
use Rattle.gql_model.specs.declared.literal.ObjectField.{ObjectField, roll-ObjectField}
use Rattle.gql_model.specs.declared.literal.LiteralValue.TheOpen.{Literal-F, LiteralValue-F, ObjectField-F}
use Rattle.gql_model.specs.declared.literal.LiteralValue.TheFolds.{map-LiteralValue, ind-Literal}

-- one level of a value
abbrev pub Level : Type 0
Level = LiteralValue-F LiteralValue Literal ObjectField

-- it holds of each item of a list, and of each field of an object
abbrev pub OfParts : (Literal → Type 0) → (ObjectField → Type 0) → Level → Type 0
OfParts OfLiteral OfField (LiteralValue-F.List items) = AllByRecursion OfLiteral items
OfParts OfLiteral OfField (LiteralValue-F.Object fields) = AllByRecursion OfField fields
OfParts OfLiteral OfField _ = Unit {0}

module _ (OfValue : LiteralValue → Type 0) (OfLiteral : Literal → Type 0) (OfField : ObjectField → Type 0)
    (value_step : (x : Level) → OfParts OfLiteral OfField x → OfValue (roll-LiteralValue x))
    (literal_step : (x : Literal-F LiteralValue Literal ObjectField) → OfValue x.value → OfLiteral (roll-Literal x))
    (field_step : (x : ObjectField-F LiteralValue Literal ObjectField) → OfLiteral x.value → OfField (roll-ObjectField x)) where
  abbrev WithValue : Type 0
  WithValue = (v : LiteralValue) × OfValue v

  abbrev WithLiteral : Type 0
  WithLiteral = (l : Literal) × OfLiteral l

  abbrev WithField : Type 0
  WithField = (f : ObjectField) × OfField f

  each_literal : (es : List WithLiteral) → AllByRecursion OfLiteral (map (λ (e : WithLiteral). e.0) es)
  each_literal [] = tt
  each_literal (e ∷ es) = (e.1, each_literal es)

  each_field : (es : List WithField) → AllByRecursion OfField (map (λ (e : WithField). e.0) es)
  each_field [] = tt
  each_field (e ∷ es) = (e.1, each_field es)

  parts_of : (y : LiteralValue-F WithValue WithLiteral WithField)
      → OfParts OfLiteral OfField (map-LiteralValue WithValue WithLiteral WithField LiteralValue Literal ObjectField (λ (e : WithValue). e.0) (λ (e : WithLiteral). e.0) (λ (e : WithField). e.0) y)
  parts_of (LiteralValue-F.Variable name) = tt
  parts_of (LiteralValue-F.Integer text n) = tt
  parts_of (LiteralValue-F.String text) = tt
  parts_of (LiteralValue-F.Boolean v) = tt
  parts_of LiteralValue-F.Null = tt
  parts_of (LiteralValue-F.Enum word) = tt
  parts_of (LiteralValue-F.List items) = each_literal items
  parts_of (LiteralValue-F.Object fields) = each_field fields

  pub literal_induction : (l : Literal) → OfLiteral l
  literal_induction = ind-Literal OfValue OfLiteral OfField
      (λ x y is. value_step x (subst (OfParts OfLiteral OfField) is (parts_of y)))
      (λ x y is. literal_step x (subst (λ (z : Literal-F LiteralValue Literal ObjectField). OfValue z.value) is y.value.1))
      (λ x y is. field_step x (subst (λ (z : ObjectField-F LiteralValue Literal ObjectField). OfLiteral z.value) is y.value.1))
