-- What is said of a literal by a fold that ignores places is said of it without its places.
use Rattle.std.proofs.Common.{◌≡◌, List, [], ◌∷◌, map, refl, sym, ap, ap₂, ◌∙◌}
use Rattle.std.specs.List.{AllByRecursion}
use Rattle.gql_tokens.specs.Places.{first_place}
use Rattle.gql_model.specs.declared.literal.Literal.{Literal, roll-Literal}
use Rattle.gql_model.specs.declared.literal.LiteralValue.{LiteralValue, roll-LiteralValue}
use Rattle.gql_model.specs.declared.literal.ObjectField.{ObjectField, roll-ObjectField}
use Rattle.gql_model.specs.declared.literal.LiteralValue.TheOpen.{Literal-F, LiteralValue-F, ObjectField-F}
use Rattle.gql_model.specs.declared.literal.LiteralValue.TheFolds.{fold-Literal, fold-LiteralValue, fold-ObjectField, fold-roll-Literal, fold-roll-LiteralValue, fold-roll-ObjectField, map-LiteralValue}
use Rattle.gql_model.proofs.Literals.{Level, OfParts, literal_induction}
use Rattle.gql_printing.specs.Places as places
use Rattle.gql_printing.specs.Places.{bare_name, bare_literal, bare_value, bare_object_field}

module _ (V L F : Type 0) (vs : LiteralValue-F V L F → V) (ls : Literal-F V L F → L) (fs : ObjectField-F V L F → F)
    (no_place : (l : Literal-F V L F) → ls (record { place = first_place; value = l.value }) ≡ ls l)
    (no_name : (f : ObjectField-F V L F) → fs (record { name = bare_name f.name; value = f.value }) ≡ fs f) where
  abbrev of_value : LiteralValue → V
  of_value = fold-LiteralValue V L F vs ls fs

  abbrev of_literal : Literal → L
  of_literal = fold-Literal V L F vs ls fs

  abbrev of_field : ObjectField → F
  of_field = fold-ObjectField V L F vs ls fs

  abbrev OfValue : LiteralValue → Type 0
  OfValue v = of_value (bare_value v) ≡ of_value v

  abbrev OfLiteral : Literal → Type 0
  OfLiteral l = of_literal (bare_literal l) ≡ of_literal l

  abbrev OfField : ObjectField → Type 0
  OfField f = of_field (bare_object_field f) ≡ of_field f

  abbrev bared : Level → Level
  bared x = map-LiteralValue LiteralValue Literal ObjectField LiteralValue Literal ObjectField bare_value bare_literal bare_object_field x

  abbrev told : Level → LiteralValue-F V L F
  told x = map-LiteralValue LiteralValue Literal ObjectField V L F of_value of_literal of_field x

  items_bare : (items : List Literal) → AllByRecursion OfLiteral items → map of_literal (map bare_literal items) ≡ map of_literal items
  items_bare [] all = refl
  items_bare (l ∷ items) all = ap₂ (λ (x : L) (xs : List L). x ∷ xs) all.0 (items_bare items all.1)

  fields_bare : (fields : List ObjectField) → AllByRecursion OfField fields → map of_field (map bare_object_field fields) ≡ map of_field fields
  fields_bare [] all = refl
  fields_bare (f ∷ fields) all = ap₂ (λ (x : F) (xs : List F). x ∷ xs) all.0 (fields_bare fields all.1)

  level_bare : (x : Level) → OfParts OfLiteral OfField x → told (bared x) ≡ told x
  level_bare (LiteralValue-F.Variable name) parts = refl
  level_bare (LiteralValue-F.Integer text n) parts = refl
  level_bare (LiteralValue-F.String text) parts = refl
  level_bare (LiteralValue-F.Boolean v) parts = refl
  level_bare LiteralValue-F.Null parts = refl
  level_bare (LiteralValue-F.Enum word) parts = refl
  level_bare (LiteralValue-F.List items) parts = ap (λ (xs : List L). LiteralValue-F.List xs) (items_bare items parts)
  level_bare (LiteralValue-F.Object fields) parts = ap (λ (xs : List F). LiteralValue-F.Object xs) (fields_bare fields parts)

  value_bare : (x : Level) → OfParts OfLiteral OfField x → OfValue (roll-LiteralValue x)
  value_bare x parts =
      ap of_value (fold-roll-LiteralValue LiteralValue Literal ObjectField places.value_step places.literal_step places.object_field_step x)
      ∙ fold-roll-LiteralValue V L F vs ls fs (bared x)
      ∙ ap vs (level_bare x parts)
      ∙ sym (fold-roll-LiteralValue V L F vs ls fs x)

  literal_of_value : (x : Literal-F LiteralValue Literal ObjectField) → OfValue x.value → OfLiteral (roll-Literal x)
  literal_of_value x claim =
      ap of_literal (fold-roll-Literal LiteralValue Literal ObjectField places.value_step places.literal_step places.object_field_step x)
      ∙ fold-roll-Literal V L F vs ls fs (record { place = first_place; value = bare_value x.value })
      ∙ ap (λ (v : V). ls (record { place = first_place; value = v })) claim
      ∙ no_place (record { place = x.place; value = of_value x.value })
      ∙ sym (fold-roll-Literal V L F vs ls fs x)

  field_of_literal : (x : ObjectField-F LiteralValue Literal ObjectField) → OfLiteral x.value → OfField (roll-ObjectField x)
  field_of_literal x claim =
      ap of_field (fold-roll-ObjectField LiteralValue Literal ObjectField places.value_step places.literal_step places.object_field_step x)
      ∙ fold-roll-ObjectField V L F vs ls fs (record { name = bare_name x.name; value = bare_literal x.value })
      ∙ ap (λ (l : L). fs (record { name = bare_name x.name; value = l })) claim
      ∙ no_name (record { name = x.name; value = of_literal x.value })
      ∙ sym (fold-roll-ObjectField V L F vs ls fs x)

  pub fold_bare : (l : Literal) → OfLiteral l
  fold_bare = literal_induction OfValue OfLiteral OfField value_bare literal_of_value field_of_literal

-- places are taken away once
pub bare_again : (l : Literal) → bare_literal (bare_literal l) ≡ bare_literal l
bare_again = fold_bare LiteralValue Literal ObjectField places.value_step places.literal_step places.object_field_step (λ l. refl) (λ f. refl)
