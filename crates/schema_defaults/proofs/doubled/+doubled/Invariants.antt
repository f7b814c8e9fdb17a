use Rattle.std.proofs.Common.{◌≡◌, map, drop}
use Rattle.std.specs.List.{list_any}
use Rattle.schema_defaults.specs.Doubled.{is_doubled, field_doubled}
use Rattle.schema_defaults.proofs.doubled.+doubled.Given as goal

abbrev pub invariant-is_item_doubled-items : goal.invariant-is_item_doubled-items
invariant-is_item_doubled-items l =
    list_any (λ d. d) (map is_doubled l.items) ≡ list_any (λ d. d) (map is_doubled (drop l.item-index l.items))

abbrev pub invariant-is_field_doubled-fields : goal.invariant-is_field_doubled-fields
invariant-is_field_doubled-fields l =
    list_any (λ f. f.1) (map field_doubled l.fields) ≡ list_any (λ f. f.1) (map field_doubled (drop l.field-index l.fields))
