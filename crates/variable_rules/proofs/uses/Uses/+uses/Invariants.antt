use Rattle.std.proofs.Common.{◌≡◌, map, drop}
use Rattle.std.specs.Option.{option_copied}
use Rattle.std.specs.List.{fold, flat_map}
use Rattle.check_model.specs.Usages.{UsagesAt, FieldUsages, usages_in, usages_in_field, wanted_at}
use Rattle.variable_rules.specs.Places.{at_of, fields_of}
use Rattle.variable_rules.specs.Uses.{noted}
use Rattle.variable_rules.proofs.uses.Uses.+uses.Given as goal

abbrev pub invariant-note_items-items : goal.invariant-note_items-items
invariant-note_items-items l =
    fold noted l.initial.self (flat_map (λ (usages : UsagesAt). usages (at_of l.at)) (map (usages_in l.schema) l.items))
    ≡ fold noted l.self (flat_map (λ (usages : UsagesAt). usages (at_of l.at)) (map (usages_in l.schema) (drop l.item-index l.items)))

abbrev pub invariant-note_fields-fields : goal.invariant-note_fields-fields
invariant-note_fields-fields l =
    fold noted l.initial.self (flat_map (λ (f : FieldUsages). f.1 (wanted_at (fields_of (option_copied l.defined)) f.0)) (map (usages_in_field l.schema) l.fields))
    ≡ fold noted l.self
    (flat_map (λ (f : FieldUsages). f.1 (wanted_at (fields_of (option_copied l.defined)) f.0)) (map (usages_in_field l.schema) (drop l.field-index l.fields)))
