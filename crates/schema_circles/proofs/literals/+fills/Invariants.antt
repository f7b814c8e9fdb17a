use Rattle.std.proofs.Common.{◌≡◌, map, take}
use Rattle.std.specs.List.{flat_map}
use Rattle.schema_circles.specs.Fillings.{literal_fills, object_field_fills, field_fills}
use Rattle.schema_circles.proofs.literals.+fills.Given as goal

abbrev pub invariant-items_fill-items : goal.invariant-items_fill-items
invariant-items_fill-items l =
    l.nodes ≡ flat_map (λ fills. fills l.wanted) (map (literal_fills l.schema l.firsts) (take l.item-index l.items))

abbrev pub invariant-fields_fill-fields : goal.invariant-fields_fill-fields
invariant-fields_fill-fields l =
    l.nodes ≡ flat_map (field_fills l.declared) (map (object_field_fills l.schema l.firsts) (take l.field-index l.fields))
