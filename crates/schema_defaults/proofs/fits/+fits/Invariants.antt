use Rattle.std.proofs.Common.{◌≡◌, map, drop}
use Rattle.std.specs.List.{list_all}
use Rattle.schema_defaults.specs.Fits.{literal_fits, object_field_fits, field_fits}
use Rattle.schema_defaults.proofs.fits.+fits.Given as goal

abbrev pub invariant-items_fit-items : goal.invariant-items_fit-items
invariant-items_fit-items l =
    list_all (λ f. f l.wanted) (map (literal_fits l.schema) l.items)
    ≡ list_all (λ f. f l.wanted) (map (literal_fits l.schema) (drop l.item-index l.items))

abbrev pub invariant-each_field_fits-fields : goal.invariant-each_field_fits-fields
invariant-each_field_fits-fields l =
    list_all (field_fits l.declared) (map (object_field_fits l.schema) l.fields)
    ≡ list_all (field_fits l.declared) (map (object_field_fits l.schema) (drop l.field-index l.fields))
