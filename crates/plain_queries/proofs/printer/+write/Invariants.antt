use Rattle.std.proofs.Common.{◌≡◌, ◌++◌, map, drop}
use Rattle.plain_queries.specs.Sent.{fields_text, selection_text}
use Rattle.plain_queries.proofs.printer.+write.Given as goal

abbrev pub invariant-write_fields-fields : goal.invariant-write_fields-fields
invariant-write_fields-fields l =
    l.initial.out ++ fields_text l.initial.after_name (map (λ f. (f.0, selection_text f.1)) l.name-items)
    ≡ l.out ++ fields_text l.after_name (map (λ f. (f.0, selection_text f.1)) (drop l.name-index l.name-items))
