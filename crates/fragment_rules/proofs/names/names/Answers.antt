use Rattle.std.proofs.Common.{◌≡◌, ◌+◌, ◌++◌, List, map, take, ap, sym, ◌∙◌, subst, arith}
use Rattle.std.specs.Option.{option_copied, option_to_list}
use Rattle.std.specs.List.{filter_map}
use Rattle.std.proofs.lemmas.List.{map-append}
use Rattle.schema_rules.specs.Lines.{Mark}
use Rattle.schema_defaults.specs.Seen.{Saw}
use Rattle.check_model.specs.Repeated.{at_no_line}
use Rattle.check_model.proofs.ListLaws.{next_given}
use Rattle.fragment_rules.specs.Names.{name_of}
use Rattle.fragment_rules.proofs.names.names.Goals as goal

pub definitions-preserved : goal.definitions-preserved
definitions-preserved c =
    let so_far = filter_map (name_of c.args.kind) (take c.definitions.definition-index c.args.definitions.now) in
    let more : map at_no_line so_far ++ map at_no_line (option_to_list (option_copied c.name_of.result)) ≡ map at_no_line (filter_map (name_of c.args.kind) (take (c.definitions.definition-index + 1) c.args.definitions.now)) =
    sym (map-append at_no_line so_far (option_to_list (option_copied c.name_of.result)))
    ∙ ap (map at_no_line) (next_given (name_of c.args.kind) c.args.definitions.now c.definitions.definition-index c.definition-item.result _ (omega arith) c.definition-item.is c.name_of.ensures) in
    subst (λ (ms : List Mark). Saw c.in_ok-seen.seen ms) more (c.in_ok-seen.ensures _ c.definitions.invariant)
