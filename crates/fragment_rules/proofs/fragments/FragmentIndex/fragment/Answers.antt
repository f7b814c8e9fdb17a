use Rattle.std.proofs.Common.{List, ap, sym, ◌∙◌}
use Rattle.std.specs.Prelude.{Some, None, slice_get}
use Rattle.std.specs.Option.{option_and_then}
use Rattle.gql_model.specs.declared.document.Definition.{Definition}
use Rattle.check_model.specs.Executables.{as_fragment}
use Rattle.fragment_rules.proofs.IndexLaws.{fragment_by_place}
use Rattle.fragment_rules.proofs.fragments.FragmentIndex.fragment.Goals as goal

pub returns-in-Some : goal.returns-in-Some
returns-in-Some c = λ h.
    c.fragment_at.ensures
    ∙ ap (λ (ds : List Definition). option_and_then as_fragment (slice_get ds c.in-Some.place)) c.as_slice.ensures
    ∙ fragment_by_place c.args.name.now c.args.document.now.definitions (Some c.in-Some.place) (sym c.in-Some.is ∙ c.place_of.ensures ∙ h c.args.name.now)

pub returns-in-None : goal.returns-in-None
returns-in-None c = λ h.
    fragment_by_place c.args.name.now c.args.document.now.definitions None (sym c.in-None.is ∙ c.place_of.ensures ∙ h c.args.name.now)
