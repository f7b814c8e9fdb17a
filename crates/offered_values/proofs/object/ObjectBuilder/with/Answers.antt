use Rattle.std.proofs.Common.{◌≡◌, sym, ◌∙◌, subst}
use Rattle.std.specs.Prelude.{None}
use Rattle.text_types.specs.Names.{Lacks}
use Rattle.schema_model.specs.Tables.{place_of}
use Rattle.offered_values.proofs.NameLaws.{place_by_names, lacks_unplaced, none_of}
use Rattle.offered_values.proofs.object.ObjectBuilder.with.Goals as goal

pub push-requires : goal.push-requires
push-requires c =
    let members = c.args.self.members in
    let name = c.args.name.now in
    let none : place_of members name ≡ None =
    place_by_names members c.args.self.names name c.args.self.tied ∙ none_of (place_of c.args.self.names name) c.requires in
    subst (Lacks members) (sym c.in_ok-named.ensures) (lacks_unplaced members name none)
