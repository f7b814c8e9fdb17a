use Rattle.std.proofs.Common.{◌≡◌, ap, sym, ◌∙◌}
use Rattle.std.specs.Prelude.{slice_get, Some}
use Rattle.std.specs.Option.{option_map, option_copied}
use Rattle.schema_model.specs.Tables.{place_of}
use Rattle.schema_model.proofs.TableLaws.{entry_at, entry_unplaced}
use Rattle.schema_model.proofs.table.Table.get.Goals as goal

pub returns-in_err-place : goal.returns-in_err-place
returns-in_err-place g c =
    ap option_copied c.from_residual.ensures
    ∙ sym (entry_unplaced c.args.self.now c.args.name.now (sym c.place_of.ensures ∙ c.in_err-place.was))

pub returns-in-Some : goal.returns-in-Some
returns-in-Some g c =
    let place = c.in_ok-place.place in
    let at : place_of c.args.self.now c.args.name.now ≡ Some place = sym c.place_of.ensures ∙ c.in_ok-place.was in
    ap (option_map (λ q. q.1)) (c.in-Some.ensures.value ∙ ap (λ ps. slice_get ps place) c.self.view_is)
    ∙ sym (entry_at c.args.self.now c.args.name.now place at)

pub returns-in-None : goal.returns-in-None
returns-in-None g c =
    let place = c.in_ok-place.place in
    let at : place_of c.args.self.now c.args.name.now ≡ Some place = sym c.place_of.ensures ∙ c.in_ok-place.was in
    ap (option_map (λ q. q.1)) (c.in-None.ensures.value ∙ ap (λ ps. slice_get ps place) c.self.view_is)
    ∙ sym (entry_at c.args.self.now c.args.name.now place at)
