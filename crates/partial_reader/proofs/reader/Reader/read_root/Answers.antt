use Rattle.std.proofs.Common.{◌≡◌, ap, ◌∙◌, map}
use Rattle.answer_model.specs.Reading.{member_found, of_positions, reading_of}
use Rattle.field_asking.specs.Asking.{executed}
use Rattle.partial_reader.specs.Walks.{after_all, root_positions}
use Rattle.partial_reader.proofs.FoundLaws.{nothing_yet, told_all, visited_all}
use Rattle.partial_reader.proofs.reader.Reader.read_root.Goals as goal

pub returns-clause-reading : goal.returns-clause-reading
returns-clause-reading g c =
    let positions = root_positions (executed c.args.self.now.asking.now) (g.C.Lookup.cells c.args.self.now.cells.now) (c.args.of.0, c.args.of.1.now) in
    let trail_is : c.root_object.new.trail ≡ after_all nothing_yet (map member_found positions) =
    c.in_ok-object.ensures.trail ∙ ap (λ t. after_all t (map member_found positions)) c.new-trail.ensures in
    ap (λ r. (r, c.root_object.new.trail.visited)) (c.told.ensures ∙ told_all positions c.in_ok-object.object c.root_object.new.trail c.in_ok-object.ensures.object trail_is)
    ∙ ap (λ v. (reading_of positions (of_positions positions), v)) (visited_all positions c.root_object.new.trail trail_is)
