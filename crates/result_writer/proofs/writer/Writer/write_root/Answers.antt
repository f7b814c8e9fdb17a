use Rattle.std.proofs.Common.{◌≡◌, [], ap, ◌∙◌}
use Rattle.execution_model.specs.Collection.{deepest}
use Rattle.execution_model.specs.Asked.{root_sets}
use Rattle.result_writer.specs.Results.{told_behind}
use Rattle.result_writer.specs.Views.{answered_of, object_of, found_of}
use Rattle.result_writer.specs.Ways.{Found, asked_written}
use Rattle.result_writer.specs.Roots.{root_found}
use Rattle.result_writer.proofs.WriteLaws.{tells_at, by_what_is_asked}
use Rattle.result_writer.proofs.writer.Writer.write_root.Goals as goal

pub returns : goal.returns
returns c =
    let answered = answered_of c.args.self.now in
    let found = found_of c.in_ok-object.object in
    let root = root_found answered c.args.members.now (c.args.named.0, c.args.named.1.now) in
    tells_at c.write_fields.result _ _
    (ap (λ before. told_behind before (asked_written c.deepest.result answered found.object found.asked)) c.new.ensures
    ∙ ap (λ (f : Found). told_behind [] (asked_written c.deepest.result answered f.object f.asked)) c.in_ok-object.ensures
    ∙ ap (λ n. told_behind [] (asked_written n answered root.object root.asked)) c.deepest.ensures
    ∙ ap (told_behind []) (by_what_is_asked deepest answered (root_sets answered.execution) root.object))
    c.write_fields.ensures
