use Rattle.std.proofs.Common.{◌∷◌, ◌∙◌, List, Bool, sym, ap}
use Rattle.std.specs.List.{list_any}
use Rattle.gql_model.specs.declared.selection.Selection.{Selection}
use Rattle.execution_model.specs.Fronts.{is_fronted}
use Rattle.op_keys.specs.Plain.{is_plain}
use Rattle.op_keys.specs.Owners.{owner_of}
use Rattle.op_keys.proofs.FrontFolds.{fronts_inside, fronts_in_set_out, told_first}
use Rattle.op_keys.proofs.listing.Lister.+list.Goals as goal

pub set-returns : goal.set-returns
set-returns t c =
    let schema = c.args.self.now.schema.now in
    let subscribes = c.args.self.now.subscribes in
    let owner = owner_of c.args.owner in
    let parent = c.args.parent in
    let all = c.as_slice-selections.result.now in
    let level =
    fronts_in_set_out schema subscribes owner parent c.args.set.now
    ∙ ap (λ (some : List Selection). is_fronted schema subscribes owner parent (list_any is_plain some) ∷ fronts_inside schema subscribes parent some) (sym c.as_slice-selections.ensures)
    ∙ ap (λ (b : Bool). b ∷ fronts_inside schema subscribes parent all) (sym c.is_fronted-fronted.ensures) in
    told_first c.selections.result _ _ _ _ _ c.is_fronted-fronted.result c.in_ok-push.ensures.ok level c.selections.ensures
