use Rattle.std.proofs.Common.{ℕ, List, ◌∙◌}
use Rattle.std.proofs.lemmas.Result.{IfOk-weaker}
use Rattle.std.specs.Borrow.{Bor}
use Rattle.gql_value.specs.declared.value.Value.{Value}
use Rattle.cache_model.specs.declared.cell.Cell.TheVariants as cell
use Rattle.cache_model.specs.declared.write.Write.TheVariants as write
use Rattle.rule_writes.proofs.ListLaws.{behind_first}
use Rattle.rule_writes.proofs.declared.object_writes.Goals as goal

pub returns : goal.returns
returns c =
    IfOk-weaker c.member_writes.result _ _
    (λ writes is.
    is
    ∙ behind_first (λ (m : List ℕ × Value). write.Set c.args.entity.now m.0 (cell.Leaf m.1)) (λ (m : Bor (List ℕ) × Bor Value). (m.0.now, m.1.now))
    c.args.members.now c.args.out c.in_ok-begun.begun c.in_ok-first.first _ c.in_ok-begun.ensures c.in_ok-first.ensures)
    c.member_writes.ensures
