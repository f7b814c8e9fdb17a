use Rattle.std.proofs.Common.{◌≡◌, ◌++◌, ◌∷◌, [], ℕ, List, Option, map, drop, unwrap_or, ap, ◌∙◌}
use Rattle.std.specs.Borrow.{Bor}
use Rattle.std.proofs.lemmas.Result.{IfOk-weaker}
use Rattle.gql_tokens.specs.Blocks.{without_blank_ends}
use Rattle.gql_tokens.specs.Readings.{texts, lines_left}
use Rattle.gql_tokens.proofs.BlockLaws.{block_steps}
use Rattle.gql_tokens.proofs.block_values.block_bytes.Goals as goal

pub returns : goal.returns
returns c =
    let first = c.split_line.result.0 in
    let others = c.split_line.result.1 in
    let lines = c.push_lines.new.lines.items in
    let one : c.push.new.self.items ≡ first ∷ [] = c.in_ok-push.ensures.items ∙ ap (λ (all : List (Bor (List ℕ))). all ++ first ∷ []) c.new-lines.ensures.items in
    IfOk-weaker c.joined.result _ _
    (λ v j. block_steps c.args.raw.now first others c.unwrap_or-indent.result lines c.without_blank_ends.result.now v.items
    c.split_line.ensures.lines
    (c.unwrap_or-indent.ensures ∙ ap (λ (indent : Option ℕ). unwrap_or indent 0) c.common_indent.ensures)
    (c.in_ok-push_lines.ensures ∙ ap (λ (all : List (Bor (List ℕ))). texts all ++ map (λ line. drop c.unwrap_or-indent.result line) (lines_left others)) one)
    (c.without_blank_ends.ensures ∙ ap (λ (all : List (Bor (List ℕ))). without_blank_ends (texts all)) c.as_slice.ensures.value)
    j)
    c.joined.ensures
