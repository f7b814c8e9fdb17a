use Rattle.std.proofs.Common.{◌++◌, ◌∷◌, [], List, Bool, sym, ap, ◌∙◌, map, arith}
use Rattle.std.specs.List.{range_with_len}
use Rattle.std.proofs.lemmas.List.FromFn.{map-range_with_len_more}
use Rattle.digraph.specs.Walks.{reaches}
use Rattle.digraph.proofs.graph.Digraph.circled.Goals as goal

pub nodes-preserved : goal.nodes-preserved
nodes-preserved c =
    let graph = c.args.self.now in
    c.in_ok-push.ensures.items
    ∙ ap (λ (xs : List Bool). xs ++ c.in_ok-is_circled.field-0 ∷ []) c.nodes.invariant
    ∙ ap (λ (b : Bool). map (λ a. reaches graph a a) (range_with_len 0 c.nodes.node) ++ b ∷ []) c.in_ok-is_circled.ensures
    ∙ sym (map-range_with_len_more (λ a. reaches graph a a) 0 c.nodes.node c.nodes.node (omega arith))
