use Rattle.std.proofs.Common.{sym, ◌∙◌}
use Rattle.digraph.proofs.SearchLaws.{begun, went_on, fewer_left, ended}
use Rattle.digraph.proofs.graph.Digraph.reached.Goals as goal

pub turn-init : goal.turn-init
turn-init c =
    begun c.args.self.now c.args.start c.in_ok-search.search c.note_all.new.self c.len.result c.successors.result.now
    c.in_ok-search.ensures c.len.ensures c.successors.ensures c.in_ok-note_all.ensures

pub turn-smaller : goal.turn-smaller
turn-smaller c =
    fewer_left c.args.self.now c.turn.at c.in-Some.node c.turn.search c.search-in-turn.inside.marks.items c.search-in-turn.inside.found.items
    c.search-in-turn.invariant c.search-in-turn.view_is c.turn.invariant.1 (sym c.in-Some.ensures)

pub turn-preserved : goal.turn-preserved
turn-preserved c =
    went_on c.args.self.now c.args.start c.turn.at c.in-Some.node c.turn.search c.note_all-in-Some.new.self c.successors-in-Some.result.now
    c.turn.invariant (sym c.in-Some.ensures) c.successors-in-Some.ensures c.in_ok-note_all-2.ensures

pub returns : goal.returns
returns c =
    c.from_vec.ensures
    ∙ ended c.args.self.now c.args.start c.turn.at c.turn.search c.search-in-turn.inside.marks.items c.search-in-turn.inside.found.items
    c.search-in-turn.invariant c.search-in-turn.view_is c.turn.invariant (sym c.in_default.ensures)
