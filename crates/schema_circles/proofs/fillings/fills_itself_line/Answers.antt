use Rattle.std.proofs.Common.{◌≡◌, ℕ, List, Bool, ap, ◌∙◌}
use Rattle.digraph.specs.Walks.{Graph, circled}
use Rattle.schema_model.specs.Schemas.{NamedType}
use Rattle.schema_circles.specs.Marked.{least_marked}
use Rattle.schema_circles.specs.Fillings.{first_numbers, field_lines, filling_graph}
use Rattle.schema_circles.proofs.fillings.fills_itself_line.Goals as goal

pub returns : goal.returns
returns c =
    let schema = c.args.schema.now in
    let types = c.as_slice-types.ensures.pairs in
    let firsts = c.as_slice.ensures ∙ c.in_ok-numbering.ensures.firsts ∙ ap first_numbers types in
    let graph =
    c.in_ok-graph.ensures
    ∙ ap (λ (fs : List ℕ). filling_graph schema fs c.as_slice-types.result.now) firsts
    ∙ ap (λ (ts : List NamedType). filling_graph schema (first_numbers schema.types) ts) types in
    let marks = c.as_slice-2.ensures ∙ c.in_ok-marks.ensures ∙ ap circled graph in
    let lines = c.as_slice-3.ensures ∙ c.in_ok-numbering.ensures.lines ∙ ap field_lines types in
    c.least_marked.ensures
    ∙ ap (λ (ms : List Bool). least_marked ms c.as_slice-3.result.now) marks
    ∙ ap (λ (ls : List ℕ). least_marked (circled (filling_graph schema (first_numbers schema.types) schema.types)) ls) lines
