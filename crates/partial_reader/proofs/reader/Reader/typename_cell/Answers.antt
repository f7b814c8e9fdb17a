use Rattle.std.proofs.Common.{◌≡◌, ℕ, List, [], ◌∷◌, ◌++◌, ◌∙◌, subst, OnOk}
use Rattle.partial_reader.proofs.reader.Reader.typename_cell.Goals as goal

pub returns-clause-trail : goal.returns-clause-trail
returns-clause-trail g c =
    subst (λ (key : List ℕ). OnOk c.look.result (c.look.new.trail ≡ record { visited = c.args.trail.now.visited ++ (c.args.entity.now, key) ∷ []; partial = c.args.trail.now.partial }))
    (c.in_ok-field.ensures ∙ c.in_ok-name.ensures) c.look.ensures.trail
