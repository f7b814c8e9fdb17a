use Rattle.std.proofs.Common.{ap, ◌∙◌, ◌||◌}
use Rattle.std.specs.Prelude.{not}
use Rattle.schema_rules.specs.Unsatisfied.{is_required}
use Rattle.schema_defaults.proofs.TestLaws.{all_congr}
use Rattle.schema_defaults.proofs.fits.all_are_given.Goals as goal

pub returns : goal.returns
returns c = λ marks h.
    c.all_are_in.ensures
    ∙ all_congr _ _ c.args.declared.now (λ d. ap (λ b. b || not (is_required d.1)) (h.names d.0))
