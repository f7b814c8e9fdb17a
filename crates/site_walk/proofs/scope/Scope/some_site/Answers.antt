use Rattle.std.proofs.Common.{refl}
use Rattle.check_model.specs.Sites.{sites}
use Rattle.site_walk.proofs.WalkLaws.{fold_found}
use Rattle.site_walk.proofs.scope.Scope.some_site.Goals as goal

pub returns : goal.returns
returns g c =
    fold_found _ _ _ (sites c.args.self.now.schema.now c.args.self.now.document.now) c.in_ok-visit.ensures
    (λ s. s.found) (λ s. g.T.SiteTest.test s.test.now) (λ s site. refl) (λ s site. refl)
