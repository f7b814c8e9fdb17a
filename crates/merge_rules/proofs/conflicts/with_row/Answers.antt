use Rattle.std.proofs.Common.{◌≡◌, List, ℕ, ap, subst, ◌∙◌, arith, ◌||◌}
use Rattle.std.specs.Prelude.{Some, slice_get}
use Rattle.std.specs.List.{list_any}
use Rattle.check_model.specs.Fields.{Placed}
use Rattle.check_model.specs.MergeRules.{conflict}
use Rattle.merge_rules.specs.Kept.{at_odds_with, IsCovered}
use Rattle.merge_rules.proofs.NumberLaws.{field_there}
use Rattle.merge_rules.proofs.KeptLaws.{found, covered_taken, kept_taken}
use Rattle.merge_rules.proofs.conflicts.with_row.Goals as goal

pub returns-then-is_at_odds : goal.returns-then-is_at_odds
returns-then-is_at_odds c = λ fields numbers stands numbered n_is represents.
    let f : (x : Placed) × (slice_get fields c.args.place ≡ Some x) = field_there fields c.args.place (omega (arith, stands.long, c.requires.within)) in
    found c.args.scope.now.schema.now fields numbers c.args.kept c.args.place c.args.number f.0 c.is_at_odds.result represents f.1 n_is
    (c.is_at_odds.ensures fields f.0 stands f.1
    ∙ ap (λ ps. conflict c.args.scope.now.schema.now f.0 f.0 || list_any (at_odds_with c.args.scope.now.schema.now fields f.0) ps) c.kept_at-others.ensures)
    c.if-is_at_odds.true

pub returns-then-is_covered : goal.returns-then-is_covered
returns-then-is_covered c = λ fields numbers stands numbered n_is represents.
    let f : (x : Placed) × (slice_get fields c.args.place ≡ Some x) = field_there fields c.args.place (omega (arith, stands.long, c.requires.within)) in
    covered_taken c.args.scope.now.schema.now fields numbers c.args.kept c.args.place c.args.number f.0 c.is_at_odds.result represents numbered f.1 n_is
    (c.is_at_odds.ensures fields f.0 stands f.1
    ∙ ap (λ ps. conflict c.args.scope.now.schema.now f.0 f.0 || list_any (at_odds_with c.args.scope.now.schema.now fields f.0) ps) c.kept_at-others.ensures)
    c.if-is_at_odds.false
    (subst (λ (ps : List ℕ). IsCovered c.args.scope.now.schema.now fields ps f.0) c.kept_at-others.ensures
    (c.is_covered.ensures c.args.scope.now.schema.now fields f.0 stands f.1 c.if-is_covered.true))

pub returns : goal.returns
returns c = λ fields numbers stands numbered n_is represents.
    let f : (x : Placed) × (slice_get fields c.args.place ≡ Some x) = field_there fields c.args.place (omega (arith, stands.long, c.requires.within)) in
    kept_taken c.args.scope.now.schema.now fields numbers c.args.kept c.in_ok-more.more c.args.place c.args.number f.0 c.is_at_odds.result represents numbered f.1 n_is
    (c.is_at_odds.ensures fields f.0 stands f.1
    ∙ ap (λ ps. conflict c.args.scope.now.schema.now f.0 f.0 || list_any (at_odds_with c.args.scope.now.schema.now fields f.0) ps) c.kept_at-others.ensures)
    c.if-is_at_odds.false c.in_ok-more.ensures
