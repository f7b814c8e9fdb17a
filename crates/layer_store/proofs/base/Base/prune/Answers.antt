use Rattle.std.proofs.Common.{◌∙◌, ap, sym, true, List, ℕ}
use Rattle.std.specs.BTreeMap.{is_at}
use Rattle.text_types.specs.Texts.{text_cmp}
use Rattle.layer_store.specs.Bases.{has_place}
use Rattle.layer_store.proofs.CellLaws.{found_text}
use Rattle.layer_store.proofs.PlaceLaws.{prune_same, prune_kept}
use Rattle.layer_store.proofs.base.Base.prune.Goals as goal

pub returns-then-has_no_place-clause-same : goal.returns-then-has_no_place-clause-same
returns-then-has_no_place-clause-same c e f = prune_same (is_at (text_cmp c.args.entity.now) e) f _ _ (c.remove.ensures.updates.0 e) (λ t. ap (λ (q : List ℕ). has_place c.args.self.now q f) (sym (found_text c.args.entity.now e t)) ∙ c.has_no_place.ensures c.if-has_no_place.true f)

pub returns-then-has_no_place-clause-kept : goal.returns-then-has_no_place-clause-kept
returns-then-has_no_place-clause-kept c e f = prune_kept (is_at (text_cmp c.args.entity.now) e) f _ _ (c.remove.ensures.updates.0 e) (λ t. ap (λ (q : List ℕ). has_place c.args.self.now q f) (sym (found_text c.args.entity.now e t)) ∙ c.has_no_place.ensures c.if-has_no_place.true f)
