use Rattle.std.proofs.Common.{◌∙◌, ap, sym, ◌||◌, not, Option, List, ℕ, rules}
use Rattle.std.specs.Prelude.{is_some}
use Rattle.std.specs.BTreeMap.{get, is_at}
use Rattle.std.specs.Map.{lookup}
use Rattle.std.proofs.lemmas.Map.Made.{filter_same_pairs}
use Rattle.std.proofs.lemmas.Map.Entries.{lookup-filter-keys}
use Rattle.text_types.specs.Texts.{text_cmp}
use Rattle.cache_model.specs.declared.cell.Cell.{Cell}
use Rattle.layer_store.specs.Layers.{is_buried}
use Rattle.layer_store.proofs.CellLaws.{found_text}
use Rattle.layer_store.proofs.places.keep_unburied.Goals as goal

pub returns : goal.returns
returns c f =
    let keep = λ (k : List ℕ). is_some (get text_cmp c.args.fields.now.cells k) || not (is_buried c.args.fields.now k) in
    let kept = filter_same_pairs _ (λ e. keep e.0) _ (λ k v b w f' t. search rules) _ _ c.retain.ensures.filtered in
    ap (λ (es : List (List ℕ × Option Cell)). lookup (is_at (text_cmp f)) es) kept
    ∙ lookup-filter-keys (is_at (text_cmp f)) keep (keep f) (λ k e. ap keep (sym (found_text f k e))) c.args.places.now.entries
