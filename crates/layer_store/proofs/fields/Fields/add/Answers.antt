use Rattle.std.proofs.Common.{◌∙◌, ap, sym, cond, Bool, Option, Some, List, ℕ}
use Rattle.std.specs.Prelude.{is_some, bytes_eq}
use Rattle.std.specs.BTreeMap.{get}
use Rattle.std.specs.Cmp.Lexicographic.{texts_ties}
use Rattle.cache_model.specs.declared.cell.Cell.{Cell}
use Rattle.cache_model.specs.Maps.{or_else}
use Rattle.text_types.specs.Texts.{text_cmp}
use Rattle.layer_store.specs.Layers.{gone_if, is_buried, found_in}
use Rattle.layer_store.proofs.CellLaws.{put_below, found_text}
use Rattle.layer_store.proofs.fields.Fields.add.Goals as goal

pub returns : goal.returns
returns c f =
    let old = c.args.self.now in
    let gone = gone_if (is_buried old f) in
    let at = bytes_eq c.args.field f in
    ap (λ (o : Option (Option Cell)). or_else o gone) (c.in_ok-insert.ensures.updates.0 f ∙ ap (λ (b : Bool). cond b (Some c.args.cell) (get text_cmp old.cells f)) (sym (texts_ties c.args.field f)))
    ∙ put_below at c.args.cell (get text_cmp old.cells f) gone (λ e. ap (λ (q : List ℕ). is_some (found_in old q)) (sym (found_text c.args.field f (sym (texts_ties c.args.field f) ∙ e))) ∙ c.requires)
