use Rattle.std.proofs.Common.{◌≡◌, ◌∙◌, ◌+◌, ◌++◌, ◌∷◌, [], ap, sym, take, List, ℕ, arith}
use Rattle.std.specs.Prelude.{bytes_eq}
use Rattle.std.proofs.lemmas.List.{take_more}
use Rattle.cache_model.specs.Keys.{field_name_of}
use Rattle.cache_model.specs.Maps.{or_else}
use Rattle.layer_store.specs.Layers.{gone_if, found_in}
use Rattle.layer_store.proofs.CellLaws.{name_turn}
use Rattle.layer_store.proofs.fields.Fields.put_names.Goals as goal

pub loop-name-preserved : goal.loop-name-preserved
loop-name-preserved c f =
    let names = c.args.names.now in
    let at = c.loop-name.name-index in
    let name = c.name-item.result in
    let more : take (at + 1) names ≡ take at names ++ name ∷ [] = take_more names at name (omega arith) ∙ ap (λ (x : List ℕ). take at names ++ x ∷ []) (sym c.name-item.is) in
    name_turn (take at names) (take (at + 1) names) name f _ _ (found_in c.args.self.now f) more
    (c.in_ok-put_name.ensures f ∙ ap (λ (x : List ℕ). or_else (found_in c.loop-name.self f) (gone_if (bytes_eq x (field_name_of f)))) c.in_ok-copy.ensures)
    (c.loop-name.invariant f)
