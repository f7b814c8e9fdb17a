use Rattle.std.proofs.Common.{◌≡◌, map, take, reverse, subst, ap, sym, ◌∙◌, rules}
use Rattle.std.proofs.lemmas.List.{take-map}
use Rattle.gate_outside.specs.Log.{event_of, image_after, MayLeave}
use Rattle.gate_outside.proofs.Torn.{image_leaves}
use Rattle.gate_outside.proofs.memory_disk.MemoryDisk.image.Goals as goal

exact : goal.returns-clause-exact
exact c =
    let is : c.in_ok-torn_image.field-0.items ≡ image_after c.args.tear c.self.inside.first.items (reverse (map (event_of c.self.inside.bytes.items) (take c.args.count c.self.inside.changes.items))) = search rules in
    subst (λ d. c.from_vec.result ≡ image_after c.args.tear d.first (reverse (take c.args.count d.log))) c.self.view_is
    (c.from_vec.ensures ∙ is ∙ ap (λ l. image_after c.args.tear c.self.inside.first.items (reverse l)) (sym (take-map (event_of c.self.inside.bytes.items) c.args.count c.self.inside.changes.items)))

pub returns-clause-exact : goal.returns-clause-exact
returns-clause-exact c = exact c

pub returns-clause-possible : goal.returns-clause-possible
returns-clause-possible c =
    subst (λ z. MayLeave c.args.self.now.first (reverse (take c.args.count c.args.self.now.log)) z) (sym (exact c)) (image_leaves c.args.tear c.args.self.now.first (reverse (take c.args.count c.args.self.now.log)))
