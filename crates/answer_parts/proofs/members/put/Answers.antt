use Rattle.std.proofs.Common.{◌≡◌, refl, sym, ap, ◌∙◌, bytes_eq}
use Rattle.std.specs.Prelude.{None}
use Rattle.std.specs.Option.{option_map}
use Rattle.std.proofs.lemmas.Map.Text.{btree_map_updates_str}
use Rattle.answer_parts.specs.Members.{value_in}
use Rattle.answer_parts.proofs.MemberLaws.{none_of, put_case}
use Rattle.answer_parts.proofs.members.put.Goals as goal

pub returns : goal.returns
returns c =
    let old = c.args.values.now in
    let name = c.args.name.now in
    let none : value_in old name ≡ None = none_of (value_in old name) (sym c.has.ensures ∙ c.if-has.false) in
    λ other.
    ap (option_map (λ v. v.now)) (btree_map_updates_str name old c.insert.new.self _ c.in_ok-insert.ensures.updates other)
    ∙ put_case (value_in old) name other c.args.value _ (bytes_eq name other) refl none refl
