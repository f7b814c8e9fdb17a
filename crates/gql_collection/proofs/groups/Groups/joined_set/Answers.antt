use Rattle.std.proofs.Common.{ap, sym, subst, ◌∙◌}
use Rattle.execution_model.specs.Collection.{group_place}
use Rattle.gql_collection.specs.Keys.{HasDistinctKeys}
use Rattle.gql_collection.proofs.GroupLaws.{place_joined, distinct_joined}
use Rattle.gql_collection.proofs.groups.Groups.joined_set.Goals as goal

pub invariant_of-result : goal.invariant_of-result
invariant_of-result c = record {
  placed = λ name.
      c.args.self.placed name
      ∙ sym (place_joined name c.args.self.groups c.args.at c.args.set)
      ∙ sym (ap (group_place name) c.in_ok-groups.ensures);
  distinct = subst HasDistinctKeys (sym c.in_ok-groups.ensures) (distinct_joined c.args.self.groups c.args.at c.args.set c.args.self.distinct);
}
