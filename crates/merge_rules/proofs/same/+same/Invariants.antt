use Rattle.std.proofs.Common.{◌≡◌, map, drop, length}
use Rattle.check_model.specs.SameValues.{all_same, same_literal, same_object_field}
use Rattle.merge_rules.proofs.same.+same.Given as goal

abbrev pub invariant-same_items-items : goal.invariant-same_items-items
invariant-same_items-items l = record {
  long : length l.items ≡ length l.others;
  so_far : all_same (map same_literal l.items) l.others ≡ all_same (map same_literal (drop l.i l.items)) (drop l.i l.others);
}

abbrev pub invariant-same_fields-fields : goal.invariant-same_fields-fields
invariant-same_fields-fields l = record {
  long : length l.fields ≡ length l.others;
  so_far : all_same (map same_object_field l.fields) l.others ≡ all_same (map same_object_field (drop l.i l.fields)) (drop l.i l.others);
}
