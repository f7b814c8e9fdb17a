use Rattle.std.proofs.Common.{◌≡◌, []}
use Rattle.std.specs.List.{fold}
use Rattle.schema_model.specs.Tables.{put}
use Rattle.judged_dispatch.proofs.variables.table_of.Given as goal

abbrev pub invariant-members : goal.invariant-members
invariant-members l = l.table ≡ fold put [] l.yielded
