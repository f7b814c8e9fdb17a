use Rattle.std.proofs.Common.{◌≡◌, ◌+◌, ◌-◌, ◌++◌, length, take, drop, ◌∙◌, subst, arith}
use Rattle.queue_journal.proofs.Pieces.{more_read}
use Rattle.queue_journal.proofs.Runs.{quiet_then}
use Rattle.queue_journal.proofs.bytes.read_bytes.Goals as goal

pub pieces-preserved : goal.pieces-preserved
pieces-preserved g c =
    let piece = c.in_ok-read_piece.ensures in
    let before = c.pieces.invariant in record {
      within = omega (arith, piece.most, before.within);
      read = λ file told.
          let more = piece.bytes file (before.quiet.file ∙ told) in
          let done : c.len-done.result ≡ length c.pieces.bytes.items = omega arith in
          more_read c.pieces.bytes.items c.read_piece.new.bytes.items c.args.at file (before.read file told) piece.grows
          (subst (λ n. c.read_piece.new.bytes.items ≡ c.pieces.bytes.items ++ take (length c.read_piece.new.bytes.items - length c.pieces.bytes.items) (drop (c.args.at + n) file)) done more);
      quiet = quiet_then g.D.Disk.reads g.D.Disk.kept g.D.Disk.may_leave g.D.Disk.moment g.D.Disk.left_since g.met.D.Disk.only_now _ _ _ before.quiet piece.quiet;
      later = omega (arith, before.later, piece.cause.later);
    }
