use Rattle.std.proofs.Common.{◌++◌}
use Rattle.httparse.specs.Grammar.{status_code}
use Rattle.http_model.specs.Message.{framing_of}
use Rattle.fetch_link.proofs.Decoding.{BehindInterim-append, IsFinal-append, final-gives}
use Rattle.fetch_link.proofs.fetch.more_body.Goals as goal

pub returns-in-Wants : goal.returns-in-Wants
returns-in-Wants c seen stands =
    let bytes = c.args.bytes.now in
    let behind = BehindInterim-append seen stands.rest bytes stands.behind in
    let final = IsFinal-append stands.rest stands.head stands.came bytes stands.final in
    let gives = rw c.in-Wants.is at c.in_ok-body.ensures (status_code stands.head) (framing_of stands.head) stands.came stands.keeps in (
      record { rest = stands.rest ++ bytes; behind = behind; head = stands.head; came = stands.came ++ bytes; final = final; keeps = gives.0 },
      final-gives _ _ _ _ _ behind final gives.1,
    )

pub returns-in-Done : goal.returns-in-Done
returns-in-Done c seen stands =
    let bytes = c.args.bytes.now in
    let behind = BehindInterim-append seen stands.rest bytes stands.behind in
    let final = IsFinal-append stands.rest stands.head stands.came bytes stands.final in
    let gives = rw c.in-Done.is at c.in_ok-body.ensures (status_code stands.head) (framing_of stands.head) stands.came stands.keeps in
    final-gives _ _ _ _ _ behind final gives
