use Rattle.std.proofs.Common.{IsUtf8, subst, sym}
use Rattle.fetch_link.proofs.Tokens.{IsUtf8-token}
use Rattle.fetch_link.proofs.hearing.read_whole.Goals as goal

pub text_at-requires-clause-utf8 : goal.text_at-requires-clause-utf8
text_at-requires-clause-utf8 c =
    let is = c.requires.1 in
    subst IsUtf8 (sym is.method) (IsUtf8-token _ is.whole.reads.0.method)
