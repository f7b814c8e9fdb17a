use Rattle.std.proofs.Common.{◌++◌, subst, sym, ◌∙◌}
use Rattle.http_model.specs.Message.{BehindInterim}
use Rattle.fetch_link.proofs.Decoding.{BehindInterim-append}
use Rattle.fetch_link.proofs.fetch.more_head.Goals as goal

pub returns : goal.returns
returns c seen kept =
    let bytes = c.args.bytes.now in
    let same = c.as_slice.ensures ∙ c.in_ok-append.ensures.ok in
    c.read_head.ensures (seen ++ bytes) (subst (BehindInterim (seen ++ bytes)) (sym same) (BehindInterim-append seen c.args.head.bytes bytes kept.behind))
