use Rattle.std.proofs.Common.{◌∙◌, decimal}
use Rattle.std.specs.Prelude.{codes}
use Rattle.std.proofs.lemmas.Result.{on_ok_weaker}
use Rattle.gql_value.specs.Text.{quoted}
use Rattle.exchange_line.proofs.Pieces.{pieces}
use Rattle.exchange_line.proofs.line.push_fetch.Goals as goal

pub returns : goal.returns
returns c =
    on_ok_weaker c.append-3.result
    (λ w. w ∙ rw (c.in_ok-write_quoted.ensures.ok, c.in_ok-append-2.ensures.ok, c.in_ok-push_number.ensures, c.in_ok-append.ensures.ok)
    (pieces c.args.out.now (codes "{\"out\":\"fetch\",\"fetch\":") (decimal c.args.fetch) (codes ",\"query\":") (quoted c.args.query.now) (codes ",\"operationName\":null,\"variables\":{}}\n")))
    c.append-3.ensures.ok
