use Rattle.std.proofs.Common.{arith, sym, ap, ◌∙◌, ◌≡◌, false}
use Rattle.httparse.specs.Grammar.{status_code}
use Rattle.http_model.specs.Message.{is_interim}
use Rattle.fetch_link.proofs.Decoding.{length-response, length-whole, same_status}
use Rattle.fetch_link.proofs.fetch.interim_len.Goals as goal

pub returns-then-is_interim-clause-within : goal.returns-then-is_interim-clause-within
returns-then-is_interim-clause-within c =
    let h = c.in-Whole.ensures.0 in
    let is = c.in-Whole.ensures.1 in
    (omega (arith, is.len, length-response h is.whole.reads.0), omega (arith, is.len, length-whole _ h _ is.whole.reads))

pub returns-else-is_interim-clause-none : goal.returns-else-is_interim-clause-none
returns-else-is_interim-clause-none c k more whole =
    let h = c.in-Whole.ensures.0 in
    let is = c.in-Whole.ensures.1 in
    let final : is_interim (status_code h) ≡ false = ap is_interim (sym is.status) ∙ sym c.is_interim.ensures ∙ c.if-is_interim.false in
    same_status c.args.bytes.now h k _ more is.whole whole final
