use Rattle.std.proofs.Common.{◌≡◌, ◌+◌, ◌<◌, ◌^◌, length, drop, sym, ◌∙◌, ap, subst, arith, length-drop, IsUtf8, true, false}
use Rattle.std.specs.Int.{w32, to_be_bytes}
use Rattle.std.proofs.lemmas.Str.{IsUtf8-string_bytes}
use Rattle.queue_model.specs.QueueFile.{with_text}
use Rattle.queue_journal.proofs.Fields.{no_text_short, no_text_cut, no_text_utf8, text_here}
use Rattle.queue_journal.proofs.texts.read_text.Goals as goal

pub returns-then-length-at-lt-SIZE-clause-reads : goal.returns-then-length-at-lt-SIZE-clause-reads
returns-then-length-at-lt-SIZE-clause-reads g c file told long =
    no_text_short (drop c.args.at file) (let e = length-drop c.args.at file in omega (arith, e, long))

pub returns-then-length-start-clause-reads : goal.returns-then-length-start-clause-reads
returns-then-length-start-clause-reads g c file told long =
    let size = c.in_ok-read_size.ensures in
    no_text_cut file c.args.at c.in_ok-read_size.field-0 size.small (size.bytes file told)
    (let e = length-drop (c.args.at + 4) file in let e' = c.from-size.ensures in omega (arith, e, e', long))

pub returns-in-Ok-clause-reads : goal.returns-in-Ok-clause-reads
returns-in-Ok-clause-reads g c file told long =
    let size = c.in_ok-read_size.ensures in
    let small : c.from-size.result < 2 ^ 32 = omega (arith, size.small, c.from-size.ensures) in
    let spelled = ap (to_be_bytes w32) c.from-size.ensures ∙ size.bytes file told in
    let bytes = c.in_ok-bytes.ensures in
    let here = text_here file c.args.at c.from-size.result small spelled c.in_ok-bytes.bytes.items bytes.count (bytes.bytes file (c.read_size.ensures.quiet.file ∙ told)) in
    let same = c.from_string.ensures ∙ ap (λ v. v.items) c.in-Ok.ensures.ok in
    let e : length c.from_string.result ≡ c.from-size.result = ap length same ∙ bytes.count in
    ((subst IsUtf8 (sym c.from_string.ensures) (IsUtf8-string_bytes c.in-Ok.text), omega (arith, e, small)), here ∙ ap (λ l. with_text l (drop (c.args.at + 4 + c.from-size.result) file)) (sym same))

pub returns-clause-reads : goal.returns-clause-reads
returns-clause-reads g c file told long =
    let size = c.in_ok-read_size.ensures in
    let small : c.from-size.result < 2 ^ 32 = omega (arith, size.small, c.from-size.ensures) in
    let spelled = ap (to_be_bytes w32) c.from-size.ensures ∙ size.bytes file told in
    let bytes = c.in_ok-bytes.ensures in
    no_text_utf8 file c.args.at c.from-size.result small spelled c.in_ok-bytes.bytes.items bytes.count (bytes.bytes file (c.read_size.ensures.quiet.file ∙ told))
    (λ utf8. let differs : false ≡ true = c.in-Err.ensures.succeeds utf8 in cc)
