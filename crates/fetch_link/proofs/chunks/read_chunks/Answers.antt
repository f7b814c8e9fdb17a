use Rattle.std.proofs.Common.{◌≡◌, ◌+◌, [], ◌∷◌, ◌++◌, drop, length, nat_lt, if◌then◌else◌, false, fold, get_or, sym, ap, ◌∙◌, arith}
use Rattle.std.proofs.lemmas.Bool.Decides.{nat_tests}
use Rattle.http_model.specs.Framing.{body_limit}
use Rattle.http_model.specs.Chunks as spec
use Rattle.http_model.specs.declared.chunk.ChunkStep.TheVariants.{Data, Whole, Malformed}
use Rattle.fetch_link.proofs.Folds.{chunk_after-drop, chunk_after-whole, chunk_after-malformed, chunk_after-too_long}
use Rattle.fetch_link.proofs.chunks.read_chunks.Goals as goal

pub returns-then-len-ge-BODY_LIMIT : goal.returns-then-len-ge-BODY_LIMIT
returns-then-len-ge-BODY_LIMIT c =
    let bytes = c.args.bytes.now in
    let i = c.loop-byte.byte-index in
    let came = c.loop-byte.came in
    let rest = drop (i + 1) bytes in
    let full : nat_lt (length came) body_limit ≡ false = grind (arith, nat_tests) in
    let next = spec.reading c.in-Data.next (came ++ get_or bytes i 0 ∷ []) in
    let over = ap (λ b. fold spec.chunk_after (if b then next else spec.too_long) rest) full in
    sym (chunk_after-too_long rest) ∙ sym over ∙ sym (chunk_after-drop c.loop-byte.phase came bytes i (Data c.in-Data.next) (omega arith) (sym c.step.ensures ∙ c.in-Data.is)) ∙ c.loop-byte.invariant

pub returns-in-Whole : goal.returns-in-Whole
returns-in-Whole c =
    let bytes = c.args.bytes.now in
    let i = c.loop-byte.byte-index in
    sym (chunk_after-whole c.loop-byte.came (drop (i + 1) bytes)) ∙ sym (chunk_after-drop c.loop-byte.phase c.loop-byte.came bytes i Whole (omega arith) (sym c.step.ensures ∙ c.in-Whole.is)) ∙ c.loop-byte.invariant

pub returns-in-Malformed : goal.returns-in-Malformed
returns-in-Malformed c =
    let bytes = c.args.bytes.now in
    let i = c.loop-byte.byte-index in
    sym (chunk_after-malformed (drop (i + 1) bytes)) ∙ sym (chunk_after-drop c.loop-byte.phase c.loop-byte.came bytes i Malformed (omega arith) (sym c.step.ensures ∙ c.in-Malformed.is)) ∙ c.loop-byte.invariant
