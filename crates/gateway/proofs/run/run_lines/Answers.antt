use Rattle.std.proofs.Common.{◌≡◌, ◌++◌, ◌∙◌, length, take, ap, sym, arith, length-take, length-append}
use Rattle.fault_causes.proofs.RoseLaws.{Rose-after}
use Rattle.gateway.specs.Progress.{Progress, start, progress_after}
use Rattle.gateway.proofs.Fronts.{WritesFront-all}
use Rattle.gateway.proofs.Steps.{number-le, progress_after-append}
use Rattle.gateway.proofs.Stops.{line_stopped, line_stop_cases}
use Rattle.gateway.proofs.Reading.{Takes-kept, Takes-none, Takes-all, Takes-more, Takes-chunk, Appends-whole, Appends-last, Appends-behind, WritesFront-last, WritesFront-behind, WroteSome-none, WroteSome-behind, WroteSome-front, RanFront-last, RanFront-within, Ran-first, Ran-within}
use Rattle.gateway.proofs.run.run_lines.Goals as goal

pub returns-in_default-clause-source : goal.returns-in_default-clause-source
returns-in_default-clause-source g c e =
    let i = c.reads.invariant.reading in
    let r = c.in_default.ensures in (
      Rose-after _ _ _ c.reads.invariant.source r.cause.failed,
      record { taken = i.bytes; took = Takes-kept _ _ _ _ _ i.bytes i.took r.bytes r.counted; written = Appends-whole c.args.service _ _ i.bytes i.written },
    )

pub returns-in_default-clause-front : goal.returns-in_default-clause-front
returns-in_default-clause-front g c =
    let i = c.reads.invariant.reading in
    let r = c.in_default.ensures in
    let taken = Takes-all _ _ _ _ c.args.limit i.bytes (Takes-kept _ _ _ _ _ i.bytes i.took r.bytes r.counted) (omega (arith, i.count)) in
    RanFront-within c.args.service _ _ g.O.Sink.held _ _ _ _ c.args.limit i.bytes taken (WritesFront-all _ _ _ i.written)

pub returns-in_err-finish-clause-sink : goal.returns-in_err-finish-clause-sink
returns-in_err-finish-clause-sink g c e =
    let said = c.finish.ensures.sink (line_stopped _ _ _ _ c.in_err-finish.was c.from_residual.ensures.1 e) in
    Rose-after _ _ _ c.reads.invariant.sink said.0

pub returns-in_err-finish-clause-memory : goal.returns-in_err-finish-clause-memory
returns-in_err-finish-clause-memory g c e =
    let i = c.reads.invariant.reading in
    let r = c.in-Ok.ensures in
    let said = c.finish.ensures.memory (line_stopped _ _ _ _ c.in_err-finish.was c.from_residual.ensures.1 e) in
    let took = Takes-none _ _ _ _ _ i.bytes i.took c.in-Ok.count c.read.new.buf c.if-count-eq0.true r.bytes.0 r.counted in
    Ran-first c.args.service _ _ g.O.Sink.held _ _ _ _ c.args.limit i.bytes (Takes-all _ _ _ _ c.args.limit i.bytes took (omega (arith, i.count)))
    (WroteSome-none c.args.service _ _ _ i.bytes i.written (sym (ap g.O.Sink.held said)))

pub returns-in_err-finish-clause-front : goal.returns-in_err-finish-clause-front
returns-in_err-finish-clause-front g c =
    let i = c.reads.invariant.reading in
    let r = c.in-Ok.ensures in
    let took = Takes-none _ _ _ _ _ i.bytes i.took c.in-Ok.count c.read.new.buf c.if-count-eq0.true r.bytes.0 r.counted in
    let taken = Takes-all _ _ _ _ c.args.limit i.bytes took (omega (arith, i.count)) in
    line_stop_cases _ _ c.in_err-finish.was
    (λ e. RanFront-last c.args.service _ _ g.O.Sink.held _ _ _ _ c.args.limit i.bytes took (omega (arith, i.count)) (WritesFront-last c.args.service _ _ _ i.bytes i.written (rw i.stands at (c.finish.ensures.sink e).1)))
    (λ e. RanFront-within c.args.service _ _ g.O.Sink.held _ _ _ _ c.args.limit i.bytes taken (WroteSome-front _ _ i.bytes (WroteSome-none c.args.service _ _ _ i.bytes i.written (sym (ap g.O.Sink.held (c.finish.ensures.memory e))))))

pub returns-then-count-eq0-clause-finished : goal.returns-then-count-eq0-clause-finished
returns-then-count-eq0-clause-finished g c =
    let i = c.reads.invariant.reading in
    let r = c.in-Ok.ensures in record {
      taken = i.bytes;
      took = Takes-none _ _ _ _ _ i.bytes i.took c.in-Ok.count c.read.new.buf c.if-count-eq0.true r.bytes.0 r.counted;
      written = Appends-last c.args.service _ _ _ i.bytes i.written (rw i.stands at c.in_ok-finish.ensures.text);
    }

pub returns-then-count-eq0-clause-front : goal.returns-then-count-eq0-clause-front
returns-then-count-eq0-clause-front g c =
    let i = c.reads.invariant.reading in
    let r = c.in-Ok.ensures in
    let took = Takes-none _ _ _ _ _ i.bytes i.took c.in-Ok.count c.read.new.buf c.if-count-eq0.true r.bytes.0 r.counted in
    RanFront-last c.args.service _ _ g.O.Sink.held _ _ _ _ c.args.limit i.bytes took (omega (arith, i.count))
    (WritesFront-all _ _ _ (Appends-last c.args.service _ _ _ i.bytes i.written (rw i.stands at c.in_ok-finish.ensures.text)))

pub take-requires : goal.take-requires
take-requires g c =
    let i = c.reads.invariant.reading in
    omega (arith, ap (λ (p : Progress). p.number) i.stands, number-le (start c.args.service) i.bytes, i.count, length-take c.min-within.result c.read.new.buf, c.min-within.ensures)

pub returns-in_err-take-clause-sink : goal.returns-in_err-take-clause-sink
returns-in_err-take-clause-sink g c e =
    let said = c.take.ensures.sink (line_stopped _ _ _ _ c.in_err-take.was c.from_residual-in_err-take.ensures.1 e) in
    Rose-after _ _ _ c.reads.invariant.sink said.0

pub returns-in_err-take-clause-memory : goal.returns-in_err-take-clause-memory
returns-in_err-take-clause-memory g c e =
    let i = c.reads.invariant.reading in
    let r = c.in-Ok.ensures in
    let seen = take c.min-within.result c.read.new.buf in
    let said = c.take.ensures.memory (line_stopped _ _ _ _ c.in_err-take.was c.from_residual-in_err-take.ensures.1 e) in
    let taken = Takes-chunk _ _ _ _ _ i.bytes i.took c.args.limit c.in-Ok.count c.min-within.result c.read.new.buf (omega (arith, i.count)) (omega (arith, i.count)) r.bound.1 r.bytes.0 r.counted in
    Ran-first c.args.service _ _ g.O.Sink.held _ _ _ _ c.args.limit (i.bytes ++ seen) taken (WroteSome-behind c.args.service _ _ _ i.bytes i.written seen (rw i.stands at said))

pub returns-in_err-take-clause-front : goal.returns-in_err-take-clause-front
returns-in_err-take-clause-front g c =
    let i = c.reads.invariant.reading in
    let r = c.in-Ok.ensures in
    let seen = take c.min-within.result c.read.new.buf in
    let taken = Takes-chunk _ _ _ _ _ i.bytes i.took c.args.limit c.in-Ok.count c.min-within.result c.read.new.buf (omega (arith, i.count)) (omega (arith, i.count)) r.bound.1 r.bytes.0 r.counted in
    RanFront-within c.args.service _ _ g.O.Sink.held _ _ _ _ c.args.limit (i.bytes ++ seen) taken
    (line_stop_cases _ _ c.in_err-take.was
    (λ e. WritesFront-behind c.args.service _ _ _ i.bytes i.written seen (rw i.stands at (c.take.ensures.sink e).1))
    (λ e. WroteSome-front _ _ (i.bytes ++ seen) (WroteSome-behind c.args.service _ _ _ i.bytes i.written seen (rw i.stands at c.take.ensures.memory e))))

pub returns-then-within-count-clause-past_limit : goal.returns-then-within-count-clause-past_limit
returns-then-within-count-clause-past_limit g c e =
    let i = c.reads.invariant.reading in
    let r = c.in-Ok.ensures in
    let seen = take c.min-within.result c.read.new.buf in
    let taken = Takes-chunk _ _ _ _ _ i.bytes i.took c.args.limit c.in-Ok.count c.min-within.result c.read.new.buf (omega (arith, i.count)) (omega (arith, i.count)) r.bound.1 r.bytes.0 r.counted in (
      omega (arith, i.took.counted, i.count, r.counted, c.read.auto.buf, length-take c.min-room.result c.reads.buffer),
      Ran-within c.args.service _ _ g.O.Sink.held _ _ _ _ c.args.limit (i.bytes ++ seen) taken (Appends-behind c.args.service _ _ _ i.bytes i.written seen (rw i.stands at c.in_ok-take.ensures.text)),
    )

pub returns-then-within-count-clause-front : goal.returns-then-within-count-clause-front
returns-then-within-count-clause-front g c =
    let i = c.reads.invariant.reading in
    let r = c.in-Ok.ensures in
    let seen = take c.min-within.result c.read.new.buf in
    let taken = Takes-chunk _ _ _ _ _ i.bytes i.took c.args.limit c.in-Ok.count c.min-within.result c.read.new.buf (omega (arith, i.count)) (omega (arith, i.count)) r.bound.1 r.bytes.0 r.counted in
    RanFront-within c.args.service _ _ g.O.Sink.held _ _ _ _ c.args.limit (i.bytes ++ seen) taken
    (WritesFront-all _ _ _ (Appends-behind c.args.service _ _ _ i.bytes i.written seen (rw i.stands at c.in_ok-take.ensures.text)))

pub reads-preserved : goal.reads-preserved
reads-preserved g c =
    let i = c.reads.invariant.reading in
    let r = c.in-Ok.ensures in
    let done = c.in_ok-take.ensures in
    let buffer = c.read.new.buf in
    let seen = take c.min-within.result buffer in
    let all : c.min-within.result ≡ c.in-Ok.count = omega arith in
    let count : length seen ≡ c.in-Ok.count = rw all (sym r.bound.1) in record {
      reading = record {
        bytes = i.bytes ++ seen;
        took = Takes-more _ _ _ _ _ i.bytes i.took seen (rw all r.bytes.0) (omega (arith, r.counted));
        count = omega (arith, i.count, length-append i.bytes seen);
        written = Appends-behind c.args.service _ _ _ i.bytes i.written seen (rw i.stands at done.text);
        stands = done.progress ∙ ap (λ (p : Progress). progress_after p seen) i.stands ∙ sym (progress_after-append (start c.args.service) i.bytes seen);
      };
      within = omega (arith, c.reads.invariant.within);
      source = omega (arith, c.reads.invariant.source, c.read.ensures.cause.later);
      sink = omega (arith, c.reads.invariant.sink, done.later);
    }
