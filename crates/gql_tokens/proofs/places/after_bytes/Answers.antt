use Rattle.std.proofs.Common.{◌∙◌, subst, arith}
use Rattle.gql_tokens.specs.Readings.{HasRoom}
use Rattle.gql_tokens.proofs.PlaceLaws.{place_turn, rest_turn, behind_room}
use Rattle.gql_tokens.proofs.places.after_bytes.Goals as goal

pub bytes-preserved : goal.bytes-preserved
bytes-preserved c =
    let b = c.in-Some.byte.now in
    let more = c.in-Some.more.now in
    record {
      value = rw c.place_behind-place.ensures (place_turn c.args.len c.bytes.counter c.bytes.place c.bytes.rest.now b more (omega arith) c.in-Some.ensures.cases.0 ∙ c.bytes.invariant.value);
      rest = rest_turn c.bytes.counter c.args.text.now c.bytes.rest.now b more c.bytes.invariant.rest c.in-Some.ensures.cases.0;
      room = rw c.place_behind-place.ensures (behind_room c.bytes.place b more (subst (λ rest. HasRoom c.bytes.place rest) c.in-Some.ensures.cases.0 c.bytes.invariant.room));
    }
