use Rattle.std.proofs.Common.{◌≡◌, ◌-◌, drop}
use Rattle.gql_tokens.specs.Places.{place_after}
use Rattle.gql_tokens.specs.Readings.{HasRoom}
use Rattle.gql_tokens.proofs.places.after_bytes.Given as goal

abbrev pub invariant-bytes : goal.invariant-bytes
invariant-bytes l = record {
  value : place_after (l.len - l.counter) l.place l.rest ≡ place_after l.len l.fn.start l.text;
  rest : l.rest ≡ drop l.counter l.text;
  room : HasRoom l.place l.rest;
}
