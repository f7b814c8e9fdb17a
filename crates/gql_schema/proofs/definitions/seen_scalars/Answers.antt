use Rattle.std.proofs.Common.{[]}
use Rattle.gql_schema.proofs.definitions.seen_scalars.Goals as goal

pub returns : goal.returns
returns c =
    c.note_word-5.ensures _
    (c.in_ok-seen-4.ensures _
    (c.in_ok-seen-3.ensures _
    (c.in_ok-seen-2.ensures _ (c.in_ok-seen.ensures [] c.new.ensures))))
