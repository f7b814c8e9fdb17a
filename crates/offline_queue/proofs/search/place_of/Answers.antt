use Rattle.std.proofs.Common.{rules}
use Rattle.std.proofs.lemmas.List.Sorted.{answers_always}
use Rattle.queue_model.proofs.Rises.{searched, without_at}
use Rattle.offline_queue.proofs.search.place_of.Goals as goal

pub unreachable-requires : goal.unreachable-requires
unreachable-requires c =
    let facts = c.binary_search_by_key.ensures in
    let by_key = facts.position (λ row. row.seq) (answers_always _ _ _ (λ f a r g called. search rules)) in
    let found = searched c.args.rows.now c.requires.rising c.args.seq c.binary_search_by_key.result facts.bound by_key in
    (rw c.in-Err.is at found) c.requires.held

pub returns-clause-number : goal.returns-clause-number
returns-clause-number c =
    let facts = c.binary_search_by_key.ensures in
    let by_key = facts.position (λ row. row.seq) (answers_always _ _ _ (λ f a r g called. search rules)) in
    let found = searched c.args.rows.now c.requires.rising c.args.seq c.binary_search_by_key.result facts.bound by_key in
    (rw c.in-Ok.is at found).1

pub returns-clause-rest : goal.returns-clause-rest
returns-clause-rest c =
    let facts = c.binary_search_by_key.ensures in
    let by_key = facts.position (λ row. row.seq) (answers_always _ _ _ (λ f a r g called. search rules)) in
    let found = searched c.args.rows.now c.requires.rising c.args.seq c.binary_search_by_key.result facts.bound by_key in
    let here = rw c.in-Ok.is at found in
    without_at 0 c.requires.rising.0 c.args.seq c.args.rows.now c.in-Ok.place c.requires.rising.1 here.0 here.1
