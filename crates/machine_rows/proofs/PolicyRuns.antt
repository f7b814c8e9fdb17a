-- Runs under each policy.
use Rattle.std.proofs.Common.{true, false, [], ◌∷◌, codes, refl}
use Rattle.send_rules.specs.declared.policy.Policy.TheVariants.{CacheFirst, CacheOnly, NetworkOnly, CacheAndNetwork}
use Rattle.machine_model.specs.State.{first_state}
use Rattle.machine_rows.specs.Values.{null}
use Rattle.machine_rows.specs.Operations.{document_of, me_id, me_id_nick, todos_id}
use Rattle.machine_rows.specs.Dialogs.{gives, no_rows, dispatch_under, reply, told, fetch}
use Rattle.machine_rows.specs.Meanings.{no_rules}
use Rattle.machine_rows.specs.Queries as run
use Rattle.machine_rows.specs.Queries.{then_asked}
use Rattle.machine_rows.proofs.States.{answered_once}
use Rattle.machine_rows.proofs.FirstRun.{answered_first}
use Rattle.machine_rows.proofs.Readings.{nowhere, to_one}
use Rattle.machine_rows.proofs.Views.{saw}
use Rattle.machine_rows.proofs.Dialogs.{Rest, ends, gave, asks, asks_at}

last_cache_first_hit : Rest no_rules 3 (gives (dispatch_under CacheFirst 2 (document_of me_id)) (reply 2 run.whole ∷ []) ∷ []) no_rows answered_once
last_cache_first_hit = asks_at (to_one (codes "User:7")) (saw (to_one (codes "User:7")) false false ∷ saw (to_one (codes "User:7")) false false ∷ []) _ refl refl ((refl, refl), ((refl, refl), tt)) (gave refl refl (ends refl))

pub cache_first_hit : Rest no_rules 1 (then_asked CacheFirst (document_of me_id) (reply 2 run.whole ∷ [])) no_rows (first_state no_rows)
cache_first_hit = answered_first last_cache_first_hit

last_cache_first_partial : Rest no_rules 3 (gives (dispatch_under CacheFirst 2 (document_of me_id_nick)) (told 2 run.part true true ∷ fetch 2 me_id_nick ∷ []) ∷ []) no_rows answered_once
last_cache_first_partial = asks_at (to_one (codes "User:7")) (saw (to_one (codes "User:7")) false false ∷ saw (to_one (codes "User:7")) false true ∷ []) _ refl refl ((refl, refl), ((refl, refl), tt)) (gave refl refl (ends refl))

pub cache_first_partial : Rest no_rules 1 (then_asked CacheFirst (document_of me_id_nick) (told 2 run.part true true ∷ fetch 2 me_id_nick ∷ [])) no_rows (first_state no_rows)
cache_first_partial = answered_first last_cache_first_partial

last_cache_first_miss : Rest no_rules 3 (gives (dispatch_under CacheFirst 2 (document_of todos_id)) (fetch 2 todos_id ∷ []) ∷ []) no_rows answered_once
last_cache_first_miss = asks (saw (to_one (codes "User:7")) false false ∷ saw nowhere false true ∷ []) _ refl ((refl, refl), ((tt, refl), tt)) (gave refl refl (ends refl))

pub cache_first_miss : Rest no_rules 1 (then_asked CacheFirst (document_of todos_id) (fetch 2 todos_id ∷ [])) no_rows (first_state no_rows)
cache_first_miss = answered_first last_cache_first_miss

last_cache_only_hit : Rest no_rules 3 (gives (dispatch_under CacheOnly 2 (document_of me_id)) (reply 2 run.whole ∷ []) ∷ []) no_rows answered_once
last_cache_only_hit = asks_at (to_one (codes "User:7")) (saw (to_one (codes "User:7")) false false ∷ saw (to_one (codes "User:7")) false false ∷ []) _ refl refl ((refl, refl), ((refl, refl), tt)) (gave refl refl (ends refl))

pub cache_only_hit : Rest no_rules 1 (then_asked CacheOnly (document_of me_id) (reply 2 run.whole ∷ [])) no_rows (first_state no_rows)
cache_only_hit = answered_first last_cache_only_hit

last_cache_only_partial : Rest no_rules 3 (gives (dispatch_under CacheOnly 2 (document_of me_id_nick)) (told 2 run.part true false ∷ []) ∷ []) no_rows answered_once
last_cache_only_partial = asks_at (to_one (codes "User:7")) (saw (to_one (codes "User:7")) false false ∷ saw (to_one (codes "User:7")) false false ∷ []) _ refl refl ((refl, refl), ((refl, refl), tt)) (gave refl refl (ends refl))

pub cache_only_partial : Rest no_rules 1 (then_asked CacheOnly (document_of me_id_nick) (told 2 run.part true false ∷ [])) no_rows (first_state no_rows)
cache_only_partial = answered_first last_cache_only_partial

last_cache_only_miss : Rest no_rules 3 (gives (dispatch_under CacheOnly 2 (document_of todos_id)) (reply 2 null ∷ []) ∷ []) no_rows answered_once
last_cache_only_miss = asks (saw (to_one (codes "User:7")) false false ∷ saw nowhere false false ∷ []) _ refl ((refl, refl), ((tt, refl), tt)) (gave refl refl (ends refl))

pub cache_only_miss : Rest no_rules 1 (then_asked CacheOnly (document_of todos_id) (reply 2 null ∷ [])) no_rows (first_state no_rows)
cache_only_miss = answered_first last_cache_only_miss

last_network_only_hit : Rest no_rules 3 (gives (dispatch_under NetworkOnly 2 (document_of me_id)) (fetch 2 me_id ∷ []) ∷ []) no_rows answered_once
last_network_only_hit = asks (saw (to_one (codes "User:7")) false false ∷ saw (to_one (codes "User:7")) false true ∷ []) _ refl ((refl, refl), ((refl, refl), tt)) (gave refl refl (ends refl))

pub network_only_hit : Rest no_rules 1 (then_asked NetworkOnly (document_of me_id) (fetch 2 me_id ∷ [])) no_rows (first_state no_rows)
network_only_hit = answered_first last_network_only_hit

last_network_only_partial : Rest no_rules 3 (gives (dispatch_under NetworkOnly 2 (document_of me_id_nick)) (fetch 2 me_id_nick ∷ []) ∷ []) no_rows answered_once
last_network_only_partial = asks (saw (to_one (codes "User:7")) false false ∷ saw (to_one (codes "User:7")) false true ∷ []) _ refl ((refl, refl), ((refl, refl), tt)) (gave refl refl (ends refl))

pub network_only_partial : Rest no_rules 1 (then_asked NetworkOnly (document_of me_id_nick) (fetch 2 me_id_nick ∷ [])) no_rows (first_state no_rows)
network_only_partial = answered_first last_network_only_partial

last_network_only_miss : Rest no_rules 3 (gives (dispatch_under NetworkOnly 2 (document_of todos_id)) (fetch 2 todos_id ∷ []) ∷ []) no_rows answered_once
last_network_only_miss = asks (saw (to_one (codes "User:7")) false false ∷ saw nowhere false true ∷ []) _ refl ((refl, refl), ((tt, refl), tt)) (gave refl refl (ends refl))

pub network_only_miss : Rest no_rules 1 (then_asked NetworkOnly (document_of todos_id) (fetch 2 todos_id ∷ [])) no_rows (first_state no_rows)
network_only_miss = answered_first last_network_only_miss

last_cache_and_network_hit : Rest no_rules 3 (gives (dispatch_under CacheAndNetwork 2 (document_of me_id)) (told 2 run.whole false true ∷ fetch 2 me_id ∷ []) ∷ []) no_rows answered_once
last_cache_and_network_hit = asks_at (to_one (codes "User:7")) (saw (to_one (codes "User:7")) false false ∷ saw (to_one (codes "User:7")) false true ∷ []) _ refl refl ((refl, refl), ((refl, refl), tt)) (gave refl refl (ends refl))

pub cache_and_network_hit : Rest no_rules 1 (then_asked CacheAndNetwork (document_of me_id) (told 2 run.whole false true ∷ fetch 2 me_id ∷ [])) no_rows (first_state no_rows)
cache_and_network_hit = answered_first last_cache_and_network_hit

last_cache_and_network_partial : Rest no_rules 3 (gives (dispatch_under CacheAndNetwork 2 (document_of me_id_nick)) (told 2 run.part true true ∷ fetch 2 me_id_nick ∷ []) ∷ []) no_rows answered_once
last_cache_and_network_partial = asks_at (to_one (codes "User:7")) (saw (to_one (codes "User:7")) false false ∷ saw (to_one (codes "User:7")) false true ∷ []) _ refl refl ((refl, refl), ((refl, refl), tt)) (gave refl refl (ends refl))

pub cache_and_network_partial : Rest no_rules 1 (then_asked CacheAndNetwork (document_of me_id_nick) (told 2 run.part true true ∷ fetch 2 me_id_nick ∷ [])) no_rows (first_state no_rows)
cache_and_network_partial = answered_first last_cache_and_network_partial

last_cache_and_network_miss : Rest no_rules 3 (gives (dispatch_under CacheAndNetwork 2 (document_of todos_id)) (fetch 2 todos_id ∷ []) ∷ []) no_rows answered_once
last_cache_and_network_miss = asks (saw (to_one (codes "User:7")) false false ∷ saw nowhere false true ∷ []) _ refl ((refl, refl), ((tt, refl), tt)) (gave refl refl (ends refl))

pub cache_and_network_miss : Rest no_rules 1 (then_asked CacheAndNetwork (document_of todos_id) (fetch 2 todos_id ∷ [])) no_rows (first_state no_rows)
cache_and_network_miss = answered_first last_cache_and_network_miss
