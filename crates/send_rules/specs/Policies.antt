-- The request policies as a table.
use Rattle.send_rules.specs.declared.policy.Policy.{Policy}
use Rattle.send_rules.specs.declared.policy.Policy.TheVariants.{CacheFirst, CacheOnly, NetworkOnly, CacheAndNetwork}
use Rattle.send_rules.specs.declared.policy.ReadingKind.{ReadingKind}
use Rattle.send_rules.specs.declared.policy.ReadingKind.TheVariants.{Hit, Partial, Miss}
use Rattle.send_rules.specs.declared.policy.Plan.{Plan}
use Rattle.std.specs.Prelude.{true, false}

-- the listener is told the reading, and nothing is sent
abbrev pub told : Plan
told = record { tell = true; send = false }

-- a fetch is sent, and the listener waits for its answer
abbrev pub sent : Plan
sent = record { tell = false; send = true }

-- the listener is told the reading, and a fetch is sent
abbrev pub told_and_sent : Plan
told_and_sent = record { tell = true; send = true }

-- the policy table: cache-first sends where the cache lacks something; cache-only always tells and never sends; network-only sends whatever the cache has; cache-and-network tells what it can and always sends (urql's request policies, and its partial results)
abbrev pub plan_of : Policy → ReadingKind → Plan
plan_of CacheFirst Hit = told
plan_of CacheFirst Partial = told_and_sent
plan_of CacheFirst Miss = sent
plan_of CacheOnly Hit = told
plan_of CacheOnly Partial = told
plan_of CacheOnly Miss = told
plan_of NetworkOnly Hit = sent
plan_of NetworkOnly Partial = sent
plan_of NetworkOnly Miss = sent
plan_of CacheAndNetwork Hit = told_and_sent
plan_of CacheAndNetwork Partial = told_and_sent
plan_of CacheAndNetwork Miss = sent
