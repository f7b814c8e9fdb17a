-- What is read of one member of a frame, and which member is the first of the wrong form.
use Rattle.std.specs.Prelude.{ℕ, Bool, true, false, ◌&&◌, nat_le, if◌then◌else◌, List, [], ◌∷◌, codes, bytes_eq, Option, Some, None, option_and_then}
use Rattle.serde_json.specs.Data.{Data, null, boolean, number, string, array, object}
use Rattle.serde_json.specs.Find.{as_str}
use Rattle.gql_value.specs.Members.{number_of}
use Rattle.send_rules.specs.declared.policy.Policy.{Policy}
use Rattle.send_rules.specs.declared.policy.Policy.TheVariants.{CacheFirst, CacheOnly, NetworkOnly, CacheAndNetwork}

-- a text or null
abbrev pub is_text_or_null : Data → Bool
is_text_or_null null = true
is_text_or_null (boolean b) = false
is_text_or_null (number n) = false
is_text_or_null (string s) = true
is_text_or_null (array ds) = false
is_text_or_null (object ms) = false

-- an object or null
abbrev pub is_object_or_null : Data → Bool
is_object_or_null null = true
is_object_or_null (boolean b) = false
is_object_or_null (number n) = false
is_object_or_null (string s) = false
is_object_or_null (array ds) = false
is_object_or_null (object ms) = true

-- a member that may be absent
abbrev pub absent_or : (Data → Bool) → Option Data → Bool
absent_or fits None = true
absent_or fits (Some value) = fits value

-- the policy of this name (urql, request policies)
abbrev pub policy_named : List ℕ → Option Policy
policy_named word =
    if bytes_eq word (codes "cache-first") then Some CacheFirst else (
    if bytes_eq word (codes "cache-only") then Some CacheOnly else (
    if bytes_eq word (codes "network-only") then Some NetworkOnly else (
    if bytes_eq word (codes "cache-and-network") then Some CacheAndNetwork else None)))

-- the policy that a frame asks for: cache-first where it names none
abbrev pub policy_of : Option Data → Option Policy
policy_of None = Some CacheFirst
policy_of (Some value) = option_and_then policy_named (as_str value)

-- a status of HTTP (RFC 9110, 15)
abbrev pub status_from : ℕ → Option ℕ
status_from n = if nat_le 100 n && nat_le n 999 then Some n else None

-- the status of a response: 200 where it names none
abbrev pub status_of : Option Data → Option ℕ
status_of None = Some 200
status_of (Some value) = option_and_then status_from (number_of value)

-- of members, each with whether it has its form, in the order in which they are tested, the first that hasn't
abbrev pub first_misfit : List (List ℕ × Bool) → Option (List ℕ)
first_misfit [] = None
first_misfit (member ∷ members) = if member.1 then first_misfit members else Some member.0
