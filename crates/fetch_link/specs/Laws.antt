-- What all bytes so far come to, or ask, is told once and for all.
use Rattle.std.specs.Prelude.{◌≡◌, ◌≢◌, ℕ, List, ◌++◌}
use Rattle.gql_value.specs.Outcome.{Meaning}
use Rattle.http_model.specs.Message.{Progress, wants, Decoded, Closed}
use Rattle.http_model.specs.Requests.{Asking, wants_more, Asks}

-- the same bytes come to one thing alone
abbrev pub IsDecodedOnce : Type 0
IsDecodedOnce = (bytes : List ℕ) (one other : Progress) → Decoded bytes one → Decoded bytes other → one ≡ other

-- the same where the connection is closed behind them
abbrev pub IsClosedOnce : Type 0
IsClosedOnce = (bytes : List ℕ) (one other : Meaning) → Closed bytes one → Closed bytes other → one ≡ other

-- an outcome stays under further bytes. So the first outcome of bytes that come in pieces is the one that all bytes come
-- to, however they were cut.
abbrev pub IsDecodedForGood : Type 0
IsDecodedForGood = (bytes more : List ℕ) (progress : Progress) → progress ≢ wants → Decoded bytes progress → Decoded (bytes ++ more) progress

-- the same for a request
abbrev pub IsAskedOnce : Type 0
IsAskedOnce = (bytes : List ℕ) (one other : Asking) → Asks bytes one → Asks bytes other → one ≡ other

-- what is asked, once no more bytes are wanted for it, stays under further bytes
abbrev pub IsAskedForGood : Type 0
IsAskedForGood = (bytes more : List ℕ) (asked : Asking) → asked ≢ wants_more → Asks bytes asked → Asks (bytes ++ more) asked
