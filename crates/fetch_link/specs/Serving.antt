-- What a request answers of all the bytes so far.
use Rattle.std.specs.Prelude.{ℕ, List}
use Rattle.http_model.specs.Requests.{Asks, wants_more, asks, refuses}
use Rattle.fetch_link.specs.Hearing.{Hears}
use Rattle.fetch_link.specs.declared.serving.Request.{Request}
use Rattle.fetch_link.specs.declared.serving.Asked.{Asked}
use Rattle.fetch_link.specs.declared.serving.Asked.TheVariants.{Wants, Whole, Bad}

-- these are all the bytes so far of this request, and they want more
abbrev pub HasHeard : Request → List ℕ → Type 0
HasHeard request seen = Hears request.heard seen

-- all the bytes so far want more, or ask this, or are refused with this status
abbrev pub AskedGives : Asked → Request → List ℕ → Type 0
AskedGives Wants request seen = HasHeard request seen × Asks seen wants_more
AskedGives (Whole method path body) request seen = Asks seen (asks method path body)
AskedGives (Bad status) request seen = Asks seen (refuses status)
