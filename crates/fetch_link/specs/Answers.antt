-- What a fetch answers of all the bytes so far.
use Rattle.std.specs.Prelude.{ℕ, List}
use Rattle.gql_value.specs.Outcome.{meaning_of}
use Rattle.http_model.specs.Message.{wants, done, Decoded}
use Rattle.fetch_link.specs.Fetching.{Stands}
use Rattle.fetch_link.specs.declared.response.Fetch.{Fetch}
use Rattle.fetch_link.specs.declared.response.Progress.{Progress}
use Rattle.fetch_link.specs.declared.response.Progress.TheVariants.{Wants, Done}

-- these are all the bytes so far of the response to this fetch, and they come to no outcome yet
abbrev pub HasTaken : Fetch → List ℕ → Type 0
HasTaken fetch seen = Stands fetch.state seen

-- all the bytes so far want more, or they come to this outcome
abbrev pub PollGives : Progress → Fetch → List ℕ → Type 0
PollGives Wants fetch seen = HasTaken fetch seen × Decoded seen wants
PollGives (Done outcome) fetch seen = Decoded seen (done (meaning_of outcome))
