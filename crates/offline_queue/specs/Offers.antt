-- What the queue's stage makes of mutations and their answers (urql's offlineExchange).
use Rattle.std.specs.Prelude.{◌≡◌, ℕ, true, false, List, [], ◌∷◌, map, Option, Some, None, IsSome, Result, Ok, Err, if◌then◌else◌}
use Rattle.std.specs.FinMap as finite
use Rattle.std.specs.Ordering.{nat_cmp}
use Rattle.stream_core.specs.declared.operation.Kind.{Kind}
use Rattle.stream_core.specs.declared.operation.Kind.TheVariants as kind
use Rattle.stream_core.specs.declared.flow.Flow.{Flow}
use Rattle.stream_core.specs.declared.flow.Flow.TheVariants.{Down}
use Rattle.offline_queue.specs.declared.keeper.PutError.{PutError}
use Rattle.offline_queue.specs.declared.offer.Offer.{Offer}
use Rattle.offline_queue.specs.declared.offer.Offer.TheVariants.{Mutation, Teardown}
use Rattle.offline_queue.specs.declared.offer.Kept.{Kept}
use Rattle.offline_queue.specs.declared.offer.Kept.TheVariants.{Answer, Queued, NotQueued}

-- an offer as an operation of a line: its id is the number of its fetch
abbrev pub kind_of : Offer → Kind
kind_of (Mutation fetch row) = kind.Mutation fetch
kind_of (Teardown fetch) = kind.Teardown fetch

-- the fetch that a result is of
abbrev pub fetch_of : Kept → ℕ
fetch_of (Answer fetch unreachable) = fetch
fetch_of (Queued fetch row) = fetch
fetch_of (NotQueued fetch error) = fetch

-- the texts of a row: the document, the operation's name and the variables
abbrev pub RowTexts : Type 0
RowTexts = List ℕ × List ℕ × List ℕ

-- the fetches that are down, each with its row's texts where it is to be kept
abbrev pub Offered : Type 0
Offered = finite.FinMap nat_cmp (Option RowTexts)

-- the fetch is down
abbrev pub IsDown : Offered → ℕ → Type 0
IsDown down fetch = IsSome (finite.get down fetch)

-- what goes down for an offer: a mutation goes down, and a teardown where its fetch is down
abbrev pub Operates : {C : Type 0} → Offered → Offer → Offered → List (Flow Offer Kept C) → Type 0
Operates before (Mutation fetch row) after given = (after ≡ finite.insert before fetch row) × (given ≡ Down (Mutation fetch row) ∷ [])
Operates before (Teardown fetch) after given = (after ≡ finite.remove before fetch) × (given ≡ map Down (if finite.contains_key before fetch then Teardown fetch ∷ [] else []))

-- what a put told of a fetch comes up as
abbrev pub told : ℕ → Result ℕ PutError → Kept
told fetch (Ok row) = Queued fetch row
told fetch (Err error) = NotQueued fetch error

-- the row's texts of a fetch that is down and has some
abbrev pub kept_texts : Option (Option RowTexts) → Option RowTexts
kept_texts None = None
kept_texts (Some row) = row

-- the texts that an answer has kept: those of its fetch, where the origin couldn't be reached
abbrev pub texts_to_keep : Offered → Kept → Option RowTexts
texts_to_keep down (Answer fetch true) = kept_texts (finite.get down fetch)
texts_to_keep down (Answer fetch false) = None
texts_to_keep down (Queued fetch row) = None
texts_to_keep down (NotQueued fetch error) = None
