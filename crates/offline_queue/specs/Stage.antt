-- A put of the queue's stage, and what an answer comes up as.
use Rattle.std.specs.Prelude.{◌≡◌, ℕ, List, [], ◌∷◌, map, Option, Some, None, Result, Err, OnOk, if◌then◌else◌}
use Rattle.std.specs.FinMap as finite
use Rattle.fault_causes.specs.Causes.{HasCauseOf}
use Rattle.fault_causes.specs.Crash.{LeavesOnly}
use Rattle.queue_model.specs.Queue.{MutationQueue, need_of, queued}
use Rattle.stream_core.specs.declared.flow.Flow.{Flow}
use Rattle.stream_core.specs.declared.flow.Flow.TheVariants.{Up}
use Rattle.offline_queue.specs.declared.keeper.PutError.{PutError}
use Rattle.offline_queue.specs.declared.keeper.PutError.TheVariants as put_error
use Rattle.offline_queue.specs.declared.offer.Offer.{Offer}
use Rattle.offline_queue.specs.declared.offer.Kept.{Kept}
use Rattle.offline_queue.specs.Keeper.{AnswersPut, IsRefusal, HasRowsBeforeOrAfter}
use Rattle.offline_queue.specs.Offers.{Offered, RowTexts, fetch_of, told, texts_to_keep}

-- a put of these texts into a keeper answered so: all that the keeper's contract says of it
pub record PutInto {K : Type 0} (queue : K → MutationQueue) (intact : K → Type 0) (faults : K → ℕ) (tells : K → Type 0) (moment : K → ℕ) (left_since : K → ℕ → List ℕ → Type 0) (old new : K) (texts : RowTexts) (answer : Result ℕ PutError) : Type 0 where
  pub answers : AnswersPut (queue old) (need_of texts.0 texts.1 texts.2) answer
  pub queues : OnOk answer (queue new ≡ queued (queue old) texts.0 texts.1 texts.2)
  pub stays_intact : OnOk answer (intact new)
  pub refused : IsRefusal answer → new ≡ old
  pub still_tells : tells old → tells new
  pub crash : tells old → LeavesOnly moment left_since old new (HasRowsBeforeOrAfter (queue old).rows (queued (queue old) texts.0 texts.1 texts.2).rows)
  pub cause : HasCauseOf put_error.Failed (faults old) (faults new) answer

-- what comes up for an answer with these texts to keep
abbrev pub ComesUp : {K C : Type 0} → (K → K → RowTexts → Result ℕ PutError → Type 0) → K → Offered → Kept → K → Option RowTexts → List (Flow Offer Kept C) → Type 0
ComesUp puts keeper before res keeper' None given = (keeper' ≡ keeper) × (given ≡ map Up (if finite.contains_key before (fetch_of res) then res ∷ [] else []))
ComesUp puts keeper before res keeper' (Some texts) given = (answer : Result ℕ PutError) × puts keeper keeper' texts answer × (answer ≡ Err put_error.Memory → ⊥) × (given ≡ Up (told (fetch_of res) answer) ∷ [])

-- what comes up for an answer: where it has texts to keep, what the put of them told, and else itself where its fetch is down; the fetch isn't down any more
abbrev pub Answers : {K C : Type 0} → (K → K → RowTexts → Result ℕ PutError → Type 0) → K → Offered → Kept → K → Offered → List (Flow Offer Kept C) → Type 0
Answers puts keeper before res keeper' after given = (after ≡ finite.remove before (fetch_of res)) × ComesUp puts keeper before res keeper' (texts_to_keep before res) given
