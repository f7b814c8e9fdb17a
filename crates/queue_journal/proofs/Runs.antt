-- Runs of a disk's calls, each of which a crash may meet.
use Rattle.std.proofs.Common.{◌≡◌, ◌⊎◌, inl, inr, ℕ, List, Option, Some, refl, ◌∙◌, subst, IfSome}
use Rattle.fault_causes.specs.Crash.{Only, Follows, Elapses, LeavesOnly}
use Rattle.fault_causes.proofs.Moments.{started, stepped, joined, weakened}
use Rattle.gate_outside.specs.Disk.{IsTorn, IsCutOrWhole}
use Rattle.queue_journal.specs.Steps.{After, IsQuiet}

pub whole_torn : (at n : ℕ) (c : List ℕ) → IsTorn at n c c
whole_torn at n c = record { before = refl; after = refl; size = inl refl }

pub whole_cut : (len : ℕ) (c : List ℕ) → IsCutOrWhole len c c
whole_cut len c = inl refl

pub if_some : {A : Type 0} (told : Option A) (x : A) (P : A → Type 0) → told ≡ Some x → IfSome told P → P x
if_some told x P is h = subst (λ o. IfSome o P) is h

module _ {D : Type 0} (may_leave : D → List ℕ → Type 0) (moment : D → ℕ) (left_since : D → ℕ → List ℕ → Type 0)
    (only_now : (disk : D) (c : List ℕ) → left_since disk (moment disk) c → may_leave disk c) where
  -- a call of which a crash may leave no more than before it
  pub quiet_call : (old new : D) → Elapses (moment old) (moment new) (left_since old) (left_since new) (may_leave new) → ((c : List ℕ) → may_leave new c → may_leave old c)
      → LeavesOnly moment left_since old new (may_leave old)
  quiet_call old new time crash = stepped moment left_since old new (may_leave old) (may_leave new) (only_now old) time crash

  -- a call that a crash may cut short
  pub torn_call : (step : List ℕ → List ℕ → Type 0) → ((c : List ℕ) → step c c) → (old new : D) → Elapses (moment old) (moment new) (left_since old) (left_since new) (may_leave new)
      → Follows step (may_leave old) (may_leave new) → LeavesOnly moment left_since old new (After step (may_leave old))
  torn_call step whole old new time follows = stepped moment left_since old new (After step (may_leave old)) (may_leave new) (λ c left. (c, only_now old c left, whole c)) time follows

  -- and a sync after it
  pub then_quiet : (step : List ℕ → List ℕ → Type 0) → ((c : List ℕ) → step c c) → (old mid new : D) → Elapses (moment old) (moment mid) (left_since old) (left_since mid) (may_leave mid)
      → Follows step (may_leave old) (may_leave mid) → Elapses (moment mid) (moment new) (left_since mid) (left_since new) (may_leave new) → ((c : List ℕ) → may_leave new c → may_leave mid c)
      → LeavesOnly moment left_since old new (After step (may_leave old))
  then_quiet step whole old mid new time follows time' crash =
      joined moment left_since old mid new (After step (may_leave old)) (may_leave mid) (After step (may_leave old))
      (torn_call step whole old mid time follows) (quiet_call mid new time' crash) (λ c h. h) follows

  pub after_only : (step : List ℕ → List ℕ → Type 0) (outcomes : List ℕ → Type 0) (file c : List ℕ) → Only file outcomes → After step outcomes c → step file c
  after_only step outcomes file c only after = subst (λ d. step d c) (only after.0 after.1) after.2

  -- two steps, of which the second begins with one file alone
  pub first_of_two : (step second : List ℕ → List ℕ → Type 0) (old mid : D) (file later : List ℕ) → LeavesOnly moment left_since old mid (After step (may_leave old)) → Only file (may_leave old)
      → LeavesOnly moment left_since old mid (λ c. step file c ⊎ second later c)
  first_of_two step second old mid file later run only =
      weakened moment left_since old mid (After step (may_leave old)) (λ c. step file c ⊎ second later c) run (λ c after. inl (after_only step (may_leave old) file c only after))

  pub both_of_two : (step second : List ℕ → List ℕ → Type 0) (old mid new : D) (file later : List ℕ) → LeavesOnly moment left_since old mid (After step (may_leave old)) → Only file (may_leave old)
      → LeavesOnly moment left_since mid new (After second (may_leave mid)) → Only later (may_leave mid)
      → LeavesOnly moment left_since old new (λ c. step file c ⊎ second later c)
  both_of_two step second old mid new file later run only run' only' =
      joined moment left_since old mid new (After step (may_leave old)) (After second (may_leave mid)) (λ c. step file c ⊎ second later c) run run'
      (λ c after. inl (after_only step (may_leave old) file c only after)) (λ c after. inr (after_only second (may_leave mid) later c only' after))

module _ {D : Type 0} (reads : D → Option (List ℕ)) (kept : D → ℕ) (may_leave : D → List ℕ → Type 0) (moment : D → ℕ) (left_since : D → ℕ → List ℕ → Type 0)
    (only_now : (disk : D) (c : List ℕ) → left_since disk (moment disk) c → may_leave disk c) where
  abbrev pub Quiet : D → D → Type 0
  Quiet old new = IsQuiet reads kept may_leave moment left_since old new

  pub quiet_start : (disk : D) → Quiet disk disk
  quiet_start disk = record { file = refl; size = refl; crash = λ c h. h; time = started moment left_since disk (may_leave disk) (only_now disk) }

  pub quiet_one : (old new : D) → reads new ≡ reads old → kept new ≡ kept old → ((c : List ℕ) → may_leave new c → may_leave old c)
      → Elapses (moment old) (moment new) (left_since old) (left_since new) (may_leave new) → Quiet old new
  quiet_one old new file size crash time = record { file = file; size = size; crash = crash; time = quiet_call may_leave moment left_since only_now old new time crash }

  pub quiet_then : (old mid new : D) → Quiet old mid → Quiet mid new → Quiet old new
  quiet_then old mid new one two = record {
    file = two.file ∙ one.file;
    size = two.size ∙ one.size;
    crash = λ c h. one.crash c (two.crash c h);
    time = joined moment left_since old mid new (may_leave old) (may_leave mid) (may_leave old) one.time two.time (λ c h. h) one.crash;
  }
