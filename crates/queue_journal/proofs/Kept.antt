-- From what a crash leaves of a disk to what it leaves of a journal.
use Rattle.std.proofs.Common.{◌≡◌, inl, inr, ⊎_elim, ℕ, List, Option, Some, None, refl, ◌∙◌, ap, option_map, is_some, true, false, Result, Ok, Err, OnOk}
use Rattle.fault_causes.specs.Crash.{LeavesOnly}
use Rattle.fault_causes.proofs.Moments.{started}
use Rattle.queue_model.specs.QueueFile.{RowsOfFile}
use Rattle.queue_journal.specs.Journal.{OpenJournal, IsSettled}
use Rattle.queue_journal.specs.Told.{leaves_held}

pub map_some : {A B : Type 0} (f : A → B) (o : Option A) (y : B) → option_map f o ≡ Some y → (x : A) × (o ≡ Some x) × (y ≡ f x)
map_some f None y is = cc
map_some f (Some x) y is = (x, refl, cc)

module _ {D : Type 0} (reads : D → Option (List ℕ)) (kept : D → ℕ) (may_leave : D → List ℕ → Type 0) (moment : D → ℕ) (left_since : D → ℕ → List ℕ → Type 0)
    (only_now : (disk : D) (c : List ℕ) → left_since disk (moment disk) c → may_leave disk c) where
  abbrev pub Leaves : OpenJournal D → OpenJournal D → (List ℕ → Type 0) → Type 0
  Leaves old new Q = LeavesOnly (λ (j : OpenJournal D). moment j.disk) (λ (j : OpenJournal D). left_since j.disk) old new Q

  -- nothing was called
  pub stays : (old : OpenJournal D) (Q : List ℕ → Type 0) → IsSettled reads kept may_leave old → ((file : List ℕ) × (reads old.disk ≡ Some file))
      → ((c : List ℕ) → RowsOfFile c old.queue.rows → Q c) → Leaves old old Q
  stays old Q settled tells from =
      started (λ (j : OpenJournal D). moment j.disk) (λ (j : OpenJournal D). left_since j.disk) old Q (λ c left. from c (leaves_held reads kept may_leave moment left_since only_now old settled tells c left))

  -- the files that the disk might leave
  pub lifted : (old new : OpenJournal D) (P Q : List ℕ → Type 0) → LeavesOnly moment left_since old.disk new.disk P → ((c : List ℕ) → P c → Q c) → Leaves old new Q
  lifted old new P Q run from = record {
    later = run.later;
    each = λ c left. from c (run.each c left);
    before = λ t c le left. ⊎_elim (λ past. inl past) (λ p. inr (from c p)) (run.before t c le left);
    keeps = run.keeps;
  }

-- what tells goes on telling
pub still_told : {A : Type 0} (o o' : Option A) → is_some o' ≡ is_some o → ((x : A) × (o ≡ Some x)) → (x : A) × (o' ≡ Some x)
still_told o None same tells = absurd (let none : false ≡ true = same ∙ ap is_some tells.1 in cc)
still_told o (Some x) same tells = (x, refl)

-- three facts of a success make one
pub on_ok_three : {T E : Type 0} (r : Result T E) (A B C G : Type 0) → OnOk r A → OnOk r B → OnOk r C → (A → B → C → G) → OnOk r G
on_ok_three (Ok x) A B C G a b c from = from a b c
on_ok_three (Err e) A B C G a b c from = tt
