-- How a run of calls goes on, each of which a crash may meet.
use Rattle.std.proofs.Common.{inl, inr, ⊎_elim, ℕ, arith}
use Rattle.fault_causes.specs.Crash.{Elapses, LeavesOnly}

module _ {S C : Type 0} (moment : S → ℕ) (left_since : S → ℕ → C → Type 0) where
  -- before the first call
  pub started : (old : S) (P : C → Type 0) → ((c : C) → left_since old (moment old) c → P c) → LeavesOnly moment left_since old old P
  started old P here = record { later = omega arith; each = here; before = λ t c le left. inl left; keeps = λ t c le left. left }

  -- one call, before and after which a crash leaves what has P
  pub stepped : (old new : S) (P may_leave : C → Type 0) → ((c : C) → left_since old (moment old) c → P c)
      → Elapses (moment old) (moment new) (left_since old) (left_since new) may_leave → ((c : C) → may_leave c → P c) → LeavesOnly moment left_since old new P
  stepped old new P may_leave was time here = record {
    later = time.later;
    each = λ c left. ⊎_elim (was c) (here c) (time.nothing_else (moment old) c (omega arith) left);
    before = λ t c le left. ⊎_elim (λ past. inl past) (λ now. inr (here c now)) (time.nothing_else t c le left);
    keeps = time.keeps;
  }

  -- one run after another
  pub joined : (old mid new : S) (P Q R : C → Type 0) → LeavesOnly moment left_since old mid P → LeavesOnly moment left_since mid new Q
      → ((c : C) → P c → R c) → ((c : C) → Q c → R c) → LeavesOnly moment left_since old new R
  joined old mid new P Q R first second from from' = record {
    later = omega (arith, first.later, second.later);
    each = λ c left. ⊎_elim (λ past. from c (first.each c past)) (from' c) (second.before (moment old) c first.later left);
    before = λ t c le left. ⊎_elim (λ past. ⊎_elim (λ past'. inl past') (λ p. inr (from c p)) (first.before t c le past)) (λ q. inr (from' c q)) (second.before t c (omega (arith, le, first.later)) left);
    keeps = λ t c le left. second.keeps t c (omega (arith, le, first.later)) (first.keeps t c le left);
  }

  -- and of what has P each has Q
  pub weakened : (old new : S) (P Q : C → Type 0) → LeavesOnly moment left_since old new P → ((c : C) → P c → Q c) → LeavesOnly moment left_since old new Q
  weakened old new P Q run from = record {
    later = run.later;
    each = λ c left. from c (run.each c left);
    before = λ t c le left. ⊎_elim (λ past. inl past) (λ p. inr (from c p)) (run.before t c le left);
    keeps = run.keeps;
  }
