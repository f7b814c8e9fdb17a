-- What follows a change tells nothing to an operation that isn't live, and lets none become live.
use Rattle.std.proofs.Common.{◌≡◌, ℕ, ◌==◌, ◌&&◌, Bool, true, false, not, if◌then◌else◌, List, [], ◌∷◌, Option, Some, None, refl}
use Rattle.std.specs.List.{list_any}
use Rattle.machine_model.specs.declared.output.Out.{Out}
use Rattle.machine_model.specs.Operations.{Meaning, Reading}
use Rattle.machine_model.specs.State.{GatewayState, LiveOperation, LiveQuery, Listening, query, mutation, is_named, is_live}
use Rattle.machine_model.specs.Steps.{Step, Change, Sequel, stops, issues, reevaluates, Answer, unmoved, and_then, made}
use Rattle.machine_model.specs.Telling.{Turn, untold, told, all_turned, reply, no_errors, listening_as}
use Rattle.machine_model.specs.Reevaluation.{reread, reading_now, is_changed, is_due_after_answer, is_due_beside, answered_turn, other_turn, unanswered_turn, query_turn, turn_of, reevaluated}
use Rattle.machine_model.specs.Readings.{is_miss}
use Rattle.machine_model.specs.Issue.{not_due, may_be_sent, query_sent, issued_for, issued_over, issued}
use Rattle.machine_model.specs.Sequels.{followed, concluded}
use Rattle.machine_model.specs.Laws.{tells, IsSilent}
use Rattle.machine_model.proofs.Lists.{or_join, any_append, any_map, any_flat_map}

-- ---- steps

pub silent_unmoved : {O : Type 0} (p i : ℕ) (s : GatewayState O) → is_live s p i ≡ false → IsSilent p i (unmoved s)
silent_unmoved p i s h = record { outs = refl; live = h }

pub silent_if : {O : Type 0} (p i : ℕ) (b : Bool) (x y : Step O) → IsSilent p i x → IsSilent p i y → IsSilent p i (if b then x else y)
silent_if p i true x y a b = a
silent_if p i false x y a b = b

pub silent_then : {O : Type 0} (p i : ℕ) (step : Step O) (next : GatewayState O → Step O) → IsSilent p i step → IsSilent p i (next step.state) → IsSilent p i (and_then step next)
silent_then p i step next a b = record { outs = any_append (tells p i) step.outs (next step.state).outs a.outs b.outs; live = b.live }

-- ---- turns

-- a turn tells the operation nothing, and isn't its
pub record IsQuiet {O : Type 0} (p i : ℕ) (turn : Turn O) : Type 0 where
  pub outs : list_any (tells p i) turn.outs ≡ false
  pub live : is_named p i turn.live ≡ false

pub quiet_untold : {O : Type 0} (p i : ℕ) (live : LiveOperation O) → is_named p i live ≡ false → IsQuiet p i (untold live)
quiet_untold p i live h = record { outs = refl; live = h }

pub quiet_told : {O : Type 0} (p i : ℕ) (m : Meaning O) (live : LiveOperation O) (output : Out) → is_named p i live ≡ false → tells p i output ≡ false → IsQuiet p i (told m live output)
quiet_told p i m live output h o = record { outs = or_join (tells p i output) false o refl; live = h }

pub quiet_if : {O : Type 0} (p i : ℕ) (b : Bool) (x y : Turn O) → IsQuiet p i x → IsQuiet p i y → IsQuiet p i (if b then x else y)
quiet_if p i true x y a b = a
quiet_if p i false x y a b = b

pub silent_turned : {O : Type 0} (p i : ℕ) (turn : LiveOperation O → Turn O) (s : GatewayState O) → ((live : LiveOperation O) → is_named p i live ≡ false → IsQuiet p i (turn live)) → is_live s p i ≡ false → IsSilent p i (all_turned turn s)
silent_turned {O} p i turn s q h = record {
  outs = any_flat_map (is_named p i) (λ (live : LiveOperation O). (turn live).outs) (tells p i) (λ live n. (q live n).outs) s.live h;
  live = any_map (is_named p i) (λ (live : LiveOperation O). (turn live).live) (is_named p i) (λ live n. (q live n).live) s.live h;
}

-- ---- re-evaluation

quiet_answered : {O : Type 0} (p i : ℕ) (m : Meaning O) (s : GatewayState O) (live : LiveOperation O) (l : LiveQuery O) (now : Reading) (answer : Answer) → is_named p i live ≡ false → IsQuiet p i (answered_turn m s live l now answer)
quiet_answered p i m s live l now answer h =
    let after = reread l now (is_due_after_answer s l now answer) in
    quiet_told p i m (listening_as live after) (reply s answer.errors live after) h h

quiet_other : {O : Type 0} (p i : ℕ) (m : Meaning O) (s : GatewayState O) (live : LiveOperation O) (l : LiveQuery O) (now : Reading) → is_named p i live ≡ false → IsQuiet p i (other_turn m s live l now)
quiet_other p i m s live l now h =
    let after = reread l now (is_due_beside l now) in
    quiet_if p i (is_changed l now && not (is_miss now)) (told m (listening_as live after) (reply s no_errors live after)) (untold (listening_as live after))
    (quiet_told p i m (listening_as live after) (reply s no_errors live after) h h)
    (quiet_untold p i (listening_as live after) h)

quiet_unanswered : {O : Type 0} (p i : ℕ) (m : Meaning O) (s : GatewayState O) (live : LiveOperation O) (l : LiveQuery O) → is_named p i live ≡ false → IsQuiet p i (unanswered_turn m s live l)
quiet_unanswered p i m s live l h =
    quiet_if p i l.awaits (untold live) (other_turn m s live l (reading_now m s l)) (quiet_untold p i live h) (quiet_other p i m s live l (reading_now m s l) h)

quiet_query : {O : Type 0} (p i : ℕ) (m : Meaning O) (s : GatewayState O) (answer : Option Answer) (live : LiveOperation O) (l : LiveQuery O) → is_named p i live ≡ false → IsQuiet p i (query_turn m s answer live l)
quiet_query p i m s None live l h = quiet_unanswered p i m s live l h
quiet_query p i m s (Some answer) live l h =
    quiet_if p i (answer.key == l.key) (answered_turn m s live l (reading_now m s l) answer) (unanswered_turn m s live l)
    (quiet_answered p i m s live l (reading_now m s l) answer h)
    (quiet_unanswered p i m s live l h)

quiet_turn : {O : Type 0} (p i : ℕ) (m : Meaning O) (s : GatewayState O) (answer : Option Answer) (live : LiveOperation O) (listens : Listening O) → is_named p i live ≡ false → IsQuiet p i (turn_of m s answer live listens)
quiet_turn p i m s answer live (query l) h = quiet_query p i m s answer live l h
quiet_turn p i m s answer live (mutation ticket) h = quiet_untold p i live h

pub silent_reevaluated : {O : Type 0} (p i : ℕ) (m : Meaning O) (answer : Option Answer) (s : GatewayState O) → is_live s p i ≡ false → IsSilent p i (reevaluated m answer s)
silent_reevaluated {O} p i m answer s h =
    silent_turned p i (λ (live : LiveOperation O). turn_of m s answer live live.listens) s (λ live n. quiet_turn p i m s answer live live.listens n) h

-- ---- issue

away_if : {O : Type 0} (p i : ℕ) (b : Bool) (x y : LiveOperation O) → is_named p i x ≡ false → is_named p i y ≡ false → is_named p i (if b then x else y) ≡ false
away_if p i true x y a b = a
away_if p i false x y a b = b

away_not_due : {O : Type 0} (p i key : ℕ) (live : LiveOperation O) (listens : Listening O) → is_named p i live ≡ false → is_named p i (not_due key live listens) ≡ false
away_not_due p i key live (query l) h = away_if p i (l.key == key) (listening_as live (record l { due = false })) live h h
away_not_due p i key live (mutation ticket) h = h

silent_query_sent : {O : Type 0} (p i : ℕ) (m : Meaning O) (l : LiveQuery O) (s : GatewayState O) → is_live s p i ≡ false → IsSilent p i (query_sent m l s)
silent_query_sent {O} p i m l s h = record {
  outs = refl;
  live = any_map (is_named p i) (λ (live : LiveOperation O). not_due l.key live live.listens) (is_named p i) (λ live n. away_not_due p i l.key live live.listens n) s.live h;
}

silent_issued_for : {O : Type 0} (p i : ℕ) (m : Meaning O) (listens : Listening O) (s : GatewayState O) → is_live s p i ≡ false → IsSilent p i (issued_for m listens s)
silent_issued_for p i m (query l) s h = silent_if p i (may_be_sent m s l) (query_sent m l s) (unmoved s) (silent_query_sent p i m l s h) (silent_unmoved p i s h)
silent_issued_for p i m (mutation ticket) s h = silent_unmoved p i s h

silent_issued_over : {O : Type 0} (p i : ℕ) (m : Meaning O) (lives : List (LiveOperation O)) (s : GatewayState O) → is_live s p i ≡ false → IsSilent p i (issued_over m lives s)
silent_issued_over p i m [] s h = silent_unmoved p i s h
silent_issued_over p i m (live ∷ lives) s h =
    let first = silent_issued_for p i m live.listens s h in
    silent_then p i (issued_for m live.listens s) (issued_over m lives) first
    (silent_issued_over p i m lives (issued_for m live.listens s).state first.live)

pub silent_issued : {O : Type 0} (p i : ℕ) (m : Meaning O) (s : GatewayState O) → is_live s p i ≡ false → IsSilent p i (issued m s)
silent_issued p i m s h = silent_issued_over p i m s.live s h

-- ---- what follows

silent_followed : {O : Type 0} (p i : ℕ) (m : Meaning O) (sequel : Sequel) (s : GatewayState O) → is_live s p i ≡ false → IsSilent p i (followed m sequel s)
silent_followed p i m stops s h = silent_unmoved p i s h
silent_followed p i m issues s h = silent_issued p i m s h
silent_followed p i m (reevaluates ticket answer) s h =
    let first = silent_reevaluated p i m answer s h in
    silent_then p i (reevaluated m answer s) (issued m) first (silent_issued p i m (reevaluated m answer s).state first.live)

pub silent_concluded : {O : Type 0} (p i : ℕ) (m : Meaning O) (change : Change O) → IsSilent p i (made change) → IsSilent p i (concluded m change)
silent_concluded p i m change a = silent_then p i (made change) (followed m change.sequel) a (silent_followed p i m change.sequel change.state a.live)
