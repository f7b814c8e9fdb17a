use Rattle.std.proofs.Common.{◌≡◌, [], ◌∷◌, ◌++◌, sym, ap, ◌∙◌, subst, append_assoc, append-nil, arith, decimal, string_cmp, string_bytes}
use Rattle.std.specs.List.Sorted.{IsStrictlySortedBy}
use Rattle.std.specs.Map.{keys_of}
use Rattle.serde_json.specs.View.{view, members_view}
use Rattle.serde_json.proofs.Views.{Entry}
use Rattle.gql_value.specs.Json.{behind, not_whole, not_whole_in}
use Rattle.gql_value.specs.Refusal.{IsStepsOf}
use Rattle.gql_value.proofs.Conversion.{SameMembers-more, SameMembers-view, whole_member, not_whole_from-drop, IsStepsOf-option_or}
use Rattle.gql_value.proofs.KeyOrder.{Lacks-SameMembers}
use Rattle.gql_value.proofs.json.+convert.Goals as goal

pub convert_items-returns-in-Err-clause-refused : goal.convert_items-returns-in-Err-clause-refused
convert_items-returns-in-Err-clause-refused t c =
    let items = c.deref-item-items.result.now in
    let i = c.loop-at.at in
    let first = not_whole (view c.item-item.result) in
    let told : IsStepsOf (behind (decimal i) first) c.behind.result = rw (sym c.in_ok-index_text-in-Err.ensures) (c.behind.ensures first c.in-Err.ensures.refused) in
    let whole = sym c.loop-at.invariant.1 ∙ not_whole_from-drop items i c.item-item.result (omega arith) c.item-item.is in
    rw (← c.deref-item-items.ensures.value) (subst (λ o. IsStepsOf o c.behind.result) (sym whole) (IsStepsOf-option_or _ _ c.behind.result told))

pub convert_members-push-requires : goal.convert_members-push-requires
convert_members-push-requires t c =
    let l = c.loop-name in
    let e : Entry = (c.in-Some.name.now, c.in-Some.member.now) in
    let rest = c.next.new.self in
    let split : c.args.members.now.entries ≡ l.invariant.done ++ e ∷ rest = l.invariant.split ∙ ap (λ es. l.invariant.done ++ es) c.in-Some.ensures.steps in
    let sorted = subst (λ es. IsStrictlySortedBy string_cmp (keys_of es)) split c.iter-name-items.ensures.ordered in
    rw c.in_ok-copy_text-in-Ok.ensures (Lacks-SameMembers l.named l.invariant.done e rest l.invariant.same sorted)

pub convert_members-loop-name-preserved : goal.convert_members-loop-name-preserved
convert_members-loop-name-preserved t c =
    let l = c.loop-name in
    let e : Entry = (c.in-Some.name.now, c.in-Some.member.now) in
    let rest = c.next.new.self in
    let step : l.name-iterator ≡ e ∷ rest = c.in-Some.ensures.steps in
    let pushed = c.in_ok-push-in-Ok.ensures.ok ∙ ap (λ name. l.named ++ (name, c.in-Ok.value) ∷ []) c.in_ok-copy_text-in-Ok.ensures in record {
      done = l.invariant.done ++ e ∷ [];
      split = l.invariant.split ∙ ap (λ es. l.invariant.done ++ es) step ∙ sym (append_assoc l.invariant.done (e ∷ []) rest);
      same = rw pushed (SameMembers-more l.named l.invariant.done c.in-Ok.value e c.in-Ok.ensures.value l.invariant.same);
      left = sym (whole_member e rest c.in-Ok.ensures.whole) ∙ sym (ap (λ es. not_whole_in (members_view es)) step) ∙ l.invariant.left;
    }

pub convert_members-returns-in-Err-clause-refused : goal.convert_members-returns-in-Err-clause-refused
convert_members-returns-in-Err-clause-refused t c =
    let e : Entry = (c.in-Some.name.now, c.in-Some.member.now) in
    let first = not_whole (view e.1) in
    let told : IsStepsOf (behind (string_bytes e.0) first) c.behind.result = rw (sym c.in_ok-copy_text-in-Err.ensures) (c.behind.ensures first c.in-Err.ensures.refused) in
    let whole = sym c.loop-name.invariant.left ∙ ap (λ es. not_whole_in (members_view es)) c.in-Some.ensures.steps in
    subst (λ o. IsStepsOf o c.behind.result) (sym whole) (IsStepsOf-option_or _ _ c.behind.result told)

pub convert_members-returns-clause-value : goal.convert_members-returns-clause-value
convert_members-returns-clause-value t c =
    let l = c.loop-name.invariant in
    let all : c.args.members.now.entries ≡ l.done = l.split ∙ ap (λ es. l.done ++ es) c.in-None.ensures.steps.0 ∙ append-nil l.done in
    SameMembers-view c.loop-name.named l.done l.same ∙ ap members_view (sym all)
