use Rattle.std.proofs.Common.{◌≡◌, Ok, [], ◌∷◌, ◌++◌, sym, ap, ◌∙◌, subst, append_assoc, string_cmp, string_bytes}
use Rattle.std.specs.List.Sorted.{IsStrictlySortedBy}
use Rattle.std.specs.Map.{keys_of}
use Rattle.toml.specs.View.{view, members_view}
use Rattle.toml.proofs.Views.{Entry}
use Rattle.rules_model.specs.Judgement.{judged_key, keys_onto}
use Rattle.rules_model.specs.Toml.{pairs_in}
use Rattle.updater_rules.proofs.KeyOrder.{keys_step, lacks_next, named_more}
use Rattle.updater_rules.proofs.settings.keys_in.Goals as goal

pub push-requires : goal.push-requires
push-requires c =
    let l = c.loop-name in
    let e : Entry = (c.in-Some.name.now, c.in-Some.node.now) in
    let rest = c.next.new.self in
    let split : c.args.table.now.entries ≡ l.invariant.done ++ e ∷ rest = l.invariant.split ∙ ap (λ es. l.invariant.done ++ es) c.in-Some.ensures.steps in
    let sorted = subst (λ es. IsStrictlySortedBy string_cmp (keys_of es)) split c.iter-name-items.ensures.ordered in
    rw (c.in_ok-name.ensures ∙ c.as_str.ensures.value) (lacks_next l.keys l.invariant.done e rest l.invariant.named sorted)

pub loop-name-preserved : goal.loop-name-preserved
loop-name-preserved c =
    let l = c.loop-name in
    let e : Entry = (c.in-Some.name.now, c.in-Some.node.now) in
    let rest = c.next.new.self in
    let step : l.name-iterator ≡ e ∷ rest = c.in-Some.ensures.steps in
    let called : c.in_ok-name.name ≡ string_bytes e.0 = c.in_ok-name.ensures ∙ c.as_str.ensures.value in
    let pushed : c.push.new.self ≡ l.keys ++ (string_bytes e.0, c.in-Ok.found) ∷ [] = c.in_ok-push-in-Ok.ensures.ok ∙ ap (λ name. l.keys ++ (name, c.in-Ok.found) ∷ []) called in
    let judged : judged_key c.args.schema.now (string_bytes e.0, view e.1) ≡ Ok c.in-Ok.found = subst (λ name. judged_key c.args.schema.now (name, view e.1) ≡ Ok c.in-Ok.found) called c.in-Ok.ensures.found in record {
      done = l.invariant.done ++ e ∷ [];
      split = l.invariant.split ∙ ap (λ es. l.invariant.done ++ es) step ∙ sym (append_assoc l.invariant.done (e ∷ []) rest);
      named = rw pushed (named_more l.keys l.invariant.done e c.in-Ok.found l.invariant.named);
      left = rw pushed (sym (keys_step c.args.schema.now l.keys (string_bytes e.0, view e.1) (pairs_in (members_view rest)) c.in-Ok.found judged) ∙ sym (ap (λ es. keys_onto c.args.schema.now l.keys (pairs_in (members_view es))) step) ∙ l.invariant.left);
    }
