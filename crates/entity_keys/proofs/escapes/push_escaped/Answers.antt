use Rattle.std.proofs.Common.{◌≡◌, ℕ, List, ◌<◌, ◌++◌, take, drop, length, get_or, sym, subst, ap, ap₂, ◌∙◌, IsUtf8}
use Rattle.std.specs.Str.{IsCharBoundary}
use Rattle.cache_model.specs.Keys.{escaped, escaped_byte}
use Rattle.entity_keys.proofs.Runs.{positive, before_end, cut_behind, behind_is_text, run_written, mark_byte, drop_behind}
use Rattle.entity_keys.proofs.escapes.push_escaped.Goals as goal

pub split_at-requires-in-runs : goal.split_at-requires-in-runs
split_at-requires-in-runs c =
    let bs = c.as_bytes.result.now in
    let i = c.plain_len.result in
    let back : c.split_at.result.1.now ≡ drop i bs = c.split_at.ensures.back ∙ ap (drop i) (sym c.as_bytes.ensures.value) in
    let some : 0 < length c.split_at.result.1.now = positive _ (sym c.is_empty-in-runs.ensures ∙ c.if-is_empty.false) in
    let l : i < length bs = before_end bs i (subst (λ z. 0 < length z) back some) in
    subst (λ z. IsCharBoundary z 1) (sym back) (cut_behind bs i c.as_bytes.ensures.utf8 l (c.plain_len.ensures.longest l))

pub runs-preserved : goal.runs-preserved
runs-preserved c =
    let bs = c.as_bytes.result.now in
    let i = c.plain_len.result in
    let value = c.as_bytes.ensures.value in
    let front : c.split_at.result.0.now ≡ take i bs = c.split_at.ensures.front ∙ ap (take i) (sym value) in
    let back : c.split_at.result.1.now ≡ drop i bs = c.split_at.ensures.back ∙ ap (drop i) (sym value) in
    let some : 0 < length c.split_at.result.1.now = positive _ (sym c.is_empty-in-runs.ensures ∙ c.if-is_empty.false) in
    let l : i < length bs = before_end bs i (subst (λ z. 0 < length z) back some) in
    let behind : c.split_at-in-runs.result.1.now ≡ drop 1 (drop i bs) = c.split_at-in-runs.ensures.back ∙ ap (drop 1) back in
    let mark : get_or c.as_bytes-in-runs.result.now 0 0 ≡ get_or bs i 0 = ap (λ z. get_or z 0 0) (c.as_bytes-in-runs.ensures.value ∙ c.split_at-in-runs.ensures.front ∙ ap (take 1) back) ∙ mark_byte bs i in
    let key = c.in_ok-push_escape.ensures ∙ ap₂ {A = List ℕ} {B = ℕ} (λ k b. k ++ escaped_byte b) (c.in_ok-push_str.ensures.ok ∙ ap (λ z. c.runs.key ++ z) front) mark in (
      subst IsUtf8 (sym behind) (behind_is_text bs i c.as_bytes.ensures.utf8 l (c.plain_len.ensures.longest l)),
      ap₂ {A = List ℕ} {B = List ℕ} (λ k r. k ++ escaped r) key (behind ∙ drop_behind bs i l)
          ∙ run_written c.runs.key bs i l c.plain_len.ensures.plain
          ∙ ap (λ z. c.runs.key ++ escaped z) value
          ∙ c.runs.invariant.1,
    )
