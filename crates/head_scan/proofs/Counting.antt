-- How many lines have ended, where further bytes come.
use Rattle.std.proofs.Common.{◌≡◌, ℕ, ◌+◌, ◌<◌, ◌≤◌, ◌==◌, true, false, List, [], ◌∷◌, ◌++◌, count_by, cond, if◌then◌else◌, refl, ap, sym, ◌∙◌, arith}
use Rattle.std.proofs.lemmas.List.Sums.{sum_by-append}
use Rattle.httparse.specs.Pieces.{is_newline}
use Rattle.http_model.specs.Heads.{skip_empty_lines, lines_ended}
use Rattle.head_scan.specs.Scans.{is_some_byte, has_begun, Counts}
use Rattle.head_scan.specs.declared.lines.EndedLines.{EndedLines}

-- the line feeds among bytes
abbrev pub feeds : List ℕ → ℕ
feeds bytes = count_by (λ b. b == 10) bytes

pub feeds-append : (xs ys : List ℕ) → feeds (xs ++ ys) ≡ feeds xs + feeds ys
feeds-append xs ys = sum_by-append (λ b. cond (b == 10) 1 0) xs ys

-- behind empty lines alone
pub skip-none : (seen more : List ℕ) → has_begun seen ≡ false → skip_empty_lines (seen ++ more) ≡ skip_empty_lines more
skip-none [] more none = refl
skip-none (b ∷ seen) more none =
    elim (is_newline b) as (λ t. is_some_byte (if t then skip_empty_lines seen else b ∷ seen) ≡ false → (if t then skip_empty_lines (seen ++ more) else b ∷ (seen ++ more)) ≡ skip_empty_lines more) [
      | true ↦ skip-none seen more
      | false ↦ λ never. cc
    ] none

-- behind the first byte of a start line
pub skip-some : (seen more : List ℕ) → has_begun seen ≡ true → skip_empty_lines (seen ++ more) ≡ skip_empty_lines seen ++ more
skip-some [] more some = cc
skip-some (b ∷ seen) more some =
    elim (is_newline b) as (λ t. is_some_byte (if t then skip_empty_lines seen else b ∷ seen) ≡ true → (if t then skip_empty_lines (seen ++ more) else b ∷ (seen ++ more)) ≡ (if t then skip_empty_lines seen else b ∷ seen) ++ more) [
      | true ↦ skip-some seen more
      | false ↦ λ _. refl
    ] some

is_some_byte-append : (bytes more : List ℕ) → is_some_byte bytes ≡ true → is_some_byte (bytes ++ more) ≡ true
is_some_byte-append [] more some = cc
is_some_byte-append (b ∷ bytes) more some = refl

-- the lines of further bytes, where no start line had begun
pub Counts-first : (count : EndedLines) (seen bytes : List ℕ) → has_begun seen ≡ false → Counts count bytes → Counts count (seen ++ bytes)
Counts-first count seen bytes none counts =
    let same = skip-none seen bytes none in
    let lines : lines_ended (seen ++ bytes) ≡ lines_ended bytes = ap feeds same in record {
      begun = counts.begun ∙ sym (ap is_some_byte same);
      exact = λ few. counts.exact few ∙ sym lines;
      over = λ many. omega (arith, counts.over many, lines);
    }

-- the lines that further bytes end, where a start line had begun
pub Counts-more : (old new : EndedLines) (seen bytes : List ℕ) → old.ended ≤ 101 → old.begun ≡ true → new.begun ≡ old.begun → new.ended ≡ old.ended + feeds bytes → Counts old seen → Counts new (seen ++ bytes)
Counts-more old new seen bytes few begun same ended counts =
    let some : has_begun seen ≡ true = sym counts.begun ∙ begun in
    let skipped = skip-some seen bytes some in
    let lines : lines_ended (seen ++ bytes) ≡ lines_ended seen + feeds bytes = ap feeds skipped ∙ feeds-append (skip_empty_lines seen) bytes in
    let exact = counts.exact few in record {
      begun = same ∙ begun ∙ sym (ap is_some_byte skipped ∙ is_some_byte-append (skip_empty_lines seen) bytes some);
      exact = λ small. omega (arith, exact, lines, ended);
      over = λ large. omega (arith, exact, lines, ended, large);
    }

-- more bytes end no fewer lines
pub lines_ended-append : (seen more : List ℕ) → lines_ended seen ≤ lines_ended (seen ++ more)
lines_ended-append [] more = omega arith
lines_ended-append (b ∷ seen) more =
    elim (is_newline b) as (λ t. feeds (if t then skip_empty_lines seen else b ∷ seen) ≤ feeds (if t then skip_empty_lines (seen ++ more) else b ∷ (seen ++ more))) [
      | true ↦ lines_ended-append seen more
      | false ↦ omega (arith, feeds-append (b ∷ seen) more)
    ]

some-feeds : (bytes : List ℕ) → 0 < feeds bytes → is_some_byte bytes ≡ true
some-feeds [] some = absurd (omega (arith, some))
some-feeds (b ∷ bytes) some = refl

-- past the lines of a head no more are counted
pub Counts-over : (count : EndedLines) (seen bytes : List ℕ) → 101 < count.ended → Counts count seen → Counts count (seen ++ bytes)
Counts-over count seen bytes many counts =
    let over : 101 < lines_ended seen = counts.over many in
    let some : has_begun seen ≡ true = some-feeds (skip_empty_lines seen) (omega arith) in
    let kept : has_begun (seen ++ bytes) ≡ true = ap is_some_byte (skip-some seen bytes some) ∙ is_some_byte-append (skip_empty_lines seen) bytes some in
    let more = lines_ended-append seen bytes in record {
      begun = counts.begun ∙ some ∙ sym kept;
      exact = λ few. absurd (omega (arith, few, many));
      over = λ _. omega (arith, over, more);
    }
