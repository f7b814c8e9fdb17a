-- What a set of names met so far stands for.
use Rattle.std.specs.Prelude.{◌≡◌, ℕ, Bool, List}
use Rattle.std.specs.BTreeSet.{contains}
use Rattle.text_types.specs.Texts.{text_cmp}
use Rattle.schema_defaults.specs.declared.seen.Seen.{Seen}
use Rattle.schema_rules.specs.Lines.{Mark}
use Rattle.schema_defaults.specs.Repetitions.{repeated, meets}

-- whether a name is in the set
abbrev pub was_met : Seen → List ℕ → Bool
was_met seen name = contains text_cmp seen.names name

-- the names are those of the marks, and the line is that of the first repetition by lines
pub record Saw (seen : Seen) (marks : List Mark) : Type 0 where
  pub names : (name : List ℕ) → was_met seen name ≡ meets name marks
  pub found : seen.repeated ≡ repeated marks
