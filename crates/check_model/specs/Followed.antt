-- What a selection set gives with its spreads followed.
use Rattle.std.specs.Prelude.{ℕ, zero, suc, List, length}
use Rattle.std.specs.Option.{option_map_or}
use Rattle.gql_model.specs.declared.executable.Fragment.{Fragment}
use Rattle.gql_model.specs.declared.document.Document.{Document}
use Rattle.check_model.specs.Executables.{fragment_named}

-- what a spread gives, by the name of its fragment
abbrev pub Follow : Type 0 → Type 0
Follow C = List ℕ → C

-- What a spread gives where a fragment gives what `meaning` says, spreads in it followed too; so deep, and nothing below.
abbrev pub followed_within : {C : Type 0} → ℕ → C → (Follow C → Fragment → C) → Document → Follow C
followed_within zero none meaning document name = none
followed_within (suc n) none meaning document name =
    option_map_or (meaning (followed_within n none meaning document)) (fragment_named document name) none

-- What a spread gives, with spreads followed to the end: without cycles none goes deeper than there are definitions.
abbrev pub followed : {C : Type 0} → C → (Follow C → Fragment → C) → Document → Follow C
followed none meaning document = followed_within (length document.definitions) none meaning document
