-- What a definition begins with.
use Rattle.std.proofs.Common.{◌≡◌, Bool, true, false, ◌||◌, List, [], ◌∷◌, ◌++◌, refl, sym, ap, ◌∙◌}
use Rattle.std.specs.Prelude.{codes}
use Rattle.gql_tokens.specs.Tokens.{Token}
use Rattle.gql_model.specs.Sorts.{Sort, is_in, starts, mark, word}
use Rattle.gql_tokens.specs.declared.token.Kind.TheVariants as kind
use Rattle.gql_documents.specs.Documents.{operation_start, first_forms, last_forms, type_system_start, definition_start}
use Rattle.gql_documents.proofs.SortLaws.{in_append}

either_starts : (ss ts : List Sort) (us : List Token) → starts (ss ++ ts) us ≡ starts ss us || starts ts us
either_starts ss ts [] = refl
either_starts ss ts (x ∷ us) = in_append ss ts x

pub definition_starts : (us : List Token) → starts definition_start us ≡ starts (word (codes "fragment")) us || (starts operation_start us || starts type_system_start us)
definition_starts us = either_starts (word (codes "fragment")) (operation_start ++ type_system_start) us ∙ ap (λ (b : Bool). starts (word (codes "fragment")) us || b) (either_starts operation_start type_system_start us)

pub type_system_starts : (us : List Token) → starts type_system_start us ≡ starts (mark kind.String) us || (starts first_forms us || starts last_forms us)
type_system_starts us = either_starts (mark kind.String) (first_forms ++ last_forms) us ∙ ap (λ (b : Bool). starts (mark kind.String) us || b) (either_starts first_forms last_forms us)
