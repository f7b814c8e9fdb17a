use Rattle.gql_value.proofs.Escapes.{IsUtf8-quoted}
use Rattle.gql_printing.proofs.Utf8.{grown}
use Rattle.gql_printing.proofs.appending.append_string.Goals as goal

pub returns-clause-utf8 : goal.returns-clause-utf8
returns-clause-utf8 c =
    grown c.write_quoted.result _ _ _ c.write_quoted.ensures.ok c.write_quoted.ensures.err
    (IsUtf8-quoted c.args.value.now c.as_bytes-text.ensures.utf8)
