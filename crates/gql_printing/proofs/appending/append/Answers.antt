use Rattle.std.proofs.Common.{◌≡◌, ◌++◌, List, ℕ, subst}
use Rattle.std.specs.Prelude.{OnOk}
use Rattle.gql_printing.proofs.Utf8.{grown}
use Rattle.gql_printing.proofs.appending.append.Goals as goal

pub returns-clause-utf8 : goal.returns-clause-utf8
returns-clause-utf8 c =
    grown c.append.result _ _ c.args.text.now
    (subst (λ (t : List ℕ). OnOk c.append.result (c.append.new.self ≡ c.args.bytes.now ++ t)) c.as_bytes.ensures.value c.append.ensures.ok)
    c.append.ensures.err c.utf8.text
