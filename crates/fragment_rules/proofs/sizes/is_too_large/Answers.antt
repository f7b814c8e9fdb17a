use Rattle.std.proofs.Common.{List, length, ap, ◌∙◌}
use Rattle.gql_model.specs.declared.document.Definition.{Definition}
use Rattle.check_model.specs.Followed.{Follow}
use Rattle.check_model.specs.Sizes.{Bounded}
use Rattle.fragment_rules.specs.Tables.{Table, some_large, size_in, table_after}
use Rattle.fragment_rules.proofs.SizeLaws.{round_sizes}
use Rattle.fragment_rules.proofs.sizes.is_too_large.Goals as goal

pub returns : goal.returns
returns c = λ h.
    c.some_large.ensures
    ∙ ap (λ (t : Table). some_large (size_in c.args.index.now t) c.as_slice-definitions.result.now) (c.as_slice.ensures ∙ c.in_ok-table.ensures)
    ∙ ap (λ (ds : List Definition). some_large (size_in c.args.index.now (table_after (length ds) c.args.index.now ds)) ds) c.as_slice-definitions.ensures
    ∙ ap (λ (follow : Follow Bounded). some_large follow c.args.document.now.definitions)
    (λ i name. round_sizes (length c.args.document.now.definitions) c.args.index.now c.args.document.now h name i)
