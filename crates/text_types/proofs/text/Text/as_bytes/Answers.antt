use Rattle.std.proofs.Common.{subst, IsUtf8, ◌∙◌}
use Rattle.text_types.proofs.text.Text.as_bytes.Goals as goal

pub returns-clause-utf8 : goal.returns-clause-utf8
returns-clause-utf8 c = subst IsUtf8 (c.as_str.ensures.value ∙ c.self.view_is) c.as_str.utf8
