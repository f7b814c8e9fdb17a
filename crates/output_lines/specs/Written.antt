-- A member as the code holds it, as its name and text.
use Rattle.std.specs.Prelude.{ℕ, List, decimal}
use Rattle.std.specs.Borrow.{Bor}
use Rattle.gql_value.specs.Text.{quoted, text_of}
use Rattle.http_model.specs.Texts.{name_text}
use Rattle.output_lines.specs.declared.part.Part.{Part}
use Rattle.output_lines.specs.declared.part.Part.TheVariants as part
use Rattle.output_lines.specs.Parts.{Member, truth_text, word_text, numbers_text, cells_text}

-- the text of a member's value
abbrev pub part_text : Part → List ℕ
part_text (part.Number number) = decimal number
part_text (part.Truth truth) = truth_text truth
part_text (part.Word word) = word_text word.now
part_text (part.Text text) = quoted text.now
part_text (part.Name name) = name_text name.now
part_text (part.Json text) = text.now
part_text (part.Value value) = text_of value.now
part_text (part.Numbers numbers) = numbers_text numbers.now
part_text (part.Cells cells) = cells_text cells.now

-- a member with the text of its value
abbrev pub member_of : Bor (List ℕ) × Part → Member
member_of m = (m.0.now, part_text m.1)
