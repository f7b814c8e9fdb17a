-- Plain bytes: each context takes them alone, and they mean themselves.
use Rattle.std.proofs.Common.{◌≡◌, ◌<◌, ℕ, suc, ◌+◌, Bool, true, false, List, [], ◌∷◌, ◌==◌, nat_eq, length, take, Some, refl, sym, ap, ◌∙◌, IsUtf8, arith}
use Rattle.std.specs.List.{prefix_len}
use Rattle.std.specs.Str.{IsAscii}
use Rattle.std.proofs.lemmas.Str.{IsUtf8-from_ascii}
use Rattle.std.proofs.lemmas.Str.Ascii.{IsAscii-nil, IsAscii-cons}
use Rattle.std.proofs.lemmas.Bool.Decides.{nat_tests}
use Rattle.std.proofs.lemmas.List.Folds.{length-prefix_len}
use Rattle.gql_tokens.specs.declared.runs.Context.{Context}
use Rattle.gql_tokens.specs.declared.runs.Context.TheVariants as context
use Rattle.gql_tokens.specs.Characters.{is_plain, is_source_byte, is_line_end, encoded_len, source_character}
use Rattle.gql_tokens.specs.Runs.{Begins}
use Rattle.gql_tokens.specs.Readings.{rule_of}
use Rattle.gql_tokens.proofs.CharacterLaws.{utf8_front_some}
use Rattle.gql_tokens.proofs.RunLaws.{TakesPlain, plain_begin}

plain_ascii : (b : ℕ) → is_plain b ≡ true → b < 128
plain_ascii b h = grind (arith, nat_tests)

plain_source : (b : ℕ) → is_plain b ≡ true → is_source_byte b ≡ true
plain_source b h = grind (arith, nat_tests)

plain_alone : (b : ℕ) → is_plain b ≡ true → encoded_len b ≡ 1
plain_alone b h = grind (arith, nat_tests)

plain_inside : (b : ℕ) → is_plain b ≡ true → is_line_end b ≡ false
plain_inside b h = grind (arith, nat_tests)

plain_no_mark : (b : ℕ) → is_plain b ≡ true → (b == 34) ≡ false
plain_no_mark b h = grind (arith, nat_tests)

plain_no_escape : (b : ℕ) → is_plain b ≡ true → (b == 92) ≡ false
plain_no_escape b h = grind (arith, nat_tests)

plain_begins_no_mark : (b : ℕ) → is_plain b ≡ true → nat_eq 34 b ≡ false
plain_begins_no_mark b h = grind (arith, nat_tests)

plain_begins_no_escape : (b : ℕ) → is_plain b ≡ true → nat_eq 92 b ≡ false
plain_begins_no_escape b h = grind (arith, nat_tests)

-- a plain byte is a source character
plain_character : (b : ℕ) (rest : List ℕ) → is_plain b ≡ true → source_character (b ∷ rest) ≡ Some (b ∷ [], 1)
plain_character b rest h =
    let text : IsUtf8 (b ∷ []) = IsUtf8-from_ascii (b ∷ []) (IsAscii-cons b [] (plain_ascii b h) IsAscii-nil) in
    rw (plain_source b h, plain_alone b h) (sym (utf8_front_some 1 (b ∷ rest) (b ∷ []) (omega arith) refl text))

pub takes_plain : (where_from : Context) → TakesPlain (rule_of where_from)
takes_plain context.Comment b rest h = rw (plain_inside b h) (plain_character b rest h)
takes_plain context.String b rest h = rw (plain_no_escape b h, plain_no_mark b h, plain_inside b h) (plain_character b rest h)
takes_plain context.Block b rest h = rw (plain_begins_no_escape b h, plain_begins_no_mark b h) (plain_character b rest h)

front_ascii : (text : List ℕ) → IsAscii (take (prefix_len is_plain text) text)
front_ascii [] = IsAscii-nil
front_ascii (b ∷ rest) = here (is_plain b) refl (front_ascii rest)
  where
    here : (t : Bool) → is_plain b ≡ t → IsAscii (take (prefix_len is_plain rest) rest) → IsAscii (take (prefix_len is_plain (b ∷ rest)) (b ∷ rest))
    here false e more = rw e IsAscii-nil
    here true e more =
        let one : 1 + prefix_len is_plain rest ≡ suc (prefix_len is_plain rest) = omega arith in
        rw (e, one) (IsAscii-cons b (take (prefix_len is_plain rest) rest) (plain_ascii b e) more)

-- the plain bytes at the front are UTF-8
pub front_utf8 : (text : List ℕ) → IsUtf8 (take (prefix_len is_plain text) text)
front_utf8 text = IsUtf8-from_ascii (take (prefix_len is_plain text) text) (front_ascii text)

-- the plain bytes at the front begin the run
pub front_begins : (where_from : Context) (text front : List ℕ) → front ≡ take (prefix_len is_plain text) text → Begins (rule_of where_from) text (Some (front, length front))
front_begins where_from text front e =
    let l : length front ≡ prefix_len is_plain text = ap length e ∙ length-prefix_len is_plain text in
    rw (l, e) (plain_begin (rule_of where_from) (takes_plain where_from) text)
