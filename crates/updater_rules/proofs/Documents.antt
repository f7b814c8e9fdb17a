-- What is known of a text once it was read as TOML.
use Rattle.std.proofs.Common.{◌≡◌, ℕ, Bool, true, false, List, [], Option, Some, None, Err, cond, refl}
use Rattle.std.proofs.lemmas.Str.{IsUtf8-from_is_utf8, is_utf8-from_IsUtf8}
use Rattle.std.specs.Prelude.{IsUtf8}
use Rattle.std.specs.Str.{is_utf8}
use Rattle.toml.specs.Data.{Members}
use Rattle.toml.specs.Parse.{parse_document}
use Rattle.schema_model.specs.declared.schema.Schema.{Schema}
use Rattle.rules_model.specs.Judgement.{rules_of, rules_in, refusal}

-- a text in UTF-8 that reads as a table gives the rules in it
pub rules_read : (schema : Schema) (text : List ℕ) (file : Members) → IsUtf8 text → parse_document text ≡ Some file → rules_of schema text ≡ rules_in schema file
rules_read schema text file utf8 is = rw (is_utf8-from_IsUtf8 text utf8, is)

none_where : {A : Type 0} (b : Bool) (o : Option A) → (b ≡ true → o ≡ None) → cond b o None ≡ None
none_where true o h = h refl
none_where false o h = refl

-- one that doesn't is refused
pub rules_refused : (schema : Schema) (text : List ℕ) → (IsUtf8 text → parse_document text ≡ None) → rules_of schema text ≡ Err (refusal 1 [])
rules_refused schema text refused = rw (none_where (is_utf8 text) (parse_document text) (λ valid. refused (IsUtf8-from_is_utf8 text valid)))
