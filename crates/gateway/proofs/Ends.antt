-- How the run ends in the top call: at a missing file, before its input, or with a stopped line.
use Rattle.std.proofs.Common.{◌≡◌, ℕ, ◌+◌, ◌<◌, List, length, take, Option, Some, refl, sym, subst, inl, inr, arith}
use Rattle.std.specs.Prelude.{codes, Err}
use Rattle.std.specs.Io.KnownBytes.{Appends}
use Rattle.std.proofs.KnownBytes.{Appends-trans}
use Rattle.fault_causes.specs.Causes.{Rose}
use Rattle.gql_schema.specs.declared.error.Refusal.{Refusal}
use Rattle.judged_dispatch.specs.declared.service.Service.{Service}
use Rattle.gateway.specs.Words.{Names}
use Rattle.gateway.specs.Files.{IsHeld, IsMissing, IsSchema, GivesSchema, GivesService, AreHeld, AreHeldAs, Serves, IsFirstMissing, RefusesFor, StopsAtFile}
use Rattle.gateway.specs.Lines.{whole_lines_text, limited_text, full_text}
use Rattle.gateway.specs.Stopped.{missing_line, refused_schema_line, limit_line}
use Rattle.gateway.specs.Run.{WritesFront, Ran, RanFront}
use Rattle.gateway.proofs.Fronts.{WritesFront-after}
use Rattle.gateway.proofs.Law.{full_text-past}

-- a file is missing, or the schema is refused
module _ (files : Option (List ℕ → Option (List ℕ))) (old new : ℕ) (words : Option Names) (OfLine : List ℕ → Type 0) (names : Names) (given : words ≡ Some names) where
  pub no_schema : Rose old new × IsMissing files names.schema → OfLine (missing_line (codes "schema")) → StopsAtFile files old new words OfLine
  no_schema missing line = inl (record {
    file = codes "schema";
    first = subst (λ z. IsFirstMissing files z (codes "schema")) (sym given) (inl (refl, missing.1));
    cause = missing.0;
    line = line;
  })

  pub no_rules : Rose old new × (IsSchema files names.schema × IsMissing files names.rules) → OfLine (missing_line (codes "rules")) → StopsAtFile files old new words OfLine
  no_rules missing line = inl (record {
    file = codes "rules";
    first = subst (λ z. IsFirstMissing files z (codes "rules")) (sym given) (inr (refl, missing.1));
    cause = missing.0;
    line = line;
  })

  pub bad_schema : (refusal : Refusal) → GivesSchema files names.schema (Err refusal) → OfLine (refused_schema_line refusal) → StopsAtFile files old new words OfLine
  bad_schema refusal gives line = inr (record {
    refusal = refusal;
    first = subst (λ z. RefusesFor files z refusal) (sym given) gives;
    line = line;
  })

-- one byte past the limit the stopped line was written behind the text
module _ {S K : Type 0} (service : Service) (left : S → Option (List ℕ)) (given : S → ℕ) (held : K → Option (List ℕ)) (limit : ℕ) (input input_new : S) (out out_new out_last : K)
    (ran : Ran left given input input_new held out out_new (λ bytes. whole_lines_text service (take limit bytes))) where
  pub Ran-stopped : Appends (held out_new) (held out_last) limit_line → Ran left given input input_new held out out_last (limited_text service limit)
  Ran-stopped h = record { taken = ran.taken; took = ran.took; written = Appends-trans _ _ _ _ limit_line ran.written h }

  pub RanFront-stopped : given input_new ≡ given input + (limit + 1) → WritesFront (held out_new) (held out_last) limit_line → RanFront left given input input_new held out out_last (full_text service limit)
  RanFront-stopped past h =
      let long : limit < length ran.taken = omega (arith, ran.took.counted) in
      record { taken = ran.taken; took = ran.took; written = rw (full_text-past service limit ran.taken long) (WritesFront-after _ _ _ _ limit_line ran.written h) }

-- a service has a schema
pub schema_given : (files : Option (List ℕ → Option (List ℕ))) (name : List ℕ) (service : Service) → GivesService files name service → IsSchema files name
schema_given files name service gives = record { schema = service.schema; given = gives.given }

-- the files give the service
pub serves : {files : Option (List ℕ → Option (List ℕ))} {words : Option Names} {OfService : Service → Type 0} (names : Names) (service : Service)
    → words ≡ Some names → GivesService files names.schema service → IsHeld files names.rules → OfService service → Serves files words OfService
serves {files = files} names service given gives held ran = record {
  service = service;
  held = subst (λ z. AreHeldAs files z service) (sym given) (gives, held);
  ran = ran;
}

pub held_schema : (files : Option (List ℕ → Option (List ℕ))) (words : Option Names) (names : Names) (service : Service)
    → words ≡ Some names → GivesService files names.schema service → IsHeld files names.rules → AreHeld files words
held_schema files words names service given gives held = subst (λ z. AreHeld files z) (sym given) (schema_given files names.schema service gives, held)
