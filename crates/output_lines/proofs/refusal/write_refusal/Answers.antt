use Rattle.std.proofs.Common.{◌≡◌, ℕ, List, [], refl, sym}
use Rattle.machine_model.specs.declared.output.Refusal.{Refusal}
use Rattle.machine_model.specs.declared.output.Refusal.TheVariants as refusal
use Rattle.output_lines.specs.Lines.{refusal_details}
use Rattle.output_lines.proofs.refusal.write_refusal.Goals as goal

no_details : (r : Refusal)
    → ((member : List ℕ) → r ≡ refusal.E3 member → ⊥)
    → ((row column : ℕ) → r ≡ refusal.E6 row column → ⊥)
    → ((rule : ℕ) → r ≡ refusal.E8 rule → ⊥)
    → ((variable : List ℕ) → r ≡ refusal.E9 variable → ⊥)
    → ((path : List ℕ) → r ≡ refusal.E11 path → ⊥)
    → refusal_details r ≡ []
no_details refusal.E1 member place rule variable path = refl
no_details refusal.E2 member place rule variable path = refl
no_details (refusal.E3 m) member place rule variable path = absurd (member m refl)
no_details refusal.E4 member place rule variable path = refl
no_details refusal.E5 member place rule variable path = refl
no_details (refusal.E6 r c) member place rule variable path = absurd (place r c refl)
no_details refusal.E7 member place rule variable path = refl
no_details (refusal.E8 n) member place rule variable path = absurd (rule n refl)
no_details (refusal.E9 v) member place rule variable path = absurd (variable v refl)
no_details refusal.E10 member place rule variable path = refl
no_details (refusal.E11 p) member place rule variable path = absurd (path p refl)
no_details refusal.E12 member place rule variable path = refl
no_details refusal.E14 member place rule variable path = refl
no_details refusal.E15 member place rule variable path = refl
no_details refusal.E16 member place rule variable path = refl
no_details refusal.E17 member place rule variable path = refl

pub returns-in_default : goal.returns-in_default
returns-in_default c =
    let none = no_details c.args.refusal.now c.in_default.not-E3 c.in_default.not-E6 c.in_default.not-E8 c.in_default.not-E9 c.in_default.not-E11 in
    record {
      ok = rw (none, sym c.code_of.ensures) c.write_coded.ensures.ok;
      err = c.write_coded.ensures.err;
    }
