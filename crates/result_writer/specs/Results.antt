-- What calls tell of writes.
use Rattle.std.specs.Prelude.{◌≡◌, ℕ, List, ◌++◌}
use Rattle.std.specs.Result.{result_map_both}
use Rattle.std.specs.declared.result.Result.{Result}
use Rattle.std.specs.declared.result.Result.TheVariants.{Ok, Err}
use Rattle.cache_model.specs.declared.write.Write.{Write}
use Rattle.answer_model.specs.Paths.{Path, path_text}
use Rattle.answer_model.specs.Writing.{Writes}
use Rattle.result_writer.specs.declared.error.WriteError.{WriteError}
use Rattle.result_writer.specs.declared.error.WriteError.TheVariants as error

-- with the place that doesn't fit as it is told
abbrev pub told : {X : Type 0} → Result X Path → Result X (List ℕ)
told result = result_map_both (λ x. x) path_text result

-- writes behind those before them
abbrev pub told_behind : List Write → Writes → Result (List Write) (List ℕ)
told_behind before writes = result_map_both (λ ws. before ++ ws) path_text writes

-- an error tells the place that doesn't fit; nothing is known where memory ran out
abbrev pub TellsError : {X : Type 0} → Result X (List ℕ) → WriteError → Type 0
TellsError told error.Memory = Unit
TellsError told (error.Shape path) = told ≡ Err path

-- what a call answers, where it doesn't run out of memory
abbrev pub Tells : {X : Type 0} → Result X WriteError → Result X (List ℕ) → Type 0
Tells (Ok x) told = told ≡ Ok x
Tells (Err error) told = TellsError told error
