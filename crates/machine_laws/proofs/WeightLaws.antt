-- A command weighs 1 more than all that follows it.
use Rattle.std.proofs.Common.{◌≡◌, ℕ, ◌+◌, List, [], ◌∷◌, map, refl, sym, ap, ◌∙◌, subst, arith}
use Rattle.machine_model.specs.declared.command.Command.{Command, out-Command, map-Command}
use Rattle.machine_model.specs.declared.command.Command.TheOpen.{Command-F}
use Rattle.machine_model.specs.declared.command.Command.TheFolds.{fold-Dispatch, fold_out-Command, fold_out-Dispatch}
use Rattle.machine_model.specs.declared.command.Dispatch.{Dispatch, out-Dispatch}
use Rattle.machine_laws.specs.Endings.{weigh_all, WeighsMore, IsWeight, weights_total, weigh_command, weigh_dispatch, weight_of}

weighed : (w : Command → ℕ) (commands : List Command) → weigh_all w commands ≡ weights_total (map w commands)
weighed w [] = refl
weighed w (command ∷ commands) = ap (λ n. w command + n) (weighed w commands)

-- what follows a dispatch
inside_of : Dispatch → ℕ
inside_of = fold-Dispatch ℕ ℕ weigh_command weigh_dispatch

inside_is : (dispatch : Dispatch) → inside_of dispatch ≡ weigh_all weight_of (out-Dispatch dispatch).then
unfolding inside_of
inside_is dispatch = fold_out-Dispatch ℕ ℕ weigh_command weigh_dispatch dispatch ∙ sym (weighed weight_of (out-Dispatch dispatch).then)

level : (open_command : Command-F Command Dispatch) → WeighsMore weight_of (weigh_command (map-Command Command Dispatch ℕ ℕ weight_of inside_of open_command)) open_command
level (Command-F.Dispatch dispatch) = omega (arith, inside_is dispatch)
level (Command-F.Teardown peer id line) = omega arith
level (Command-F.Respond peer fetch line outcome) = omega arith
level Command-F.Online = omega arith
level (Command-F.Layers peer) = omega arith
level (Command-F.Flat peer) = omega arith
level (Command-F.Gone peer) = omega arith

pub weight_of-weighs : IsWeight weight_of
unfolding inside_of
weight_of-weighs command =
    subst (λ own. WeighsMore weight_of own (out-Command command)) (sym (fold_out-Command ℕ ℕ weigh_command weigh_dispatch command)) (level (out-Command command))
