-- The queue of commands: first in, first out. What an operation was given to follow joins it at the back (urql, the client's queue of operations).
use Rattle.std.specs.Prelude.{ℕ, ◌==◌, ◌&&◌, Bool, false, not, List, [], ◌∷◌, ◌++◌, fold, filter}
use Rattle.std.specs.List.{list_any}
use Rattle.machine_model.specs.declared.command.Command.{Command, out-Command}
use Rattle.machine_model.specs.declared.command.Command.TheOpen.{Command-F}
use Rattle.machine_model.specs.declared.command.Dispatch.{Dispatch, out-Dispatch}
use Rattle.machine_model.specs.State.{Job}

-- the command dispatches an operation under this number of this client
abbrev pub dispatches : ℕ → ℕ → Command-F Command Dispatch → Bool
dispatches peer id (Command-F.Dispatch dispatch) = (out-Dispatch dispatch).peer == peer && (out-Dispatch dispatch).id == id
dispatches peer id _ = false

-- the command waits to dispatch that operation
abbrev pub is_waiting_for : ℕ → ℕ → Job → Bool
is_waiting_for peer id job = dispatches peer id (out-Command job.command)

-- a command that waits and took nothing out of the queue when it joined
abbrev pub plain_job : Command → Job
plain_job command = record { command = command; took_out = false }

-- a teardown that joins takes the waiting dispatches of its operation out, and so they never run
abbrev pub teardown_joined : List Job → Command → ℕ → ℕ → List Job
teardown_joined jobs command peer id =
    filter (λ job. not (is_waiting_for peer id job)) jobs
    ++ record { command = command; took_out = list_any (is_waiting_for peer id) jobs } ∷ []

-- a teardown goes behind what it leaves of the queue, any other command goes behind all of it
abbrev pub joined_as : List Job → Command → Command-F Command Dispatch → List Job
joined_as jobs command (Command-F.Teardown peer id line) = teardown_joined jobs command peer id
joined_as jobs command _ = jobs ++ plain_job command ∷ []

-- the queue after a command has joined it
abbrev pub joined : List Job → Command → List Job
joined jobs command = joined_as jobs command (out-Command command)

-- the queue after some commands have joined it, one after another
abbrev pub all_joined : List Job → List Command → List Job
all_joined jobs commands = fold joined jobs commands

-- the command came from this client
abbrev pub is_of_peer : ℕ → Command-F Command Dispatch → Bool
is_of_peer peer (Command-F.Dispatch dispatch) = (out-Dispatch dispatch).peer == peer
is_of_peer peer (Command-F.Teardown other id line) = other == peer
is_of_peer peer (Command-F.Respond other fetch line outcome) = other == peer
is_of_peer peer Command-F.Online = false
is_of_peer peer (Command-F.Layers other) = other == peer
is_of_peer peer (Command-F.Flat other) = other == peer
is_of_peer peer (Command-F.Gone other) = other == peer

-- the queue without the commands of a client
abbrev pub without_peer : ℕ → List Job → List Job
without_peer peer jobs = filter (λ job. not (is_of_peer peer (out-Command job.command))) jobs
