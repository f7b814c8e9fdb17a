-- Commands with what is given out by each.
use Rattle.std.specs.Prelude.{◌≡◌, ℕ, ◌+◌, Bool, false, List, [], ◌∷◌, codes, None}
use Rattle.gql_value.specs.declared.value.Value.{Value}
use Rattle.gql_value.specs.declared.outcome.Fault.{Fault}
use Rattle.gql_value.specs.declared.outcome.Outcome.TheVariants.{Body, Bad}
use Rattle.send_rules.specs.declared.policy.Policy.{Policy}
use Rattle.send_rules.specs.declared.policy.Policy.TheVariants.{CacheFirst}
use Rattle.queue_model.specs.Queue.{MutationQueue, empty_queue}
use Rattle.machine_model.specs.declared.command.Command.{Command}
use Rattle.machine_model.specs.declared.command.Command.TheOpen.{Command-F}
use Rattle.machine_model.specs.declared.command.Command.TheViews.{roll-Command, roll-Dispatch}
use Rattle.machine_model.specs.declared.output.Out.{Out}
use Rattle.machine_model.specs.declared.output.Out.TheVariants as out
use Rattle.machine_model.specs.declared.output.Refusal.{Refusal}
use Rattle.machine_model.specs.State.{GatewayState, first_state}
use Rattle.machine_model.specs.Steps.{Step}
use Rattle.machine_model.specs.Telling.{no_errors}
use Rattle.machine_model.specs.Runs.{IsRun}
use Rattle.machine_rows.specs.Operations.{Operation, kind_of, sent_text}
use Rattle.machine_rows.specs.Meanings.{Rules, meaning}

-- a command, which waits for the number of its line, and all that its run gives out, in order
pub record Exchange : Type 0 where
  pub command : ℕ → Command
  pub outs : List Out

-- this command gives out exactly these
abbrev pub gives : (ℕ → Command) → List Out → Exchange
gives command outs = record { command = command; outs = outs }

-- these commands follow one another from a state on, each of their runs gives out exactly this, and at last the queue of mutations is this one
abbrev pub Follow : Rules → ℕ → List Exchange → MutationQueue → GatewayState Operation → Type 0
Follow rules line [] queue state = state.rows ≡ queue
Follow rules line (exchange ∷ exchanges) queue state =
    (step : Step Operation) × IsRun (meaning rules) (exchange.command line) state step
    × (step.outs ≡ exchange.outs) × Follow rules (line + 1) exchanges queue step.state

-- a queue without rows and with ample room
abbrev pub no_rows : MutationQueue
no_rows = empty_queue 1000000

-- they follow one another from the first line of input on, and nothing is queued before or after them
abbrev pub Dialog : Rules → List Exchange → Type 0
Dialog rules exchanges = Follow rules 1 exchanges no_rows (first_state no_rows)

-- ---- commands of one client

-- the number of the one client's connection
abbrev pub client : ℕ
client = 1

-- a dispatch of a document under this id and policy, with the commands that follow its first reply or fault
abbrev pub dispatch_then : ℕ → List ℕ → Policy → List Command → ℕ → Command
dispatch_then id document policy commands line =
    roll-Command
    (Command-F.Dispatch
    (roll-Dispatch
    (record {
      peer = client;
      id = id;
      line = line;
      query = document;
      operation = None;
      variables = [];
      policy = policy;
      then = commands;
    })))

-- a dispatch under a policy, which nothing follows
abbrev pub dispatch_under : Policy → ℕ → List ℕ → ℕ → Command
dispatch_under policy id document = dispatch_then id document policy []

-- a dispatch under cache-first, which nothing follows
abbrev pub dispatch : ℕ → List ℕ → ℕ → Command
dispatch = dispatch_under CacheFirst

-- the client drops the operation of this id
abbrev pub teardown : ℕ → ℕ → Command
teardown id line = roll-Command (Command-F.Teardown client id line)

-- an answer without errors
abbrev pub answer : ℕ → Value → ℕ → Command
answer fetch value line = roll-Command (Command-F.Respond client fetch line (Body value no_errors))

-- a fault in place of the answer to a fetch
abbrev pub failure : ℕ → Fault → ℕ → Command
failure fetch fault line = roll-Command (Command-F.Respond client fetch line (Bad fault))

-- the origin can be reached again
abbrev pub online : ℕ → Command
online line = roll-Command Command-F.Online

-- the client asks which tickets are squashed and which are kept
abbrev pub layers : ℕ → Command
layers line = roll-Command (Command-F.Layers client)

-- the client asks for all cells of the cache
abbrev pub flat : ℕ → Command
flat line = roll-Command (Command-F.Flat client)

-- ---- what is given out

-- a reply, by whether it is partial and whether it is stale
abbrev pub told : ℕ → Value → Bool → Bool → Out
told id value partial stale = out.Reply client id value no_errors partial stale

-- a whole reply that isn't stale
abbrev pub reply : ℕ → Value → Out
reply id value = told id value false false

-- the operation is sent to the origin under this number
abbrev pub fetch : ℕ → Operation → Out
fetch number operation = out.Fetch number (kind_of operation) (sent_text operation) None (codes "{}")

-- the command of this line is refused
abbrev pub refused : ℕ → Refusal → Out
refused line refusal = out.Refused client line refusal

-- the answer to `layers`: how many tickets are squashed, and those that are kept
abbrev pub kept : ℕ → List ℕ → Out
kept base tickets = out.Layers client base tickets
