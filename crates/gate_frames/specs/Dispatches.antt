-- What a dispatch asks for, with the frames that follow it.
use Rattle.std.specs.Prelude.{ℕ, ◌+◌, Bool, true, false, ◌&&◌, if◌then◌else◌, List, [], ◌∷◌, ◌++◌, codes, bytes_eq, decimal, Option, Some, None, is_some, is_none, option_and_then, unwrap_or, Result}
use Rattle.std.specs.declared.result.Result.TheVariants.{Ok, Err}
use Rattle.serde_json.specs.Data.{Data, null, boolean, number, string, array, object, Items, no_items, item, Members, no_members, member}
use Rattle.serde_json.specs.Find.{get}
use Rattle.gql_value.specs.Json.{not_whole, dotted}
use Rattle.gql_value.specs.Values.{Pairs, pairs_in}
use Rattle.gql_value.specs.Members.{number_in, text_in}
use Rattle.send_rules.specs.declared.policy.Policy.TheVariants.{CacheFirst}
use Rattle.machine_model.specs.declared.command.Command.{Command}
use Rattle.machine_model.specs.declared.command.Command.TheVariants as command
use Rattle.machine_model.specs.declared.command.Dispatch.{Dispatch, roll-Dispatch}
use Rattle.gate_frames.specs.declared.kind.FrameKind.{FrameKind}
use Rattle.gate_frames.specs.declared.kind.FrameKind.TheVariants as kind
use Rattle.gate_frames.specs.Members.{is_text_or_null, is_object_or_null, absent_or, policy_of, first_misfit}

-- the kind of frame that the member `do` names
abbrev pub kind_named : List ℕ → Option FrameKind
kind_named word =
    if bytes_eq word (codes "dispatch") then Some kind.Dispatch else (
    if bytes_eq word (codes "teardown") then Some kind.Teardown else (
    if bytes_eq word (codes "response") then Some kind.Response else (
    if bytes_eq word (codes "failure") then Some kind.Failure else (
    if bytes_eq word (codes "online") then Some kind.Online else (
    if bytes_eq word (codes "layers") then Some kind.Layers else (
    if bytes_eq word (codes "flat") then Some kind.Flat else (
    if bytes_eq word (codes "quit") then Some kind.Quit else None)))))))

-- a value that isn't an object has no member `do`, so it is no frame
abbrev pub kind_of : Data → Option FrameKind
kind_of frame = option_and_then kind_named (text_in (codes "do") frame)

-- the members of a dispatch in the order in which they are tested, where it is known whether its follow-ups have their form
abbrev pub dispatch_misfit_beside : Data → Bool → Option (List ℕ)
dispatch_misfit_beside frame follow_ups_fit =
    first_misfit (
    (codes "id", is_some (number_in (codes "id") frame))
    ∷ (codes "query", is_some (text_in (codes "query") frame))
    ∷ (codes "operationName", absent_or is_text_or_null (get (codes "operationName") frame))
    ∷ (codes "variables", absent_or is_object_or_null (get (codes "variables") frame))
    ∷ (codes "policy", is_some (policy_of (get (codes "policy") frame)))
    ∷ (codes "then", follow_ups_fit)
    ∷ [])

-- what may follow: a dispatch, a teardown or `online`, each with members of the right form
abbrev pub follow_up_fits : Data → Bool → Option FrameKind → Bool
follow_up_fits frame inner_fit None = false
follow_up_fits frame inner_fit (Some kind.Dispatch) = is_none (dispatch_misfit_beside frame inner_fit)
follow_up_fits frame inner_fit (Some kind.Teardown) = is_some (number_in (codes "id") frame)
follow_up_fits frame inner_fit (Some kind.Response) = false
follow_up_fits frame inner_fit (Some kind.Failure) = false
follow_up_fits frame inner_fit (Some kind.Online) = true
follow_up_fits frame inner_fit (Some kind.Layers) = false
follow_up_fits frame inner_fit (Some kind.Flat) = false
follow_up_fits frame inner_fit (Some kind.Quit) = false

-- whether all that follows a frame has its form, with what follows that in turn
abbrev mutual
  -- the member `then` of a frame is absent, or a list of frames that may follow, at every depth
  pub follow_ups_fit : Data → Bool
  follow_ups_fit null = true
  follow_ups_fit (boolean b) = true
  follow_ups_fit (number n) = true
  follow_ups_fit (string s) = true
  follow_ups_fit (array ds) = true
  follow_ups_fit (object ms) = member_fits ms

  -- the member `then` among these, where there is one, is a list of frames that may follow
  pub member_fits : Members → Bool
  member_fits no_members = true
  member_fits (member name d ms) = if bytes_eq (codes "then") name then list_fits d else member_fits ms

  -- an array of frames that may follow; nothing else is such a list
  pub list_fits : Data → Bool
  list_fits null = false
  list_fits (boolean b) = false
  list_fits (number n) = false
  list_fits (string s) = false
  list_fits (array ds) = all_fit ds
  list_fits (object ms) = false

  -- each of these frames may follow, and so may those that follow it in turn
  pub all_fit : Items → Bool
  all_fit no_items = true
  all_fit (item d ds) = follow_up_fits d (follow_ups_fit d) (kind_of d) && all_fit ds

-- the first member of a dispatch that is missing or of the wrong form
abbrev pub dispatch_misfit : Data → Option (List ℕ)
dispatch_misfit frame = dispatch_misfit_beside frame (follow_ups_fit frame)

-- what is read of a part of a frame, or the path from the frame to the first number in its variables that isn't whole
abbrev pub Read : Type 0 → Type 0
Read X = Result X (List ℕ)

-- variables whose numbers are whole, where the first other one is given
abbrev pub variables_beside : Data → Option (List (List ℕ)) → Read Pairs
variables_beside variables None = Ok (pairs_in variables)
variables_beside variables (Some steps) = Err (codes "variables." ++ dotted steps)

-- none where the member is absent or null
abbrev pub variables_read : Option Data → Read Pairs
variables_read None = Ok []
variables_read (Some variables) = variables_beside variables (not_whole variables)

-- the dispatch that a frame with members of the right form asks for
abbrev pub dispatch_asked : ℕ → ℕ → Data → Pairs → List Command → Dispatch
dispatch_asked peer line frame variables follow_ups =
    roll-Dispatch (record {
      peer = peer;
      id = unwrap_or (number_in (codes "id") frame) 0;
      line = line;
      query = unwrap_or (text_in (codes "query") frame) [];
      operation = text_in (codes "operationName") frame;
      variables = variables;
      policy = unwrap_or (policy_of (get (codes "policy") frame)) CacheFirst;
      «then» = follow_ups;
    })

-- its own variables are tried before those of what follows
abbrev pub dispatch_beside : ℕ → ℕ → Data → Read Pairs → Read (List Command) → Read Dispatch
dispatch_beside peer line frame (Err path) follow_ups = Err path
dispatch_beside peer line frame (Ok variables) (Err path) = Err path
dispatch_beside peer line frame (Ok variables) (Ok follow_ups) = Ok (dispatch_asked peer line frame variables follow_ups)

-- the command of a dispatch, or the path to the number that isn't whole
abbrev pub as_command : Read Dispatch → Read Command
as_command (Ok dispatch) = Ok (command.Dispatch dispatch)
as_command (Err path) = Err path

-- the command of a frame that may follow; it has the peer and the line of the frame that it follows
abbrev pub follow_up_read : ℕ → ℕ → Data → Read (List Command) → Option FrameKind → Read Command
follow_up_read peer line frame inner None = Ok command.Online
follow_up_read peer line frame inner (Some kind.Dispatch) = as_command (dispatch_beside peer line frame (variables_read (get (codes "variables") frame)) inner)
follow_up_read peer line frame inner (Some kind.Teardown) = Ok (command.Teardown peer (unwrap_or (number_in (codes "id") frame) 0) line)
follow_up_read peer line frame inner (Some kind.Response) = Ok command.Online
follow_up_read peer line frame inner (Some kind.Failure) = Ok command.Online
follow_up_read peer line frame inner (Some kind.Online) = Ok command.Online
follow_up_read peer line frame inner (Some kind.Layers) = Ok command.Online
follow_up_read peer line frame inner (Some kind.Flat) = Ok command.Online
follow_up_read peer line frame inner (Some kind.Quit) = Ok command.Online

-- a command and those behind it, where the first has this index
abbrev pub one_more : ℕ → Read Command → Read (List Command) → Read (List Command)
one_more at (Err path) behind = Err (codes "then." ++ (decimal at ++ (codes "." ++ path)))
one_more at (Ok first) (Err path) = Err path
one_more at (Ok first) (Ok behind) = Ok (first ∷ behind)

-- what follows a frame as commands, with what follows these in turn, or the path to the first number that isn't whole
abbrev mutual
  -- the commands that follow a frame, in order
  pub follow_ups_read : ℕ → ℕ → Data → Read (List Command)
  follow_ups_read peer line null = Ok []
  follow_ups_read peer line (boolean b) = Ok []
  follow_ups_read peer line (number n) = Ok []
  follow_ups_read peer line (string s) = Ok []
  follow_ups_read peer line (array ds) = Ok []
  follow_ups_read peer line (object ms) = member_read peer line ms

  -- the commands of the member `then` among these; none where it is absent
  pub member_read : ℕ → ℕ → Members → Read (List Command)
  member_read peer line no_members = Ok []
  member_read peer line (member name d ms) = if bytes_eq (codes "then") name then list_read peer line d else member_read peer line ms

  -- the commands of the frames in an array; other data, for which the line is refused, has none
  pub list_read : ℕ → ℕ → Data → Read (List Command)
  list_read peer line null = Ok []
  list_read peer line (boolean b) = Ok []
  list_read peer line (number n) = Ok []
  list_read peer line (string s) = Ok []
  list_read peer line (array ds) = all_read peer line 0 ds
  list_read peer line (object ms) = Ok []

  -- the commands of these frames, the first of which has the index `at`
  pub all_read : ℕ → ℕ → ℕ → Items → Read (List Command)
  all_read peer line at no_items = Ok []
  all_read peer line at (item d ds) = one_more at (follow_up_read peer line d (follow_ups_read peer line d) (kind_of d)) (all_read peer line (at + 1) ds)

-- what a frame asks for that is a dispatch with members of the right form
abbrev pub dispatch_read : ℕ → ℕ → Data → Read Dispatch
dispatch_read peer line frame = dispatch_beside peer line frame (variables_read (get (codes "variables") frame)) (follow_ups_read peer line frame)
