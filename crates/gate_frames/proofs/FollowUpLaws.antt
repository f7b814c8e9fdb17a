-- The member `then` of a frame, as it is looked up.
use Rattle.std.proofs.Common.{◌≡◌, ℕ, ◌+◌, ◌<◌, ◌≤◌, if◌then◌else◌, List, [], ◌∷◌, ◌++◌, codes, length, get_or, drop, Option, Some, None, Ok, Err, Ordering, Less, Equal, Greater, nat_cmp, is_eq, bytes_eq, refl, sym, ap, ◌∙◌, append_assoc, append-nil}
use Rattle.std.proofs.lemmas.List.{drop_more, drop_all}
use Rattle.std.proofs.lemmas.Map.Text.{is_eq-slice_cmp}
use Rattle.std.specs.Cmp.Lexicographic.{slice_cmp}
use Rattle.std.specs.Ordering.{match_ordering}
use Rattle.serde_json.specs.Data.{Data, null, boolean, number, string, array, object, Members, no_members, member}
use Rattle.serde_json.specs.Find.{get, get_member}
use Rattle.serde_json.specs.View.{view, items_view}
use Rattle.serde_json.specs.declared.value.Value as json
use Rattle.machine_model.specs.declared.command.Command.{Command}
use Rattle.gate_frames.specs.declared.unread.Unread.{Unread}
use Rattle.gate_frames.specs.declared.unread.Unread.TheVariants.{Memory, NotWhole}
use Rattle.gate_frames.specs.Unread.{TellsPath}
use Rattle.gate_frames.specs.Members.{absent_or}
use Rattle.gate_frames.specs.Dispatches.{Read, kind_of, follow_ups_fit, member_fits, list_fits, follow_ups_read, member_read, list_read, all_read, follow_up_read, one_more}

-- what a look-up gives of the first member decides, or else the others do
found : {X : Type 0} (f : Option Data → X) (o : Ordering) (d : Data) (rest : Option Data) (x : X) → x ≡ f rest → (if is_eq o then f (Some d) else x) ≡ f (match_ordering o rest (Some d) rest)
found f Less d rest x e = e
found f Equal d rest x e = refl
found f Greater d rest x e = e

named : {X : Type 0} (f : Option Data → X) (name : List ℕ) (d : Data) (ms : Members) (x : X) → x ≡ f (get_member (codes "then") ms) → (if bytes_eq (codes "then") name then f (Some d) else x) ≡ f (get_member (codes "then") (member name d ms))
named {X} f name d ms x e =
    ap (λ b. if b then f (Some d) else x) (sym (is_eq-slice_cmp (codes "then") name))
    ∙ found f (slice_cmp nat_cmp (codes "then") name) d (get_member (codes "then") ms) x e

fits_in : (ms : Members) → member_fits ms ≡ absent_or list_fits (get_member (codes "then") ms)
fits_in no_members = refl
fits_in (member name d ms) = named (absent_or list_fits) name d ms (member_fits ms) (fits_in ms)

-- whether the member `then` has its form
pub fits_at_then : (frame : Data) → follow_ups_fit frame ≡ absent_or list_fits (get (codes "then") frame)
fits_at_then null = refl
fits_at_then (boolean b) = refl
fits_at_then (number n) = refl
fits_at_then (string s) = refl
fits_at_then (array ds) = refl
fits_at_then (object ms) = fits_in ms

abbrev pub list_if_any : ℕ → ℕ → Option Data → Read (List Command)
list_if_any peer line None = Ok []
list_if_any peer line (Some list) = list_read peer line list

reads_in : (peer line : ℕ) (ms : Members) → member_read peer line ms ≡ list_if_any peer line (get_member (codes "then") ms)
reads_in peer line no_members = refl
reads_in peer line (member name d ms) = named (list_if_any peer line) name d ms (member_read peer line ms) (reads_in peer line ms)

-- what the member `then` is read as
pub reads_at_then : (peer line : ℕ) (frame : Data) → follow_ups_read peer line frame ≡ list_if_any peer line (get (codes "then") frame)
reads_at_then peer line null = refl
reads_at_then peer line (boolean b) = refl
reads_at_then peer line (number n) = refl
reads_at_then peer line (string s) = refl
reads_at_then peer line (array ds) = refl
reads_at_then peer line (object ms) = reads_in peer line ms

-- the commands that were read, with what is read of the rest behind them
abbrev pub behind : List Command → Read (List Command) → Read (List Command)
behind done (Ok commands) = Ok (done ++ commands)
behind done (Err path) = Err path

behind-one : (done : List Command) (at : ℕ) (command : Command) (rest : Read (List Command)) → behind done (one_more at (Ok command) rest) ≡ behind (done ++ command ∷ []) rest
behind-one done at command (Ok commands) = ap Ok (sym (append_assoc done (command ∷ []) commands))
behind-one done at command (Err path) = refl

abbrev pub entry_read : ℕ → ℕ → Data → Read Command
entry_read peer line frame = follow_up_read peer line frame (follow_ups_read peer line frame) (kind_of frame)

-- what is read of the rest, by its first frame
pub rest_read : (peer line i : ℕ) (frames : List json.Value) (frame : json.Value) (done : List Command) → i < length frames → frame ≡ get_or frames i frame
    → behind done (all_read peer line i (items_view (drop i frames))) ≡ behind done (one_more i (entry_read peer line (view frame)) (all_read peer line (i + 1) (items_view (drop (i + 1) frames))))
rest_read peer line i frames frame done h at =
    let rest = all_read peer line (i + 1) (items_view (drop (i + 1) frames)) in
    ap (λ xs. behind done (all_read peer line i (items_view xs))) (drop_more frames i frame h)
    ∙ ap (λ (x : json.Value). behind done (one_more i (entry_read peer line (view x)) rest)) (sym at)

-- one more command was read
pub behind-more : (peer line i : ℕ) (frames : List json.Value) (frame : json.Value) (done : List Command) (command : Command) → i < length frames → frame ≡ get_or frames i frame
    → entry_read peer line (view frame) ≡ Ok command
    → behind done (all_read peer line i (items_view (drop i frames))) ≡ behind (done ++ command ∷ []) (all_read peer line (i + 1) (items_view (drop (i + 1) frames)))
behind-more peer line i frames frame done command h at is =
    let rest = all_read peer line (i + 1) (items_view (drop (i + 1) frames)) in
    rest_read peer line i frames frame done h at
    ∙ ap (λ read. behind done (one_more i read rest)) is
    ∙ behind-one done i command rest

-- a path that is told of the rest is told of all
pub told_behind : (done : List Command) (read : Read (List Command)) (unread : Unread) → TellsPath read unread → TellsPath (behind done read) unread
told_behind done read Memory told = tt
told_behind done read (NotWhole path) told = ap (behind done) told

-- no frame is left
pub all_behind : (peer line i : ℕ) (frames : List json.Value) (done : List Command) → length frames ≤ i → behind done (all_read peer line i (items_view (drop i frames))) ≡ Ok done
all_behind peer line i frames done h =
    ap (λ xs. behind done (all_read peer line i (items_view xs))) (drop_all i frames h)
    ∙ ap Ok (append-nil done)
