-- A run between two reads, and what it took and wrote where it stops.
use Rattle.std.proofs.Common.{◌≡◌, ℕ, ◌+◌, ◌-◌, ◌≤◌, min, List, [], ◌++◌, length, take, drop, Option, sym, ap, subst, ◌∙◌, append_assoc, append-nil, arith, length-append, length-take}
use Rattle.std.proofs.lemmas.List.{take_all, take_min, take-append-drop, take-take}
use Rattle.std.proofs.Math.Seq.{take-append_seam}
use Rattle.std.specs.Io.KnownBytes.{Appends, Consumes, Keeps}
use Rattle.std.proofs.KnownBytes.{Appends-trans, Consumes-trans, Consumes-kept}
use Rattle.judged_dispatch.specs.declared.service.Service.{Service}
use Rattle.gate_machine.specs.Runs.{run_text}
use Rattle.gateway.specs.Lines.{whole_lines_of, whole_lines_text, first_lines_text, full_text}
use Rattle.gateway.specs.Progress.{Progress, start, line_here, text_after, progress_after}
use Rattle.gateway.specs.Run.{Takes, WritesFront, WroteSome, Ran, RanFront}
use Rattle.gateway.proofs.Fronts.{WritesFront-all, WritesFront-more, WritesFront-after}
use Rattle.gateway.proofs.Steps.{text_after-append}
use Rattle.gateway.proofs.Law.{text_after-whole, text_after-all, text_after-first, full_text-front, full_text-fits}

-- these bytes were taken so far, and all their whole lines were run
pub record Reading {S K : Type 0} (service : Service) (left : S → Option (List ℕ)) (given : S → ℕ) (held : K → Option (List ℕ)) (input0 input : S) (out0 out : K) (lines : Progress) (taken : ℕ) : Type 0 where
  pub bytes : List ℕ
  pub took : Takes left given input0 input bytes
  pub count : length bytes ≡ taken
  pub written : Appends (held out0) (held out) (text_after (start service) bytes)
  pub stands : lines ≡ progress_after (start service) bytes

-- bytes were taken, and these of them lie within the limit
pub record TakesWithin {S : Type 0} (left : S → Option (List ℕ)) (given : S → ℕ) (old new : S) (limit : ℕ) (run : List ℕ) : Type 0 where
  pub taken : List ℕ
  pub took : Takes left given old new taken
  pub past : List ℕ
  pub parts : taken ≡ run ++ past
  pub within : take limit taken ≡ run

-- what lies within the limit of more bytes
take_within : (limit : ℕ) (run past : List ℕ) → length run ≡ min limit (length (run ++ past)) → take limit (run ++ past) ≡ run
take_within limit run past count = sym (take_min limit (run ++ past)) ∙ ap (λ n. take n (run ++ past)) (sym count) ∙ take-append_seam run past

module _ {S : Type 0} (left : S → Option (List ℕ)) (given : S → ℕ) (a b c : S) (bytes : List ℕ) (took : Takes left given a b bytes) where
  pub Takes-kept : Keeps (left b) (left c) → given c ≡ given b → Takes left given a c bytes
  Takes-kept kept same = record { read = Consumes-kept _ _ _ bytes took.read kept; counted = same ∙ took.counted }

  pub Takes-more : (chunk : List ℕ) → Consumes (left b) (left c) chunk → given c ≡ given b + length chunk → Takes left given a c (bytes ++ chunk)
  Takes-more chunk read counted = record { read = Consumes-trans _ _ _ bytes chunk took.read read; counted = omega (arith, took.counted, length-append bytes chunk) }

  pub Takes-none : (count : ℕ) (buffer : List ℕ) → count ≡ 0 → Consumes (left b) (left c) (take count buffer) → given c ≡ given b + count → Takes left given a c bytes
  Takes-none count buffer none read counted =
      subst (Takes left given a c) (append-nil bytes)
      (Takes-more [] (subst (λ n. Consumes (left b) (left c) (take n buffer)) none read) (omega arith))

  -- a read gave bytes of its buffer, of which so many are within the limit
  module _ (limit count within : ℕ) (buffer : List ℕ) (room : length bytes ≤ limit) (cut : within ≡ min count (limit - length bytes)) (bound : count ≡ length (take count buffer)) where
    pub Takes-chunk : Consumes (left b) (left c) (take count buffer) → given c ≡ given b + count → TakesWithin left given a c limit (bytes ++ take within buffer)
    Takes-chunk read counted =
        let chunk = take count buffer in
        let past = drop within chunk in
        let split : chunk ≡ take within buffer ++ past = sym (take-append-drop within chunk) ∙ ap (λ z. z ++ past) (take-take within count buffer (omega arith)) in
        let seen = bytes ++ take within buffer in
        let whole : bytes ++ chunk ≡ seen ++ past = ap (λ z. bytes ++ z) split ∙ sym (append_assoc bytes (take within buffer) past) in record {
          taken = bytes ++ chunk;
          took = Takes-more chunk read (counted ∙ ap (λ n. given b + n) bound);
          past = past;
          parts = whole;
          within = rw whole (take_within limit seen past (omega (arith, length-append bytes (take within buffer), length-take within buffer, length-take count buffer, ap length whole, length-append bytes chunk)));
        }

pub Takes-all : {S : Type 0} (left : S → Option (List ℕ)) (given : S → ℕ) (a b : S) (limit : ℕ) (bytes : List ℕ) → Takes left given a b bytes → length bytes ≤ limit → TakesWithin left given a b limit bytes
Takes-all left given a b limit bytes took fits = record { taken = bytes; took = took; past = []; parts = sym (append-nil bytes); within = take_all limit bytes fits }

-- the text behind what was written before
module _ (service : Service) (a b c : Option (List ℕ)) (bytes : List ℕ) (before : Appends a b (text_after (start service) bytes)) where
  pub Appends-behind : (seen : List ℕ) → Appends b c (text_after (progress_after (start service) bytes) seen) → Appends a c (text_after (start service) (bytes ++ seen))
  Appends-behind seen h = rw (text_after-append (start service) bytes seen) (Appends-trans _ _ _ _ _ before h)

  pub WritesFront-behind : (seen : List ℕ) → WritesFront b c (text_after (progress_after (start service) bytes) seen) → WritesFront a c (text_after (start service) (bytes ++ seen))
  WritesFront-behind seen h = rw (text_after-append (start service) bytes seen) (WritesFront-after a b c _ _ before h)

  pub WroteSome-behind : (seen : List ℕ) → WroteSome b c (text_after (progress_after (start service) bytes)) seen → WroteSome a c (text_after (start service)) (bytes ++ seen)
  WroteSome-behind seen h = record {
    run = bytes ++ h.run;
    left = h.left;
    parts = ap (λ z. bytes ++ z) h.parts ∙ sym (append_assoc bytes h.run h.left);
    written = Appends-behind h.run h.written;
  }

  pub WroteSome-none : b ≡ c → WroteSome a c (text_after (start service)) bytes
  WroteSome-none same = record { run = bytes; left = []; parts = sym (append-nil bytes); written = subst (λ z. Appends a z (text_after (start service) bytes)) same before }

  pub WritesFront-last : WritesFront b c (line_here (progress_after (start service) bytes)).text → WritesFront a c (run_text service bytes)
  WritesFront-last h = rw (← text_after-all service bytes) (WritesFront-after a b c _ _ before h)

  pub Appends-last : Appends b c (line_here (progress_after (start service) bytes)).text → Appends a c (run_text service bytes)
  Appends-last h = rw (← text_after-all service bytes) (Appends-trans _ _ _ _ _ before h)

pub Appends-whole : (service : Service) (a b : Option (List ℕ)) (bytes : List ℕ) → Appends a b (text_after (start service) bytes) → Appends a b (whole_lines_text service bytes)
Appends-whole service a b bytes h = subst (Appends a b) (text_after-whole service bytes) h

-- a front of the bytes was run
pub WroteSome-front : {service : Service} (a b : Option (List ℕ)) (bytes : List ℕ) → WroteSome a b (text_after (start service)) bytes → WritesFront a b (text_after (start service) bytes)
WroteSome-front {service = service} a b bytes h = rw (h.parts, text_after-append (start service) h.run h.left) (WritesFront-more a b _ _ (WritesFront-all a b _ h.written))

-- the run stops
module _ {S K : Type 0} (service : Service) (left : S → Option (List ℕ)) (given : S → ℕ) (held : K → Option (List ℕ)) (input input_new : S) (out out_new : K) (limit : ℕ) where
  -- with the last line
  pub RanFront-last : (bytes : List ℕ) → Takes left given input input_new bytes → length bytes ≤ limit → WritesFront (held out) (held out_new) (run_text service bytes) → RanFront left given input input_new held out out_new (full_text service limit)
  RanFront-last bytes took fits h = record { taken = bytes; took = took; written = rw (full_text-fits service limit bytes fits) h }

  -- before it, where these bytes lie within the limit
  module _ (run : List ℕ) (t : TakesWithin left given input input_new limit run) where
    pub RanFront-within : WritesFront (held out) (held out_new) (text_after (start service) run) → RanFront left given input input_new held out out_new (full_text service limit)
    RanFront-within h =
        let front = full_text-front service limit run t.past (ap (take limit) (sym t.parts) ∙ t.within) in record {
          taken = t.taken;
          took = t.took;
          written = rw (t.parts, front.1) (WritesFront-more _ _ _ _ h);
        }

    pub Ran-first : WroteSome (held out) (held out_new) (text_after (start service)) run → (count : ℕ) × Ran left given input input_new held out out_new (first_lines_text service limit count)
    Ran-first h = (
      length (whole_lines_of h.run),
      record { taken = t.taken; took = t.took; written = rw (← text_after-first service limit t.taken h.run h.left (t.within ∙ h.parts)) h.written },
    )

    pub Ran-within : Appends (held out) (held out_new) (text_after (start service) run) → Ran left given input input_new held out out_new (λ bytes. whole_lines_text service (take limit bytes))
    Ran-within h = record { taken = t.taken; took = t.took; written = rw t.within (Appends-whole service _ _ run h) }
