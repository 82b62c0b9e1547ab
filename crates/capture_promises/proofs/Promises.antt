-- The promises of specs/Promises.
use Prim.Native.Nat.{ℕ, zero, suc, ◌+◌, ◌<◌, ◌≤◌}
use mathlib.Core.Path.{◌≡◌, refl, sym, ap, ap₂, ◌∙◌}
use mathlib.Core.Bool.{Bool, true, false, cond, ◌||◌}
use mathlib.Core.List.{List, [], ◌∷◌, ◌++◌}
use native.Mathlib.Omega.{arith}
use Rattle.bits.specs.Bits.{bit, some}
use Rattle.bits.proofs.Some.{some_of}
use Rattle.device.specs.declared.Device.{Device}
use Rattle.device.specs.declared.Stepped.{Stepped}
use Rattle.device.specs.Step.{step_of}
use Rattle.steps.specs.declared.Step.TheVariants.{Input}
use Rattle.capture_tokens.specs.Tokens.{Token, words, placed}
use Rattle.capture_ids.specs.Ids.{Variable, header_of, look_of}
use Rattle.capture_ids.proofs.Bools.{never}
use Rattle.capture_commands.specs.declared.Event.{Event}
use Rattle.capture_commands.specs.declared.Event.TheVariants.{Nothing, Mark, Change}
use Rattle.std.specs.Prelude.{Some, None, Result, Ok, Err, ⊤}
use Rattle.capture_commands.specs.declared.Fault.{Fault}
use Rattle.capture_commands.specs.declared.Fault.TheVariants.{BadText, EarlierTime, NoRoom}
use Rattle.capture_commands.specs.Commands.{fault_number, outcome_number, judged, state_start, state_from, events_from, accepted}
use Rattle.capture_dump.specs.Dump.{opening, end_text}
use Rattle.capture_run.specs.Run.{step_one, driven_from, begin_of, acted_of, last_of, dump_from}
use Rattle.capture_times.specs.Times.{times_start}
use Rattle.capture.specs.Replay.{says, events_of, text_outcome, dump_of, device_of, outcome_of, answer_of, replay_of, buffer_of}
use Rattle.capture_promises.specs.Promises.{RefusedReplay, changes, QuietReplay, Wiring, nowhere, inputs0to3, shown_from, wired_of, DumpAccepted, DumpLines, DumpWired, DumpAgain}
use Rattle.capture_promises.proofs.Lines.{Wires}
use Rattle.capture_promises.proofs.Marks.{events_fit}
use Rattle.capture_promises.proofs.Dumps.{ReadBack, read_back}
use Rattle.capture_promises.proofs.Again.{begin_ipi, again}
use Rattle.capture_promises.proofs.Openings.{Heads, variables, dump_heads, wired_heads, dump_wires, wired_wires}

-- ---- refused replays

numbers : (o : Result ⊤ Fault) → accepted o ≡ false → (10 ≤ outcome_number o) × (outcome_number o ≤ 12)
unfolding accepted outcome_number fault_number
numbers (Ok u) e = absurd (never (sym e))
numbers (Err BadText) e = (omega arith, omega arith)
numbers (Err EarlierTime) e = (omega arith, omega arith)
numbers (Err NoRoom) e = (omega arith, omega arith)

pub refused_replay : RefusedReplay
unfolding replay_of buffer_of answer_of
refused_replay d s out used e =
    let n = numbers (outcome_of s out used d) e in
    record { from_10 = n.0; to_12 = n.1; device = rw e; length = rw e; buffer = rw e }

-- ---- captures in which no input changes

neither : (a b : Bool) → (a || b) ≡ false → (a ≡ false) × (b ≡ false)
neither true b e = absurd (never (sym e))
neither false b e = (refl, e)

none_of : (k : ℕ) (f : ℕ → Bool) → some k f ≡ false → (i : ℕ) → i < k → f i ≡ false
none_of k f e i h = by (f i) refl
  where
    by : (t : Bool) → f i ≡ t → t ≡ false
    by true x = absurd (never (sym e ∙ some_of k f i h x))
    by false x = refl

-- No input is driven.
driven_none : (n i : ℕ) (f : ℕ → Bool) (level : Bool) (now : Stepped) → i + n ≤ 64 → ((j : ℕ) → j < 64 → f j ≡ false) → driven_from i n f level now ≡ now
unfolding driven_from step_one
driven_none zero i f level now h z = refl
driven_none (suc n) i f level now h z =
    ap (λ (t : Bool). driven_from (suc i) n f level (cond t (step_of now.device (Input i level)) now)) (z i (omega arith))
    ∙ driven_none n (suc i) f level now (omega arith) z

quiet : (es : List Event) (now : Stepped) → changes es ≡ false → last_of es now ≡ now
unfolding changes last_of acted_of
quiet [] now e = refl
quiet (Nothing ∷ es) now e = quiet es now e
quiet (Mark n ∷ es) now e = quiet es now e
quiet (Change inputs level ∷ es) now e =
    let n = neither (some 64 (bit inputs)) (changes es) e in
    ap (last_of es) (driven_none 64 0 (bit inputs) level now (omega arith) (none_of 64 (bit inputs) n.0)) ∙ quiet es now n.1

pub quiet_replay : QuietReplay
unfolding device_of
quiet_replay d s e = ap (λ (k : Stepped). k.device) (quiet (events_of s) (begin_of d) e)

-- ---- the dump, read back

module _ (s : List ℕ) (vs : List Variable) (w : Wiring) (l : Wires (look_of vs) w) (from : List ℕ) (d : Device) (n : ℕ) where
  abbrev body : List ℕ
  body = dump_from (events_of from) times_start (begin_of d)

  module _ (h : Heads s vs (placed n (words body))) where
    back : ReadBack w l None 0 n body (shown_from w (events_of from) times_start (begin_of d))
    back = read_back w l (events_of from) (events_fit (says from) state_start (header_of from).rest) times_start (begin_of d) 0 n (record { below = tt; fits = tt })

    pub text_accepted : text_outcome s ≡ Ok tt
    unfolding text_outcome judged
    text_accepted =
        ap (λ (t : Bool). cond t (judged (state_from (says s) state_start (header_of s).rest).mode) (Err BadText)) h.whole
        ∙ ap₂ (λ (v : List Variable) (ts : List Token). judged (state_from (look_of v) state_start ts).mode) h.variables h.rest
        ∙ ap judged back.mode

    pub text_events : events_of s ≡ shown_from w (events_of from) times_start (begin_of d)
    text_events = ap₂ (λ (v : List Variable) (ts : List Token). events_from (look_of v) state_start ts) h.variables h.rest ∙ back.events

pub dump_accepted : DumpAccepted
unfolding dump_of
dump_accepted d s = text_accepted (dump_of s d) (variables None None None None) nowhere dump_wires s d 115 (dump_heads (events_of s) times_start (begin_of d))

pub dump_lines : DumpLines
unfolding dump_of
dump_lines d s = text_events (dump_of s d) (variables None None None None) nowhere dump_wires s d 115 (dump_heads (events_of s) times_start (begin_of d))

pub dump_wired : DumpWired
unfolding wired_of
dump_wired d s =
    let h = wired_heads (events_of s) times_start (begin_of d) in
    record {
      accepted = text_accepted (wired_of s d) (variables (Some 0) (Some 1) (Some 2) (Some 3)) inputs0to3 wired_wires s d 113 h;
      lines = text_events (wired_of s d) (variables (Some 0) (Some 1) (Some 2) (Some 3)) inputs0to3 wired_wires s d 113 h;
    }

-- ---- the dump, dumped again

pub dump_again : DumpAgain
unfolding dump_of last_of end_text
dump_again d e s f =
    ap (λ (es : List Event). opening ++ dump_from es times_start (begin_of e)) (dump_wired d s).lines
    ∙ ap (λ (l : List ℕ). opening ++ l)
    (again e f (events_of s) times_start (begin_of d) times_start [] (begin_ipi d) refl)
