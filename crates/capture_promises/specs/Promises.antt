-- What holds of every replay, stated; the proofs are in proofs/Promises.
--   RefusedReplay   a refused replay has its number and leaves everything
--   QuietReplay     a capture in which no input changes moves what taking the 64 inputs to 0 moves, and nothing else
--   DumpAccepted    a dump is itself a capture that is accepted
--   DumpLines       read back, it calls for the lines' own marks and values; DumpWired, where its wires are inputs
--   DumpAgain       there, on a device whose lines follow those inputs, it is dumped again as it is
use Rattle.std.specs.Prelude.{ℕ, ◌≤◌, ◌≡◌, Bool, false, cond, ◌||◌, List, [], ◌∷◌, ◌++◌, Option, Some, None, Ok}
use Rattle.bits.specs.Bits.{bit, some}
use Rattle.text.specs.Ascii.{ascii}
use Rattle.device.specs.declared.Device.{Device}
use Rattle.device.specs.declared.Stepped.{Stepped}
use Rattle.capture_commands.specs.declared.Event.{Event}
use Rattle.capture_commands.specs.declared.Event.TheVariants.{Nothing, Mark, Change}
use Rattle.capture_commands.specs.Commands.{outcome_number, accepted}
use Rattle.capture_dump.specs.declared.Lines.{Lines}
use Rattle.capture_dump.specs.declared.Time.{Time}
use Rattle.capture_dump.specs.Dump.{differs, some_differs}
use Rattle.capture_run.specs.Run.{begin_of, acted_of, lines_of, last_of, dump_from}
use Rattle.capture_times.specs.Times.{ended_of, times_of, times_start}
use Rattle.capture.specs.Replay.{events_of, text_outcome, dump_of, device_of, replay_of, buffer_of}

-- ---- refused replays

-- the number is 10, 11 or 12; device, used length and buffer are as they were
pub record Unmoved (d : Device) (s out : List ℕ) (used : ℕ) : Type 0 where
  pub from_10 : 10 ≤ outcome_number (replay_of d s out used).outcome
  pub to_12 : outcome_number (replay_of d s out used).outcome ≤ 12
  pub device : (replay_of d s out used).device ≡ d
  pub length : (replay_of d s out used).used ≡ used
  pub buffer : buffer_of d s out used ≡ out

abbrev pub RefusedReplay : Type 0
RefusedReplay = (d : Device) (s out : List ℕ) (used : ℕ) → accepted (replay_of d s out used).outcome ≡ false → Unmoved d s out used

-- ---- captures in which no input changes

-- Some change is of an input; those of other wires name none.
unfoldable pub changes : List Event → Bool
changes [] = false
changes (Nothing ∷ es) = changes es
changes (Mark n ∷ es) = changes es
changes (Change inputs level ∷ es) = some 64 (bit inputs) || changes es

abbrev pub QuietReplay : Type 0
QuietReplay = (d : Device) (s : List ℕ) → changes (events_of s) ≡ false → device_of s d ≡ (begin_of d).device

-- ---- the dump, read back

-- The lines ipi0, ipi1, br0 and br1, named as the inputs 0 to 3.
unfoldable pub wires : List ℕ
wires =
    ascii "$var wire 1 a in0 $end\n"
    ++ ascii "$var wire 1 b in1 $end\n"
    ++ ascii "$var wire 1 c in2 $end\n"
    ++ ascii "$var wire 1 d in3 $end\n"
    ++ ascii "$enddefinitions $end\n"

-- The dump with these names in place of its own.
unfoldable pub wired_of : List ℕ → Device → List ℕ
wired_of s d = wires ++ dump_from (events_of s) times_start (begin_of d)

-- The inputs that have each of the four ids, bit i for input i.
pub record Wiring : Type 0 where
  pub a : ℕ
  pub b : ℕ
  pub c : ℕ
  pub d : ℕ

abbrev pub nowhere : Wiring
nowhere = record { a = 0; b = 0; c = 0; d = 0 }

abbrev pub inputs0to3 : Wiring
inputs0to3 = record { a = 1; b = 2; c = 4; d = 8 }

-- What a dump shows, as what it calls for: a change of an input to each value that is shown.
unfoldable pub line_events : Bool → Bool → ℕ → List Event
line_events shows now inputs = cond shows (Change inputs now ∷ []) []

abbrev pub lines_events : Wiring → Bool → Lines → Lines → List Event
lines_events w first before now =
    line_events (differs first before.ipi0 now.ipi0) now.ipi0 w.a
    ++ (line_events (differs first before.ipi1 now.ipi1) now.ipi1 w.b
    ++ (line_events (differs first before.br0 now.br0) now.br0 w.c
    ++ line_events (differs first before.br1 now.br1) now.br1 w.d))

unfoldable pub mark_events : Wiring → Option Time → Lines → List Event
mark_events w None now = []
mark_events w (Some t) now = cond (some_differs t.first t.before now) (Mark t.time ∷ lines_events w t.first t.before now) []

unfoldable pub shown_from : Wiring → List Event → Option Time → Stepped → List Event
shown_from w [] t now = mark_events w t (lines_of now)
shown_from w (e ∷ es) t now = mark_events w (ended_of t e) (lines_of now) ++ shown_from w es (times_of t (lines_of now) e) (acted_of e now)

-- The lines of a replay at the end of each mark, as changes of what they are wired to.
abbrev pub shown_of : Wiring → List ℕ → Device → List Event
shown_of w s d = shown_from w (events_of s) times_start (begin_of d)

abbrev pub DumpAccepted : Type 0
DumpAccepted = (d : Device) (s : List ℕ) → text_outcome (dump_of s d) ≡ Ok tt

abbrev pub DumpLines : Type 0
DumpLines = (d : Device) (s : List ℕ) → events_of (dump_of s d) ≡ shown_of nowhere s d

-- Wired to inputs, its replay is the lines' own.
pub record Wired (d : Device) (s : List ℕ) : Type 0 where
  pub accepted : text_outcome (wired_of s d) ≡ Ok tt
  pub lines : events_of (wired_of s d) ≡ shown_of inputs0to3 s d

abbrev pub DumpWired : Type 0
DumpWired = (d : Device) (s : List ℕ) → Wired d s

-- ---- the dump, dumped again

-- The level of an input after some events: what the last change of it gave, and before that l.
unfoldable pub level_of : ℕ → Bool → List Event → Bool
level_of i l [] = l
level_of i l (Nothing ∷ es) = level_of i l es
level_of i l (Mark n ∷ es) = level_of i l es
level_of i l (Change inputs level ∷ es) = level_of i (cond (bit inputs i) level l) es

abbrev pub lines : Bool → Bool → Bool → Bool → Lines
lines ipi0 ipi1 br0 br1 = record { ipi0 = ipi0; ipi1 = ipi1; br0 = br0; br1 = br1 }

-- A device that is wired so: whatever a capture calls for, line br0 follows input 2 and br1 input 3; the IPI lines, which no input moves, stand at a and b.
abbrev pub Follows : Device → Bool → Bool → Type 0
Follows d a b = (es : List Event) → lines_of (last_of es (begin_of d)) ≡ lines a b (level_of 2 false es) (level_of 3 false es)

-- There the replay of a wired dump is the dump's own lines.
abbrev pub DumpAgain : Type 0
DumpAgain =
    (d e : Device) (s : List ℕ) → Follows e (lines_of (begin_of d)).ipi0 (lines_of (begin_of d)).ipi1 → dump_of (wired_of s d) e ≡ dump_of s d
