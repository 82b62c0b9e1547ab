-- A capture run on a device (01, "Capture text"; R40 of docs/DECISIONS.md): each change is an input step, and each time that ends may be dumped.
--   driven_of   inputs taken to a level, lowest number first     begin_of    all inputs taken to 0
--   acted_of    the device after what a token calls for          lines_of    the four base lines
--   last_of     the device after all of it                       dump_from   the dump from a device and a time on
use Rattle.std.specs.Prelude.{ℕ, zero, suc, Bool, false, cond, List, [], ◌∷◌, ◌++◌, Option, Ok}
use Rattle.bits.specs.Bits.{bit}
use Rattle.device.specs.declared.Device.{Device}
use Rattle.device.specs.declared.Stepped.{Stepped}
use Rattle.device.specs.Device.{answered_of}
use Rattle.device.specs.Step.{step_of}
use Rattle.steps.specs.declared.Step.TheVariants.{Input}
use Rattle.capture_commands.specs.declared.Event.{Event}
use Rattle.capture_commands.specs.declared.Event.TheVariants.{Nothing, Mark, Change}
use Rattle.capture_dump.specs.declared.Lines.{Lines}
use Rattle.capture_dump.specs.Dump.{end_text}
use Rattle.capture_dump.specs.declared.Time.{Time}
use Rattle.capture_times.specs.Times.{ended_of, times_of}

-- ---- input steps

-- One input step, where the input is among those that change.
unfoldable pub step_one : Bool → ℕ → Bool → Stepped → Stepped
step_one on i level now = cond on (step_of now.device (Input i level)) now

-- Of the n inputs from i on those that are chosen, lowest number first.
unfoldable pub driven_from : ℕ → ℕ → (ℕ → Bool) → Bool → Stepped → Stepped
driven_from i zero chosen level now = now
driven_from i (suc n) chosen level now = driven_from (suc i) n chosen level (step_one (chosen i) i level now)

-- The inputs whose bit is set. Any other order of them ends alike (Order.antt).
abbrev pub driven_of : ℕ → Bool → Stepped → Stepped
driven_of inputs level now = driven_from 0 64 (bit inputs) level now

-- Before the file each of in0 to in63 is taken to 0 by an input change, declared or not.
abbrev pub begin_of : Device → Stepped
begin_of d = driven_of 0xffffffffffffffff false (answered_of d (Ok 0) 0)

-- ---- what a token calls for

unfoldable pub acted_of : Event → Stepped → Stepped
acted_of Nothing now = now
acted_of (Mark n) now = now
acted_of (Change inputs level) now = driven_of inputs level now

abbrev pub lines_of : Stepped → Lines
lines_of now = record { ipi0 = now.answer.ipi0; ipi1 = now.answer.ipi1; br0 = now.answer.bridge0; br1 = now.answer.bridge1 }

-- ---- all of it

unfoldable pub last_of : List Event → Stepped → Stepped
last_of [] now = now
last_of (e ∷ es) now = last_of es (acted_of e now)

-- The end of the file ends the last time.
unfoldable pub dump_from : List Event → Option Time → Stepped → List ℕ
dump_from [] t now = end_text t (lines_of now)
dump_from (e ∷ es) t now = end_text (ended_of t e) (lines_of now) ++ dump_from es (times_of t (lines_of now) e) (acted_of e now)
