-- An id that several inputs have changes them lowest number first (01, "Capture text"). The order does not matter: all of them go to one level.
--   input_step       one input step                   chosen_from   the inputs that are chosen, lowest number first
--   InputsCommute   two of them to one level         AnyOrder     any order of the inputs that a word names
use Rattle.std.specs.Prelude.{ℕ, zero, suc, ◌<◌, ◌≡◌, Bool, cond, List, [], ◌∷◌}
use Rattle.bits.specs.Bits.{bit}
use Rattle.order.specs.Order.{Order, run}
use Rattle.device.specs.declared.Stepped.{Stepped}
use Rattle.device.specs.Step.{step_of}
use Rattle.steps.specs.declared.Step.TheVariants.{Input}
use Rattle.capture_run.specs.Run.{driven_of}

abbrev pub input_step : Bool → ℕ → Stepped → Stepped
input_step level i now = step_of now.device (Input i level)

-- Two inputs that are taken to one level, one after the other, leave the same device with the same answer in either order.
abbrev pub InputsCommute : Type 0
InputsCommute = (level : Bool) (i j : ℕ) → i < 64 → j < 64 → (now : Stepped) → input_step level j (input_step level i now) ≡ input_step level i (input_step level j now)

-- Of the n inputs from i on those that are chosen, lowest number first.
unfoldable pub chosen_from : ℕ → ℕ → (ℕ → Bool) → List ℕ
chosen_from i zero chosen = []
chosen_from i (suc n) chosen = cond (chosen i) (i ∷ chosen_from (suc i) n chosen) (chosen_from (suc i) n chosen)

-- The inputs whose bit is set, taken to a level in whatever order.
abbrev pub AnyOrder : Type 0
AnyOrder = (inputs : ℕ) (level : Bool) (now : Stepped) (order : List ℕ) → Order (chosen_from 0 64 (bit inputs)) order → driven_of inputs level now ≡ run (input_step level) order now
