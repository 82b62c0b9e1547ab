-- Turns (request Q-6; section 8.1.3 of the manual): what holds of every device and every step, stated; the proofs are in proofs/Turns.
--   TurnBits    what becomes of a turn bit, by the requests before a step and after it     ResetTurns   and at a reset
--   OneWord     a source that alternates shows in one of INTISR_CHIP0 and INTISR_CHIP1, that of the output which its turn bit names
--   OtherWord   and in the other one after its request has fallen and risen again
use Prim.{Unit}
use Rattle.std.specs.Prelude.{ℕ, ◌<◌, ◌≡◌, Bool, true, false, cond, not, ◌&&◌, List, [], ◌∷◌}
use Rattle.bits.specs.Bits.{bit}
use Rattle.order.specs.Order.{run}
use Rattle.answers.specs.Answers.{outcome_data}
use Rattle.bridge_registers.specs.declared.Chip.{Chip}
use Rattle.bridge_registers.specs.declared.Chip.TheVariants.{Chip0, Chip1}
use Rattle.bridge_registers.specs.Registers.{in_service_at}
use Rattle.turns.specs.Turns.{next_turn}
use Rattle.bridge.specs.declared.Bridge.{Bridge}
use Rattle.bridge.specs.Sources.{pending_at, request_at, route_of}
use Rattle.steps.specs.declared.Step.{Step}
use Rattle.steps.specs.declared.Step.TheVariants as step
use Rattle.device.specs.declared.Device.{Device}
use Rattle.device.specs.Step.{step_of}
use Rattle.promises.specs.Promises.{Alternating}

abbrev pub next : Step → Device → Device
next s d = (step_of d s).device

abbrev pub bridge : Device → Bridge
bridge d = d.tree.bridge

-- ---- the turn bits

-- from b to e: in turn mode, where the request of source i was 1 and is 0, its turn bit names the output that comes next; else it stays. Mode
-- and route are those of e.
abbrev pub Turned : Bridge → Bridge → ℕ → Type 0
Turned b e i =
    let fell = request_at b i && not (request_at e i) in
    let turn = bit b.turn i in
    bit e.turn i ≡ cond (bit e.auto i && fell) (next_turn (bit (route_of e i) 0) (bit (route_of e i) 1) turn) turn

-- by any step but a reset
abbrev pub TurnBits : Type 0
TurnBits = (d : Device) (s : Step) (i : ℕ) → i < 64 → (s ≡ step.Reset → ⊥) → Turned (bridge d) (bridge (next s d)) i

-- a reset is no fall: it makes every turn bit 0, whatever fell
abbrev pub ResetTurns : Type 0
ResetTurns = (d : Device) → (bridge (next step.Reset d)).turn ≡ 0

-- ---- where a source shows

-- the bit of source i in INTISR_CHIP0 or INTISR_CHIP1, as a step reads it
abbrev pub shows : Device → Chip → ℕ → Bool
shows d chip i = bit (outcome_data (step_of d (step.BridgeRead (in_service_at chip))).answer.outcome) i

-- a pending source that alternates
pub record InTurn (d : Device) (i : ℕ) : Type 0 where
  pub there : i < 64
  pub alternates : Alternating (bridge d) i
  pub pending : pending_at (bridge d) i ≡ true

abbrev pub OneWord : Type 0
OneWord =
    (d : Device) (i : ℕ) → InTurn d i
    → (shows d Chip0 i ≡ not (bit (bridge d).turn i)) × (shows d Chip1 i ≡ bit (bridge d).turn i)

-- steps in which the request of source i does not fall, and after each of which it alternates
abbrev pub Steady : ℕ → List Step → Device → Type 0
Steady i [] d = Unit {0}
Steady i (s ∷ ss) d =
    Alternating (bridge (next s d)) i × (request_at (bridge d) i ≡ true → request_at (bridge (next s d)) i ≡ true) × Steady i ss (next s d)

-- a source shows in one word; a step takes its request down, any others follow, and it is pending again, its mode and route as they were: it
-- shows in the other word
abbrev pub OtherWord : Type 0
OtherWord =
    (d : Device) (s : Step) (ss : List Step) (i : ℕ)
    → InTurn d i
    → Alternating (bridge (next s d)) i → request_at (bridge (next s d)) i ≡ false
    → Steady i ss (next s d) → pending_at (bridge (run next ss (next s d))) i ≡ true
    → let e = run next ss (next s d) in
    (shows e Chip0 i ≡ shows d Chip1 i) × (shows e Chip1 i ≡ shows d Chip0 i)
