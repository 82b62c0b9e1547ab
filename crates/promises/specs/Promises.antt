-- What holds of every device and every step, stated; the proofs are in proofs/Promises.
--   RefusedSteps     a refused step has its number and changes nothing (demand 1)
--   IpiLines, BridgeLines, PinLines   a line is high exactly if an enabled, pending cause is routed to it (demand 2)
--   WhichSource      a search is refused exactly if INTISR_CHIPk reads 0, and else gives its lowest source (request Q-5)
--   Separation       a step leaves the parts of the device that its plan does not name; BridgeSteps, NodeInputs, the same by the kind of step
use Rattle.std.specs.Prelude.{ℕ, ◌+◌, ◌*◌, ◌<◌, ◌≤◌, ◌≡◌, ◌↔◌, Bool, true, false, cond, eqb, Result, Ok, Err}
use Rattle.bits.specs.Bits.{bit, digit}
use Rattle.access.specs.declared.Refusal.{Refusal}
use Rattle.cores.specs.declared.Core.{Core}
use Rattle.bridge_registers.specs.declared.Chip.{Chip}
use Rattle.bridge_registers.specs.declared.Register.{Register}
use Rattle.bridge_registers.specs.Registers.{in_service_at}
use Rattle.bridge.specs.declared.Bridge.{Bridge}
use Rattle.bridge.specs.Sources.{request_at, route_of}
use Rattle.routes.specs.Routes.{to_core, to_pin}
use Rattle.node.specs.declared.Node.{Node}
use Rattle.node.specs.Sources as node
use Rattle.node.specs.Cells.{with_latch}
use Rattle.tree.specs.declared.Tree.{Tree}
use Rattle.tree.specs.declared.Write.TheVariants as write
use Rattle.tree.specs.declared.Change.TheVariants as change
use Rattle.tree.specs.Tree.{lines_of}
use Rattle.device.specs.declared.Device.{Device}
use Rattle.steps.specs.declared.Step.{Step}
use Rattle.steps.specs.declared.Step.TheVariants.{BridgeRead, BridgeWrite, Input, NodeInput, Which}
use Rattle.steps.specs.declared.Plan.{Plan}
use Rattle.steps.specs.declared.Plan.TheVariants.{Refuse, ReadCore, WriteCore, ReadTree, WriteTree, ChangeTree, Window, Reset}
use Rattle.device.specs.Device.{answered_of}
use Rattle.steps.specs.Decide.{decide_of}
use Rattle.answers.specs.Answers.{outcome_data, outcome_number}
use Rattle.device.specs.Step.{step_of}

-- ---- refused steps

-- the number is one of 1 to 9, the device is as it was, the read data are 0, no bit was moved (request Q-8), and the lines are those of the device as
-- it was
pub record Unchanged (d : Device) (s : Step) : Type 0 where
  pub from_1 : 1 ≤ outcome_number (step_of d s).answer.outcome
  pub to_9 : outcome_number (step_of d s).answer.outcome ≤ 9
  pub device : (step_of d s).device ≡ d
  pub nothing_read : outcome_data (step_of d s).answer.outcome ≡ 0
  pub answer : (step_of d s).answer ≡ (answered_of d (step_of d s).answer.outcome 0).answer

abbrev pub RefusedSteps : Type 0
RefusedSteps = (d : Device) (s : Step) (reason : Refusal) → (step_of d s).answer.outcome ≡ Err reason → Unchanged d s

-- ---- the lines

-- a vector that is pending and enabled at a core
pub record Vector (c : Core) : Type 0 where
  pub number : ℕ
  pub there : number < 32
  pub pending : bit c.status number ≡ true
  pub enabled : bit c.enable number ≡ true

-- source i is in turn mode and has both route bits set (request Q-6)
pub record Alternating (b : Bridge) (i : ℕ) : Type 0 where
  pub mode : bit b.auto i ≡ true
  pub to_0 : bit (route_of b i) 0 ≡ true
  pub to_1 : bit (route_of b i) 1 ≡ true

-- a source that requests service, is not masked, not sent as a message, and routed to output k, which is at its turn where the source alternates
pub record Cause (b : Bridge) (k : ℕ) : Type 0 where
  pub source : ℕ
  pub there : source < 64
  pub pending : request_at b source ≡ true
  pub unmasked : bit b.mask source ≡ false
  pub no_message : bit b.msi source ≡ false
  pub routed : bit (route_of b source) k ≡ true
  pub at_turn : Alternating b source → digit (bit b.turn source) ≡ k

-- the lines after a step, by the device after it
abbrev pub IpiLines : Type 0
IpiLines =
    (d : Device) (s : Step)
    → (((step_of d s).answer.ipi0 ≡ true) ↔ Vector (step_of d s).device.core0) × (((step_of d s).answer.ipi1 ≡ true) ↔ Vector (step_of d s).device.core1)

-- bridge line k: the gate is 1, and a cause is routed there
abbrev pub Passed : Tree → ℕ → Type 0
Passed t k = (t.gate ≡ true) × Cause t.bridge k

abbrev pub BridgeLines : Type 0
BridgeLines =
    (d : Device) (s : Step)
    → (((step_of d s).answer.bridge0 ≡ true) ↔ Passed (step_of d s).device.tree 0)
    × (((step_of d s).answer.bridge1 ≡ true) ↔ Passed (step_of d s).device.tree 1)

-- a source of the node that requests service, is enabled, and is routed to core c and to pin p
pub record Routed (t : Tree) (c p : ℕ) : Type 0 where
  pub source : ℕ
  pub there : source < 32
  pub pending : node.request_at t.node (lines_of t) source ≡ true
  pub enabled : bit t.node.enable source ≡ true
  pub to_core_lem : to_core (node.route_of t.node source) c ≡ true
  pub to_pin_lem : to_pin (node.route_of t.node source) p ≡ true

-- the line of core c and pin p: request, enable, core and pin must belong to the same source
abbrev pub PinLines : Type 0
PinLines =
    (d : Device) (s : Step) (c p : ℕ) → c < 2 → p < 4
    → (bit (step_of d s).answer.pins (4 * c + p) ≡ true) ↔ Routed (step_of d s).device.tree c p

-- ---- which source is it? (request Q-5)

-- a source whose bit is set in a word, and no lower one's is
pub record Lowest (w source : ℕ) : Type 0 where
  pub there : source < 64
  pub set : bit w source ≡ true
  pub no_lower : (i : ℕ) → i < source → bit w i ≡ false

-- refused, with 9, exactly if the word is 0; else accepted, with the lowest source there as the value
abbrev pub Searched : ℕ → Result ℕ Refusal → Type 0
Searched w outcome =
    (outcome_number outcome ≡ 9 ↔ w ≡ 0) × ((w ≡ 0 → ⊥) → (outcome_number outcome ≡ 0) × Lowest w (outcome_data outcome))

-- INTISR_CHIP0 or INTISR_CHIP1 reads as a word, and the search goes by that word
abbrev pub WhichSource : Type 0
WhichSource =
    (d : Device) (chip : Chip)
    → (w : ℕ) × ((step_of d (BridgeRead (in_service_at chip))).answer.outcome ≡ Ok w) × Searched w (step_of d (Which chip)).answer.outcome

-- ---- separation

-- of the devices d before and e after a step
abbrev pub CoresStay : Device → Device → Type 0
CoresStay d e = (e.core0 ≡ d.core0) × (e.core1 ≡ d.core1)

abbrev pub WindowStays : Device → Device → Type 0
WindowStays d e = e.second_open ≡ d.second_open

-- all of the node but its latches stays, and of those all but the ones that the bridge's two lines reach
abbrev pub Settles : Node → Node → Type 0
Settles n m = (m ≡ with_latch n m.latch) × ((i : ℕ) → 2 ≤ i → i < 32 → bit m.latch i ≡ bit n.latch i)

-- all but the bridge, and what follows from it at the node
abbrev pub BesideBridge : Device → Device → Type 0
BesideBridge d e = CoresStay d e × (e.tree.gate ≡ d.tree.gate) × Settles d.tree.node e.tree.node × WindowStays d e

-- all but the gate, and what follows from it at the node
abbrev pub BesideGate : Device → Device → Type 0
BesideGate d e = CoresStay d e × (e.tree.bridge ≡ d.tree.bridge) × Settles d.tree.node e.tree.node × WindowStays d e

-- all but the node
abbrev pub BesideNode : Device → Device → Type 0
BesideNode d e = CoresStay d e × (e.tree.bridge ≡ d.tree.bridge) × (e.tree.gate ≡ d.tree.gate) × WindowStays d e

-- the core that a write to core c does not reach
abbrev pub other_core : Device → ℕ → Core
other_core d c = cond (eqb c 0) d.core1 d.core0

-- what a plan leaves as it was
abbrev pub Left : Plan → Device → Device → Type 0
Left (Refuse reason) d e = e ≡ d
Left (ReadCore register core width) d e = e ≡ d
Left (ReadTree read) d e = e ≡ d
Left (WriteCore effect core) d e = (other_core e core ≡ other_core d core) × (e.tree ≡ d.tree) × WindowStays d e
Left (WriteTree (write.Bridge effect)) d e = BesideBridge d e
Left (WriteTree (write.Gate written on)) d e = BesideGate d e
Left (WriteTree (write.Node effect)) d e = BesideNode d e
Left (ChangeTree (change.Bridge c)) d e = BesideBridge d e
Left (ChangeTree (change.Input level source)) d e = BesideBridge d e
Left (ChangeTree (change.Node c)) d e = BesideNode d e
Left (ChangeTree (change.NodeInput level source)) d e = BesideNode d e
Left (Window on) d e = CoresStay d e × (e.tree ≡ d.tree)
Left Reset d e = (e.tree.bridge.level ≡ d.tree.bridge.level) × (e.tree.node.level ≡ d.tree.node.level)  -- the input levels are outside wires

abbrev pub Separation : Type 0
Separation = (d : Device) (s : Step) → Left (decide_of d.second_open s) d (step_of d s).device

-- a step by a bridge register's name, and an input change, reach the bridge, and the node's latches through its lines
abbrev pub BridgeSteps : Type 0
BridgeSteps =
    (d : Device)
    → ((r : Register) (v : ℕ) → BesideBridge d (step_of d (BridgeWrite r v)).device)
    × ((i : ℕ) (level : Bool) → BesideBridge d (step_of d (Input i level)).device)

-- an input change of the node reaches the node alone
abbrev pub NodeInputs : Type 0
NodeInputs = (d : Device) (i : ℕ) (level : Bool) → BesideNode d (step_of d (NodeInput i level)).device
