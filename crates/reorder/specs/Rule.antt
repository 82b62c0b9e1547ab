-- The order rule of the device (01, "Which writes the order rule covers"; requests Q-2 and Q-6; demand 3).
--   OrderRule         all orders of a list of listed writes end in one state exactly when no two of them clash
--   ListedWrites      a listed write gives just the bits that `gives` says, and touches no other
--   AcceptanceStays   no write of the list alters whether another is accepted, or its number
--   LinesAgree        where the end states agree, so do the first four lines
--   TurnsStay         no listed write moves a turn bit (request Q-6)
--   Ordered           all of these, of one device: what `compared` in src/ promises of every device
--   view_of            what is compared of a device: every cell but the latches of the node
use Rattle.std.specs.Prelude.{ℕ, ◌≡◌, ◌↔◌, List, Result}
use Rattle.order.specs.Order.{All, AnswersStay, ClashFree, SameEnd, run}
use Rattle.order.specs.Viewed.{Written}
use Rattle.access.specs.declared.Refusal.{Refusal}
use Rattle.answers.specs.Answers.{first_four}
use Rattle.node.specs.Cells.{with_latch}
use Rattle.tree.specs.Tree.{with_node}
use Rattle.steps.specs.declared.Step.{Step}
use Rattle.device.specs.declared.Device.{Device}
use Rattle.device.specs.Device.{answered_of, with_tree}
use Rattle.device.specs.Step.{step_of}
use Rattle.reorder.specs.Cells.{get, rest, width}
use Rattle.reorder.specs.Writes.{Listed, gives}

-- the end states are compared in every cell but the 32 latches of section 8.2, which stand here as 0
unfoldable pub view_of : Device → Device
view_of d = with_tree d (with_node d.tree (with_latch d.tree.node 0))

-- demand 2's own step: the device after it, and its outcome
abbrev pub next : Step → Device → Device
next s d = (step_of d s).device

abbrev pub outcome : Step → Device → Result ℕ Refusal
outcome s d = (step_of d s).answer.outcome

-- From d, all orders of a list of listed writes end in one state, seen through view_of, exactly when no two of them give opposite values to
-- one bit.
abbrev pub OrderRule : Device → Type 0
OrderRule d = (ws : List Step) → All (Listed d) ws → SameEnd view_of next d ws ↔ ClashFree (gives d) ws

-- a listed write gives the bits that `gives` says their values, and leaves every other bit of the cells and the rest of the device
abbrev pub ListedWrites : Device → Type 0
ListedWrites d = (s : Step) → Listed d s → Written width get rest (gives d s) d (next s d)

-- in every run of listed writes each answers as it would at the start: accepted, or refused with the same number
abbrev pub AcceptanceStays : Device → Type 0
AcceptanceStays d = AnswersStay outcome next (Listed d) d

-- where two runs end in states that agree, their first four lines agree, whatever the last steps answered; the pins' lines, which the latches
-- of the node reach, may not
abbrev pub LinesAgree : Device → Type 0
LinesAgree d =
    (ps qs : List Step) → view_of (run next ps d) ≡ view_of (run next qs d)
    → (o : Result ℕ Refusal) (moved : ℕ) → first_four (answered_of (run next ps d) o moved).answer ≡ first_four (answered_of (run next qs d) o moved).answer

-- no listed write moves a turn bit: none takes a request of the bridge from 1 to 0
abbrev pub TurnsStay : Device → Type 0
TurnsStay d = (s : Step) → Listed d s → (next s d).tree.bridge.turn ≡ d.tree.bridge.turn

pub record Ordered (d : Device) : Type 0 where
  pub rule : OrderRule d
  pub writes : ListedWrites d
  pub acceptance : AcceptanceStays d
  pub lines : LinesAgree d
  pub turns : TurnsStay d
