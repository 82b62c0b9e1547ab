-- Which writes the order rule covers, and what each gives (01, "Which writes the order rule covers"; request Q-2).
--   given_of    what a plan gives, where the rule covers it      listed_in, Listed   the writes that the rule covers
--   effect_of   an effect on a cell, as the abstract rule has it  gives              the value that a write gives a bit
use Rattle.std.specs.Prelude.{ℕ, ◌≡◌, Bool, true, false, cond, ◌&&◌, eqb}
use Rattle.std.proofs.Math.Option.{Option, none, some}
use Rattle.bits.specs.Bits.{digit}
use Rattle.access.specs.Access.{effect}
use Rattle.order.specs.Cells as order
use Rattle.ipi_registers.specs.declared.Cell as ipi
use Rattle.tree.specs.declared.Write.{Write}
use Rattle.tree.specs.declared.Write.TheVariants as write
use Rattle.device.specs.declared.Device.{Device}
use Rattle.steps.specs.declared.Step.{Step}
use Rattle.steps.specs.declared.Step.TheVariants as step
use Rattle.steps.specs.declared.Plan.{Plan}
use Rattle.steps.specs.declared.Plan.TheVariants.{Refuse, ReadCore, WriteCore, ReadTree, WriteTree, ChangeTree, Window, Reset}
use Rattle.steps.specs.Decide.{decide_of}
use Rattle.reorder.specs.declared.Cell.{Cell}
use Rattle.reorder.specs.declared.Cell.TheVariants.{Core0, Core1, Bridge, Gate, Node}
use Rattle.reorder.specs.declared.Given.{Given}
use Rattle.reorder.specs.declared.Given.TheVariants.{NotListed, Nothing, Bits}
use Rattle.reorder.specs.Cells.{same, width}

-- ---- what a write gives

-- a cell of core c
abbrev pub of_core : ℕ → ipi.Cell → Cell
of_core c cell = cond (eqb c 0) (Core0 cell) (Core1 cell)

-- bits of a cell
abbrev pub bits_of : Cell → ℕ → ℕ → Given
bits_of cell mask bits = Bits (effect cell mask bits)

-- the gate is given a value where the write reaches it
unfoldable pub tree_given : Write → Given
tree_given (write.Bridge e) = bits_of (Bridge e.cell) e.mask e.bits
tree_given (write.Gate mask value) = cond mask (bits_of Gate 1 (digit value)) Nothing
tree_given (write.Node e) = bits_of (Node e.cell) e.mask e.bits

-- A refused write may stand in a list, and gives no bit a value. Reads, changes that are not plain (an accepted write to SOFT_INT, INTEDGE,
-- INTCLR, AUTO_CTRL or the node's Intedge, an input change of either kind), searches, the window switch and a reset are not in such lists.
unfoldable pub given_of : Plan → Given
given_of (Refuse reason) = Nothing
given_of (WriteCore e core) = bits_of (of_core core e.cell) e.mask e.bits
given_of (WriteTree w) = tree_given w
given_of (ReadCore register core width) = NotListed
given_of (ReadTree read) = NotListed
given_of (ChangeTree change) = NotListed
given_of (Window on) = NotListed
given_of Reset = NotListed

-- acceptance is judged in the starting state, of which the window switch decides it
unfoldable pub given_in : Bool → Step → Given
given_in opened s = given_of (decide_of opened s)

-- an effect on the cell, or none
abbrev pub effect_of : Given → Option (order.Effect Cell)
effect_of NotListed = none
effect_of Nothing = none
effect_of (Bits e) = some (order.effect e.cell e.mask e.bits)

-- the value that a step from d gives a bit of a cell, if any
abbrev pub gives : Device → Step → order.Bit Cell → Option Bool
gives d s = order.gives width same (effect_of (given_in d.second_open s))

-- ---- which writes the rule covers

-- a bus, private or bridge write
abbrev pub is_write : Step → Bool
is_write (step.BusWrite a w v) = true
is_write (step.PrivateWrite c o w v) = true
is_write (step.BridgeWrite r v) = true
is_write (step.BusRead a w) = false
is_write (step.PrivateRead c o w) = false
is_write (step.BridgeRead r) = false
is_write (step.Input i l) = false
is_write (step.NodeInput i l) = false
is_write (step.Which chip) = false
is_write (step.Window on) = false
is_write step.Reset = false

abbrev pub listed : Given → Bool
listed NotListed = false
listed Nothing = true
listed (Bits e) = true

unfoldable pub listed_in : Bool → Step → Bool
listed_in opened s = is_write s && listed (given_in opened s)

abbrev pub Listed : Device → Step → Type 0
Listed d s = listed_in d.second_open s ≡ true
