-- A step of the device (01, "Kinds of step"): decided, done, settled, answered. What follows from a change is said by two definitions of one form:
-- `settled_of` of crates/bridge, of the bridge's own cells, and `settled_of` of crates/tree, of what the tree's blocks do to each other.
--   outcome_of   what the step answers     next_of   the device after it     moved_word   the bits that it moved (request Q-8)
--   step_of      all three, with the lines
use Rattle.std.specs.Prelude.{ℕ, Result, Ok, Err}
use Rattle.bits.specs.Bits.{differ}
use Rattle.cores.specs.Core as cores
use Rattle.cores.specs.Moved as cores-moved
use Rattle.tree.specs.declared.Act.TheVariants.{Write, Change}
use Rattle.tree.specs.Tree as tree
use Rattle.tree.specs.Moved as tree-moved
use Rattle.device.specs.declared.Device.{Device}
use Rattle.steps.specs.declared.Step.{Step}
use Rattle.device.specs.declared.Stepped.{Stepped}
use Rattle.access.specs.declared.Refusal.{Refusal}
use Rattle.steps.specs.declared.Plan.{Plan}
use Rattle.steps.specs.declared.Plan.TheVariants.{Refuse, ReadCore, WriteCore, ReadTree, WriteTree, ChangeTree, Window, Reset}
use Rattle.device.specs.Device.{answered_of, core_of, reset_of, with_core, with_open, with_tree}
use Rattle.steps.specs.Decide.{decide_of}

-- the read value of any accepted step other than a read or a search is 0
unfoldable pub outcome_of : Device → Plan → Result ℕ Refusal
outcome_of d (Refuse reason) = Err reason
outcome_of d (ReadCore register core width) = Ok (cores.read_of (core_of d core) register width)
outcome_of d (ReadTree read) = tree.read_of d.tree read  -- a search that finds no source is refused, with 9 (request Q-5)
outcome_of d (WriteCore effect core) = Ok 0
outcome_of d (WriteTree write) = Ok 0
outcome_of d (ChangeTree change) = Ok 0
outcome_of d (Window opened) = Ok 0
outcome_of d Reset = Ok 0

-- a refused step, a read and a search leave the device as it is
unfoldable pub next_of : Device → Plan → Device
next_of d (Refuse reason) = d
next_of d (ReadCore register core width) = d
next_of d (ReadTree read) = d
next_of d (WriteCore effect core) = with_core d core (cores.applied_of (core_of d core) effect)
next_of d (WriteTree write) = with_tree d (tree.acted_of d.tree (Write write))
next_of d (ChangeTree change) = with_tree d (tree.acted_of d.tree (Change change))
next_of d (Window opened) = with_open d opened
next_of d Reset = reset_of d

-- the cell that an accepted write names, as a word: crates/cores, bridge, node and tree have the lines, each in its specs/Moved
unfoldable pub cell_of : Device → Plan → ℕ
cell_of d (WriteCore effect core) = cores-moved.cell_of (core_of d core) effect.cell
cell_of d (WriteTree write) = tree-moved.cell_of d.tree (Write write)
cell_of d (ChangeTree change) = tree-moved.cell_of d.tree (Change change)
cell_of d (Refuse reason) = 0  -- no write, as are those below: no cell, and so no bit
cell_of d (ReadCore register core width) = 0
cell_of d (ReadTree read) = 0
cell_of d (Window opened) = 0
cell_of d Reset = 0

-- the bits in which that cell differs, before and after the step
unfoldable pub moved_word : Device → Plan → Device → ℕ
moved_word before plan after = differ 64 (cell_of before plan) (cell_of after plan)

unfoldable pub step_of : Device → Step → Stepped
step_of d s =
    let plan = decide_of d.second_open s in
    let after = next_of d plan in
    answered_of after (outcome_of d plan) (moved_word d plan after)
