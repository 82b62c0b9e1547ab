-- The cell that an act on the tree names, and the bits of it that the act moved (request Q-8).
--   cell_of      the cell as a word, and 0 where the act names none: an input change is no write
--   with_moved   a tree after an act, with the bits in which that cell differs before and after
use Rattle.std.specs.Prelude.{ℕ, ◌^◌, cond}
use Rattle.bits.specs.Bits.{differ}
use Rattle.bits.specs.declared.After.{After}
use Rattle.bridge.specs.Moved as bridge
use Rattle.node.specs.Moved as node
use Rattle.tree.specs.declared.Tree.{Tree}
use Rattle.tree.specs.declared.Write.TheVariants as write
use Rattle.tree.specs.declared.Change.TheVariants as change
use Rattle.tree.specs.declared.Act.{Act}
use Rattle.tree.specs.declared.Act.TheVariants as act
use Rattle.tree.specs.Tree.{gate_read}

-- the gate is bit 48, for 0x0424 too; a write of 4 bytes at 0x0420 does not reach it
unfoldable pub cell_of : Tree → Act → ℕ
cell_of t (act.Write (write.Bridge effect)) = bridge.cell_of t.bridge effect.cell
cell_of t (act.Write (write.Gate mask value)) = cond mask (gate_read t.gate (2 ^ 48)) 0
cell_of t (act.Write (write.Node effect)) = node.cell_of t.node effect.cell
cell_of t (act.Change (change.Bridge c)) = bridge.changed_cell t.bridge c
cell_of t (act.Change (change.Input level source)) = 0
cell_of t (act.Change (change.Node c)) = node.changed_cell t.node c
cell_of t (act.Change (change.NodeInput level source)) = 0

abbrev pub with_moved : Tree → Tree → Act → After Tree
with_moved before after act = record { state = after; moved = differ 64 (cell_of before act) (cell_of after act) }
