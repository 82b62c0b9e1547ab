-- The cells of the node that a write names, and the bits of them that a write moved (request Q-8). Latches that follow from a write are not among
-- them.
--   cell_of, changed_cell       the cell that a plain write, and another change, name, as a word
--   write_moved, change_moved   a node after either, with the bits in which that cell differs before and after
use Rattle.std.specs.Prelude.{ℕ}
use Rattle.bits.specs.Bits.{differ, held}
use Rattle.bits.specs.declared.After.{After}
use Rattle.routes.specs.Routes.{route_read}
use Rattle.node_registers.specs.declared.Cell.{Cell}
use Rattle.node_registers.specs.declared.Cell.TheVariants.{Inten, Entry}
use Rattle.node_registers.specs.declared.Change.{Change}
use Rattle.node_registers.specs.declared.Change.TheVariants.{Edge, Nothing}
use Rattle.node.specs.declared.Node.{Node}
use Rattle.node.specs.Sources.{route_of}

-- Intenset, Intenclr: the enables; Entry: the six bits of its byte that are held, as it reads
unfoldable pub cell_of : Node → Cell → ℕ
cell_of n Inten = held 32 n.enable
cell_of n (Entry i) = route_read (route_of n i)

-- Intedge: the choices
unfoldable pub changed_cell : Node → Change → ℕ
changed_cell n (Edge mask bits) = held 32 n.edge
changed_cell n Nothing = 0

abbrev pub write_moved : Node → Node → Cell → After Node
write_moved before after cell = record { state = after; moved = differ 64 (cell_of before cell) (cell_of after cell) }

abbrev pub change_moved : Node → Node → Change → After Node
change_moved before after change = record { state = after; moved = differ 64 (changed_cell before change) (changed_cell after change) }
