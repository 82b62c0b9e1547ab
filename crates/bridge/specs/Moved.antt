-- The cells of the bridge that a write names, and the bits of them that a write moved (request Q-8). Latches and turns that follow from a write are
-- not among them.
--   cell_of, changed_cell       the cell that a plain write, and another change, name, as a word
--   write_moved, change_moved   a bridge after either, with the bits in which that cell differs before and after
use Rattle.std.specs.Prelude.{ℕ}
use Rattle.bits.specs.Bits.{differ, held}
use Rattle.bits.specs.declared.After.{After}
use Rattle.bridge_registers.specs.declared.Cell.{Cell}
use Rattle.bridge_registers.specs.declared.Cell.TheVariants.{Mask, Msi, Route}
use Rattle.bridge_registers.specs.declared.Change.{Change}
use Rattle.bridge_registers.specs.declared.Change.TheVariants.{Edge, Soft, Auto, Latch, Nothing}
use Rattle.bridge.specs.declared.Bridge.{Bridge}
use Rattle.bridge.specs.Sources.{route_of}

-- INT_MASK, MSI_EN: their 64 cells; ROUTE_ENTRY: the two bits of its byte that are held
unfoldable pub cell_of : Bridge → Cell → ℕ
cell_of b Mask = held 64 b.mask
cell_of b Msi = held 64 b.msi
cell_of b (Route i) = held 2 (route_of b i)

-- INTEDGE, SOFT_INT, AUTO_CTRL0: their 64 cells; INTCLR: the latches; AUTO_CTRL1 holds nothing
unfoldable pub changed_cell : Bridge → Change → ℕ
changed_cell b (Edge mask bits) = held 64 b.edge
changed_cell b (Soft mask bits) = held 64 b.soft
changed_cell b (Auto mask bits) = held 64 b.auto
changed_cell b (Latch mask bits) = held 64 b.latch
changed_cell b Nothing = 0

abbrev pub write_moved : Bridge → Bridge → Cell → After Bridge
write_moved before after cell = record { state = after; moved = differ 64 (cell_of before cell) (cell_of after cell) }

abbrev pub change_moved : Bridge → Bridge → Change → After Bridge
change_moved before after change = record { state = after; moved = differ 64 (changed_cell before change) (changed_cell after change) }
