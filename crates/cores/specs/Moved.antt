-- The cell of a core that a write names, and the bits of it that a write moved (request Q-8).
--   cell_of   the cell as a word     with_moved   a core after a write, with the bits in which that cell differs before and after
use Rattle.std.specs.Prelude.{ℕ, get_or}
use Rattle.bits.specs.Bits.{differ, held}
use Rattle.bits.specs.declared.After.{After}
use Rattle.cores.specs.declared.Core.{Core}
use Rattle.ipi_registers.specs.declared.Cell.{Cell}
use Rattle.ipi_registers.specs.declared.Cell.TheVariants.{Status, Enable, MailBox}

-- Status and Enable, 32 bits each; a mailbox, 64 bits, whichever half is written
unfoldable pub cell_of : Core → Cell → ℕ
cell_of c Status = held 32 c.status
cell_of c Enable = held 32 c.enable
cell_of c (MailBox i) = held 64 (get_or c.mail i 0)

abbrev pub with_moved : Core → Core → Cell → After Core
with_moved before after cell = record { state = after; moved = differ 64 (cell_of before cell) (cell_of after cell) }
