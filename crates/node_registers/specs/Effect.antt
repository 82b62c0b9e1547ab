-- What a write to a register does (section 8.2 and table 8-6 of the manual; request Q-2).
--   written_of   bits of one cell take values, or another change
use Rattle.std.specs.Prelude.{ℕ}
use Rattle.access.specs.declared.Written.{Written}
use Rattle.access.specs.declared.Written.TheVariants.{Plain, Changed}
use Rattle.access.specs.Access.{effect}
use Rattle.node_registers.specs.declared.Register.{Register}
use Rattle.node_registers.specs.declared.Register.TheVariants as register
use Rattle.node_registers.specs.declared.Cell.{Cell}
use Rattle.node_registers.specs.declared.Cell.TheVariants.{Inten, Entry}
use Rattle.node_registers.specs.declared.Change.{Change}
use Rattle.node_registers.specs.declared.Change.TheVariants.{Edge, Nothing}

abbrev plain : Cell → ℕ → ℕ → Written Cell Change
plain cell mask bits = Plain (effect cell mask bits)

unfoldable pub written_of : Register → ℕ → Written Cell Change
written_of register.Intenset value = plain Inten value value  -- each 1: enable 1
written_of register.Intenclr value = plain Inten value 0  -- each 1: enable 0; the latch follows it, see crates/node
written_of register.Intedge value = Changed (Edge 0xffffffff value)
written_of (register.Entry source) value = plain (Entry source) 0xf3 value  -- bits 3..2 name cores that the model lacks
written_of register.Intisr value = Changed Nothing  -- read only, as are the two below: no write is accepted
written_of register.Inten value = Changed Nothing
written_of (register.CoreIntisr core) value = Changed Nothing
