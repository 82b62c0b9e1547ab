-- The bridge registers by name (01, "Bridge registers"; table 8-2 of the manual), in 01's order.
--   row_of         rights, and what a write may hold     sized         a written value fits the register
--   written_of     what a write does                     distributed   it asks for fixed or turn mode
--   in_service_at   the words of the sources in service
use Rattle.std.specs.Prelude.{ℕ, ◌^◌, Bool, true, eqb, leb, ltb, Option, Some, None}
use Rattle.access.specs.Access.{effect}
use Rattle.access.specs.declared.Rights.{Rights}
use Rattle.access.specs.declared.Rights.TheVariants.{Read, Write, Both}
use Rattle.access.specs.declared.Written.{Written}
use Rattle.access.specs.declared.Written.TheVariants.{Plain, Changed}
use Rattle.bridge_registers.specs.declared.Register.{Register}
use Rattle.bridge_registers.specs.declared.Register.TheVariants.{IntMask, MsiEn, IntEdge, SoftInt, AutoCtrl0, AutoCtrl1, IntClr, IntIsrChip0, IntIsrChip1, IntIrr, RouteEntry}
use Rattle.bridge_registers.specs.declared.Chip.{Chip}
use Rattle.bridge_registers.specs.declared.Chip.TheVariants.{Chip0, Chip1}
use Rattle.bridge_registers.specs.declared.Holds.{Holds}
use Rattle.bridge_registers.specs.declared.Holds.TheVariants.{Word, Zero, Byte}
use Rattle.bridge_registers.specs.declared.Row.{Row}
use Rattle.bridge_registers.specs.declared.Cell.{Cell}
use Rattle.bridge_registers.specs.declared.Cell.TheVariants.{Mask, Msi, Route}
use Rattle.bridge_registers.specs.declared.Change.{Change}
use Rattle.bridge_registers.specs.declared.Change.TheVariants.{Edge, Soft, Auto, Latch, Nothing}

abbrev pub row : Option ℕ → Rights → Holds → Row
row source rights holds = record { source = source; rights = rights; holds = holds }

-- source, rights, what a write may hold; only ROUTE_ENTRY has a source
unfoldable pub row_of : Register → Row
row_of IntMask = row None Both Word
row_of MsiEn = row None Both Word
row_of IntEdge = row None Both Word
row_of SoftInt = row None Both Word
row_of AutoCtrl0 = row None Both Word
row_of AutoCtrl1 = row None Both Zero
row_of IntClr = row None Write Word
row_of IntIsrChip0 = row None Read Word
row_of IntIsrChip1 = row None Read Word
row_of IntIrr = row None Read Word
row_of (RouteEntry source) = row (Some source) Both Byte

-- the value fits: 64 bits, or a route of at most 255. A bridge word that does not fit cannot be written by a u64.
unfoldable pub sized : Holds → ℕ → Bool
sized Word value = ltb value (2 ^ 64)
sized Zero value = ltb value (2 ^ 64)
sized Byte value = leb value 255

-- AUTO_CTRL1 can hold only 0 (request Q-6): of the distribution modes, fixed where AUTO_CTRL0 is 0, and turns where it is 1
unfoldable pub distributed : Holds → ℕ → Bool
distributed Word value = true
distributed Zero value = eqb value 0
distributed Byte value = true

abbrev plain : Cell → ℕ → ℕ → Written Cell Change
plain cell mask bits = Plain (effect cell mask bits)

unfoldable pub written_of : Register → ℕ → Written Cell Change
written_of IntMask value = plain Mask 0xffffffffffffffff value
written_of MsiEn value = plain Msi 0xffffffffffffffff value
written_of IntEdge value = Changed (Edge 0xffffffffffffffff value)
written_of SoftInt value = Changed (Soft 0xffffffffffffffff value)
written_of AutoCtrl0 value = Changed (Auto 0xffffffffffffffff value)
written_of AutoCtrl1 value = Changed Nothing  -- 0, which it holds
written_of IntClr value = Changed (Latch value 0)  -- a 1 makes the latch 0, in either mode
written_of IntIsrChip0 value = Changed Nothing  -- read only, as are the two below: no write is accepted
written_of IntIsrChip1 value = Changed Nothing
written_of IntIrr value = Changed Nothing
written_of (RouteEntry source) value = plain (Route source) 3 value  -- bits 7..2 are ignored

-- INTISR_CHIP0 or INTISR_CHIP1, whichever is asked for (request Q-5)
abbrev pub in_service_at : Chip → Register
in_service_at Chip0 = IntIsrChip0
in_service_at Chip1 = IntIsrChip1
