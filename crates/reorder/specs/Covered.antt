-- 01, "Which writes the order rule covers", and request Q-2, bullet by bullet: what each write gives where it is accepted. The values are those
-- of `effect_of` in crates/ipi_registers/specs/Effect.antt, `gate_written` in crates/tree/specs/Tree.antt and `written_of` in
-- crates/bridge_registers/specs/Registers.antt and crates/node_registers/specs/Effect.antt, which demand 2's step uses too; proofs/Covered has each line by computation.
--   Covered   the bullets     of_access, of_bridge   what an accepted write gives, by the place it reaches and by the register's name
use Rattle.std.specs.Prelude.{ℕ, ◌/◌, ◌^◌, ◌≡◌}
use Rattle.bits.specs.Bits.{bit, digit, field}
use Rattle.lanes.specs.Bytes.{written_bytes}
use Rattle.ipi_registers.specs.declared.Register.TheVariants as ipi
use Rattle.ipi_registers.specs.declared.Cell.TheVariants as cell
use Rattle.ipi_registers.specs.Effect.{in_half}
use Rattle.bridge_registers.specs.declared.Register.{Register}
use Rattle.bridge_registers.specs.declared.Register.TheVariants as bridge
use Rattle.bridge_registers.specs.declared.Cell.TheVariants as bridge-cell
use Rattle.bridge_registers.specs.Registers.{written_of}
use Rattle.node_registers.specs.declared.Register.TheVariants as node
use Rattle.node_registers.specs.declared.Cell.TheVariants as node_cell
use Rattle.windows.specs.declared.Place.{Place}
use Rattle.windows.specs.declared.Place.TheVariants as place
use Rattle.admission.specs.Refusals.{target_at}
use Rattle.steps.specs.Decide.{write_plan, written_plan}
use Rattle.reorder.specs.declared.Cell.TheVariants.{Bridge, Gate, Node}
use Rattle.reorder.specs.declared.Given.{Given}
use Rattle.reorder.specs.declared.Given.TheVariants.{NotListed, Nothing}
use Rattle.reorder.specs.Writes.{bits_of, given_of, of_core}

-- by every path: bus and private accesses reach a place and a core, bridge accesses name a register
abbrev pub of_access : Place → ℕ → ℕ → Given
of_access p width value = given_of (write_plan p (target_at p value) width value)

abbrev pub of_bridge : Register → ℕ → Given
of_bridge register value = given_of (written_plan (written_of register value))

pub record Covered : Type 0 where
  -- IPI_Enable: the value's bits, to that core's Enable.
  pub enable : (c w v : ℕ) → of_access (place.Message ipi.Enable c) w v ≡ bits_of (of_core c cell.Enable) 0xffffffff v
  -- IPI_Set: 1 to each Status bit where the value has 1. IPI_Clear: 0 there. IPI_Send: 1 to Status bit v of the target.
  pub set : (c w v : ℕ) → of_access (place.Message ipi.Set c) w v ≡ bits_of (of_core c cell.Status) v v
  pub clear : (c w v : ℕ) → of_access (place.Message ipi.Clear c) w v ≡ bits_of (of_core c cell.Status) v 0
  pub ipi_send : (c w v : ℕ)
      → of_access (place.Message ipi.IpiSend c) w v ≡ bits_of (of_core (field v 25 16) cell.Status) (2 ^ field v 4 0) (2 ^ field v 4 0)
  -- Mailbox: the value's bits, to all 64 or to the half written.
  pub mailbox : (c i v : ℕ) → of_access (place.Message (ipi.MailBox i) c) 8 v ≡ bits_of (of_core c (cell.MailBox i)) 0xffffffffffffffff v
  pub low_half : (c i v : ℕ) → of_access (place.Message (ipi.MailBox i) c) 4 v ≡ bits_of (of_core c (cell.MailBox i)) 0xffffffff (in_half 0 v)
  pub high_half : (c i w v : ℕ)
      → of_access (place.Message (ipi.MailBoxHigh i) c) w v ≡ bits_of (of_core c (cell.MailBox i)) 0xffffffff00000000 (in_half 1 v)
  -- Mail_Send: each data byte whose mask bit is 0, to that byte of the half.
  pub mail_send : (c w v : ℕ)
      → of_access (place.Message ipi.MailSend c) w v
      ≡ bits_of (of_core (field v 25 16) (cell.MailBox (field v 4 2 / 2))) (in_half (field v 4 2) (written_bytes 4 (field v 30 27)))
      (in_half (field v 4 2) (field v 63 32))
  -- Offset 0x0420, width 8: bit 48, to the gate. 0x0424: bit 16, to the gate. 0x0420, width 4: nothing.
  pub gate : (v : ℕ) → of_access place.Gate 8 v ≡ bits_of Gate 1 (digit (bit v 48))
  pub gate_high : (w v : ℕ) → of_access place.GateHigh w v ≡ bits_of Gate 1 (digit (bit v 16))
  pub gate_low : (v : ℕ) → of_access place.Gate 4 v ≡ Nothing
  -- INT_MASK, MSI_EN: the value's bits, to all 64 masks or message enables.
  pub int_mask : (v : ℕ) → of_bridge bridge.IntMask v ≡ bits_of (Bridge bridge-cell.Mask) 0xffffffffffffffff v
  pub msi_en : (v : ℕ) → of_bridge bridge.MsiEn v ≡ bits_of (Bridge bridge-cell.Msi) 0xffffffffffffffff v
  -- ROUTE_ENTRY: bits 0 and 1, to its source's two route bits.
  pub route_entry : (i v : ℕ) → of_bridge (bridge.RouteEntry i) v ≡ bits_of (Bridge (bridge-cell.Route i)) 3 v
  -- Q-2. Intenset: 1 to each enable where the value has 1. Intenclr: 0 there. Entry: bits 7..4, 1 and 0, to its source's route.
  pub intenset : (w v : ℕ) → of_access (place.Node node.Intenset) w v ≡ bits_of (Node node_cell.Inten) v v
  pub intenclr : (w v : ℕ) → of_access (place.Node node.Intenclr) w v ≡ bits_of (Node node_cell.Inten) v 0
  pub entry : (i w v : ℕ) → of_access (place.Node (node.Entry i)) w v ≡ bits_of (Node (node_cell.Entry i)) 0xf3 v
  -- Intedge: an accepted write is in no list.
  pub intedge : (w v : ℕ) → of_access (place.Node node.Intedge) w v ≡ NotListed
