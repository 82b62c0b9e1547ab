-- Request Q-8, register by register, in the order of reading R42 (docs/DECISIONS.md): the cell that an accepted write names, as it stands in a
-- device, with its bits in their places in the answer's word. The cells are those of `cell_of` in crates/device/specs/Step.antt, which the step uses;
-- proofs/Table has each line by computation.
--   Table   the lines     of_access, of_bridge   the cell that an accepted write names, by the place it reaches and by the register's name
use Rattle.std.specs.Prelude.{ℕ, ◌/◌, ◌^◌, ◌≡◌, cond, get_or}
use Rattle.bits.specs.Bits.{field, held}
use Rattle.routes.specs.Routes.{route_read}
use Rattle.ipi_registers.specs.declared.Register.TheVariants as ipi
use Rattle.bridge_registers.specs.declared.Register.{Register}
use Rattle.bridge_registers.specs.declared.Register.TheVariants as bridge
use Rattle.bridge_registers.specs.Registers.{written_of}
use Rattle.node_registers.specs.declared.Register.TheVariants as node
use Rattle.windows.specs.declared.Place.{Place}
use Rattle.windows.specs.declared.Place.TheVariants as place
use Rattle.admission.specs.Refusals.{target_at}
use Rattle.steps.specs.Decide.{write_plan, written_plan}
use Rattle.device.specs.declared.Device.{Device}
use Rattle.device.specs.Device.{core_of}
use Rattle.device.specs.Step.{cell_of}

-- by every path: bus and private accesses reach a place and a core, bridge accesses name a register
abbrev pub of_access : Device → Place → ℕ → ℕ → ℕ
of_access d p width value = cell_of d (write_plan p (target_at p value) width value)

abbrev pub of_bridge : Device → Register → ℕ → ℕ
of_bridge d register value = cell_of d (written_plan (written_of register value))

abbrev pub mail_box : Device → ℕ → ℕ → ℕ
mail_box d core i = get_or (core_of d core).mail i 0

pub record Table (d : Device) : Type 0 where
  -- IPI_Set, IPI_Clear, IPI_Send: Status of the core that is reached, 32 bits; IPI_Enable: its Enable, 32 bits.
  pub set : (c w v : ℕ) → of_access d (place.Message ipi.Set c) w v ≡ held 32 (core_of d c).status
  pub clear : (c w v : ℕ) → of_access d (place.Message ipi.Clear c) w v ≡ held 32 (core_of d c).status
  pub ipi_send : (c w v : ℕ) → of_access d (place.Message ipi.IpiSend c) w v ≡ held 32 (core_of d (field v 25 16)).status
  pub enable : (c w v : ℕ) → of_access d (place.Message ipi.Enable c) w v ≡ held 32 (core_of d c).enable
  -- A mailbox, either half, Mail_Send: all 64 bits of the mailbox, so that a high half stands in bits 63..32, whatever the path.
  pub mailbox : (c i v : ℕ) → of_access d (place.Message (ipi.MailBox i) c) 8 v ≡ held 64 (mail_box d c i)
  pub low_half : (c i v : ℕ) → of_access d (place.Message (ipi.MailBox i) c) 4 v ≡ held 64 (mail_box d c i)
  pub high_half : (c i w v : ℕ) → of_access d (place.Message (ipi.MailBoxHigh i) c) w v ≡ held 64 (mail_box d c i)
  pub mail_send : (c w v : ℕ) → of_access d (place.Message ipi.MailSend c) w v ≡ held 64 (mail_box d (field v 25 16) (field v 4 2 / 2))
  -- 0x0420 at width 8, 0x0424: the gate, as bit 48; 0x0420 at width 4: nothing.
  pub gate : (v : ℕ) → of_access d place.Gate 8 v ≡ cond d.tree.gate (2 ^ 48) 0
  pub gate_high : (w v : ℕ) → of_access d place.GateHigh w v ≡ cond d.tree.gate (2 ^ 48) 0
  pub gate_low : (v : ℕ) → of_access d place.Gate 4 v ≡ 0
  -- INT_MASK, MSI_EN, INTEDGE, SOFT_INT, AUTO_CTRL0: its own 64 cells; no latch and no turn that follows.
  pub int_mask : (v : ℕ) → of_bridge d bridge.IntMask v ≡ held 64 d.tree.bridge.mask
  pub msi_en : (v : ℕ) → of_bridge d bridge.MsiEn v ≡ held 64 d.tree.bridge.msi
  pub intedge : (v : ℕ) → of_bridge d bridge.IntEdge v ≡ held 64 d.tree.bridge.edge
  pub soft_int : (v : ℕ) → of_bridge d bridge.SoftInt v ≡ held 64 d.tree.bridge.soft
  pub auto_ctrl0 : (v : ℕ) → of_bridge d bridge.AutoCtrl0 v ≡ held 64 d.tree.bridge.auto
  -- INTCLR: the latches; AUTO_CTRL1: nothing.
  pub intclr : (v : ℕ) → of_bridge d bridge.IntClr v ≡ held 64 d.tree.bridge.latch
  pub auto_ctrl1 : (v : ℕ) → of_bridge d bridge.AutoCtrl1 v ≡ 0
  -- ROUTE_ENTRY, Entry: the bits of the byte that are held, two and six.
  pub route_entry : (i v : ℕ) → of_bridge d (bridge.RouteEntry i) v ≡ held 2 (get_or d.tree.bridge.routes i 0)
  pub entry : (i w v : ℕ) → of_access d (place.Node (node.Entry i)) w v ≡ route_read (get_or d.tree.node.routes i 0)
  -- Intenset, Intenclr: the enables; Intedge: the choices; no latch.
  pub intenset : (w v : ℕ) → of_access d (place.Node node.Intenset) w v ≡ held 32 d.tree.node.enable
  pub intenclr : (w v : ℕ) → of_access d (place.Node node.Intenclr) w v ≡ held 32 d.tree.node.enable
  pub node_intedge : (w v : ℕ) → of_access d (place.Node node.Intedge) w v ≡ held 32 d.tree.node.edge
