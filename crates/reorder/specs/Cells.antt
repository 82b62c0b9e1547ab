-- The cells that plain writes reach (01, "The cells"; request Q-2), as a table with a line for each; and the rest of the device, which no
-- plain write changes. Neither has the latches of the node (section 8.2), which the order rule leaves out.
--   core_row, bridge_row, gate_row, node_row   the table of each block: a cell's name, a number of its own, its index where it is one of several, how
--                                          many there are, the bits of each, and the words in the block
--   row_of              the cell in a device     width, get, same   of cells, by the table
--   Rest, rest         what plain writes leave
use Rattle.std.specs.Prelude.{ℕ, Bool}
use Rattle.bits.specs.Bits.{digit}
use Rattle.order.specs.Places.{Row, in_block, one, one_of, same_cell, width_of, word_of}
use Rattle.ipi_registers.specs.declared.Cell as ipi
use Rattle.ipi_registers.specs.declared.Cell.TheVariants.{Status, Enable, MailBox}
use Rattle.cores.specs.declared.Core.{Core}
use Rattle.bridge_registers.specs.declared.Cell as bridge-cell
use Rattle.bridge_registers.specs.declared.Cell.TheVariants.{Mask, Msi, Route}
use Rattle.bridge.specs.declared.Bridge as bridge
use Rattle.node_registers.specs.declared.Cell as node_cell
use Rattle.node_registers.specs.declared.Cell.TheVariants.{Inten, Entry}
use Rattle.node.specs.declared.Node as node
use Rattle.device.specs.declared.Device.{Device}
use Rattle.reorder.specs.declared.Cell.{Cell}
use Rattle.reorder.specs.declared.Cell.TheVariants.{Core0, Core1, Bridge, Gate, Node}

-- of a core: Status and Enable, 32 bits each; MailBox0 to MailBox3, 64 bits each
abbrev pub core_row : ipi.Cell → Row Core
core_row Status = one 0 32 (λ c. c.status)
core_row Enable = one 1 32 (λ c. c.enable)
core_row (MailBox i) = one_of 2 i 4 64 (λ c. c.mail)

-- of the bridge: a mask, a message enable and two route bits for each of its 64 sources
abbrev pub bridge_row : bridge-cell.Cell → Row bridge.Bridge
bridge_row Mask = one 0 64 (λ b. b.mask)
bridge_row Msi = one 1 64 (λ b. b.msi)
bridge_row (Route i) = one_of 2 i 64 2 (λ b. b.routes)

-- one gate bit
abbrev pub gate_row : Row Bool
gate_row = one 0 1 digit

-- of the node: an enable and a route byte, of which six bits are held, for each of its 32 sources
abbrev pub node_row : node_cell.Cell → Row node.Node
node_row Inten = one 0 32 (λ n. n.enable)
node_row (Entry i) = one_of 1 i 32 8 (λ n. n.routes)

-- each block with a number of its own
abbrev pub row_of : Cell → Row Device
row_of (Core0 c) = in_block 0 (λ d. d.core0) (core_row c)
row_of (Core1 c) = in_block 1 (λ d. d.core1) (core_row c)
row_of (Bridge c) = in_block 2 (λ d. d.tree.bridge) (bridge_row c)
row_of Gate = in_block 3 (λ d. d.tree.gate) gate_row
row_of (Node c) = in_block 4 (λ d. d.tree.node) (node_row c)

abbrev pub width : Cell → ℕ
width c = width_of (row_of c)

abbrev pub get : Device → Cell → ℕ
get d c = word_of (row_of c) d

abbrev pub same : Cell → Cell → Bool
same a b = same_cell (row_of a) (row_of b)

-- edge modes, latches, soft bits, input levels, turn modes and turns of the bridge's sources, edge choices and input levels of the node's, and the
-- window switch
pub record Rest : Type 0 where
  pub edge : ℕ
  pub latch : ℕ
  pub soft : ℕ
  pub level : ℕ
  pub auto : ℕ
  pub turn : ℕ
  pub node_edge : ℕ
  pub node_level : ℕ
  pub window : Bool

abbrev pub rest : Device → Rest
rest d =
    let b = d.tree.bridge in
    let n = d.tree.node in
    record {
      edge = b.edge;
      latch = b.latch;
      soft = b.soft;
      level = b.level;
      auto = b.auto;
      turn = b.turn;
      node_edge = n.edge;
      node_level = n.level;
      window = d.second_open;
    }
