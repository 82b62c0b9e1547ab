-- The interrupt tree from the sources to the cores' pins (01, "The cells", "Bus window" and "The four lines"; request Q-2): the bridge, the
-- gate behind it, and the node.
--   fresh_of, reset_of   the fresh state and the reset values, with the masks as given
--   bridge_line, lines_of   the bridge's lines at the node     pin_line, pins_of   the lines to the cores' pins
--   read_of      what a read answers      gate_read     the gate as it is read
--   gate_written  what a write to the gate's word does
--   applied_of, moved_of   what a plain write, and any other change, move; the bridge has settled     unsettled_of   either
--   before_of     what settling needs of the tree before     settled_of   what follows: the node's latches
--   acted_of      the tree after a step: both
use Rattle.std.specs.Prelude.{ℕ, ◌^◌, Bool, true, false, cond, ◌&&◌, eqb, replicate, Result, Ok}
use Rattle.bits.specs.Bits.{bit, word}
use Rattle.access.specs.declared.Refusal.{Refusal}
use Rattle.bridge.specs.declared.Bridge.{Bridge}
use Rattle.bridge.specs.Sources as bridge
use Rattle.bridge.specs.Changes as bridges
use Rattle.node.specs.declared.Node.{Node}
use Rattle.node.specs.Sources as node
use Rattle.node.specs.Changes as nodes
use Rattle.tree.specs.declared.Before.{Before}
use Rattle.tree.specs.declared.Tree.{Tree}
use Rattle.tree.specs.declared.Read.{Read}
use Rattle.tree.specs.declared.Read.TheVariants as read
use Rattle.tree.specs.declared.Write.{Write}
use Rattle.tree.specs.declared.Write.TheVariants as write
use Rattle.tree.specs.declared.Change.{Change}
use Rattle.tree.specs.declared.Change.TheVariants as change
use Rattle.tree.specs.declared.Act.{Act}
use Rattle.tree.specs.declared.Act.TheVariants as act

-- ---- the fresh state and the reset values

-- masks as given, everything else 0, turn modes and turns too; the input levels, of the bridge and of the node, are outside wires
unfoldable pub with_levels : ℕ → ℕ → ℕ → Tree
with_levels mask level node_level = record {
  bridge = record { mask = mask; msi = 0; edge = 0; latch = 0; soft = 0; level = level; auto = 0; turn = 0; routes = replicate 64 0 };
  gate = false;
  node = record { enable = 0; edge = 0; latch = 0; level = node_level; routes = replicate 32 0 };
}

-- input levels start at 0
unfoldable pub fresh_of : ℕ → Tree
fresh_of mask = with_levels mask 0 0

unfoldable pub reset_of : ℕ → Tree → Tree
reset_of mask t = with_levels mask t.bridge.level t.node.level

-- ---- the lines

-- bridge line k at the node: gate is 1 and some bit of INTISR_CHIPk is 1
abbrev pub bridge_line : Tree → ℕ → Bool
bridge_line t k = t.gate && bridge.line_of t.bridge k

unfoldable pub lines_of : Tree → ℕ
lines_of t = word 2 (bridge_line t)

-- the line of core c and pin p
abbrev pub pin_line : Tree → ℕ → ℕ → Bool
pin_line t c p = node.pin_at t.node (lines_of t) c p

abbrev pub pins_of : Tree → ℕ
pins_of t = node.pins_of t.node (lines_of t)

-- ---- reading

-- the gate as the one bit that can be 1
abbrev pub gate_read : Bool → ℕ → ℕ
gate_read gate weight = cond gate weight 0

-- at 0x0420 it is bit 48, which 4 bytes do not reach; the high half, 0x0424, shows it as bit 16
abbrev pub gate_weight : Bool → ℕ → ℕ
gate_weight high width = cond high (2 ^ 16) (cond (eqb width 8) (2 ^ 48) 0)

-- a read is accepted, but for a search (request Q-5), which is refused where it finds no source; the gate plays no part in that
unfoldable pub read_of : Tree → Read → Result ℕ Refusal
read_of t (read.Bridge register) = Ok (bridge.read_of t.bridge register)
read_of t (read.Gate high width) = Ok (gate_read t.gate (gate_weight high width))
read_of t (read.Node register) = Ok (node.read_of t.node (lines_of t) register)
read_of t (read.Which chip) = bridge.which_of t.bridge chip

-- ---- plain writes: what the step itself moves

-- of the word at 0x0420 only bit 48, the gate, is held, which a write of 4 bytes at 0x0420 does not reach; 0x0424 has it as its bit 16
unfoldable pub gate_written : Bool → ℕ → ℕ → Write
gate_written true width value = write.Gate true (bit value 16)
gate_written false width value = write.Gate (eqb width 8) (bit value 48)

abbrev pub with_bridge : Tree → Bridge → Tree
with_bridge t b = record { bridge = b; gate = t.gate; node = t.node }

abbrev pub with_gate : Tree → Bool → Tree
with_gate t on = record { bridge = t.bridge; gate = on; node = t.node }

abbrev pub with_node : Tree → Node → Tree
with_node t n = record { bridge = t.bridge; gate = t.gate; node = n }

-- the gate is a cell of one bit: it takes the value where the write's mask has it
unfoldable pub applied_of : Tree → Write → Tree
applied_of t (write.Bridge effect) = with_bridge t (bridges.applied_of t.bridge effect)
applied_of t (write.Gate mask value) = with_gate t (cond mask value t.gate)
applied_of t (write.Node effect) = with_node t (nodes.applied_of t.node effect)

-- ---- any other change: what the step itself moves, the bridge's own cells settled

unfoldable pub moved_of : Tree → Change → Tree
moved_of t (change.Bridge c) = with_bridge t (bridges.changed_of t.bridge c)
moved_of t (change.Input level source) = with_bridge t (bridges.input_of t.bridge source level)
moved_of t (change.Node c) = with_node t (nodes.moved_of t.node c)
moved_of t (change.NodeInput level source) = with_node t (nodes.levelled_of t.node source level)

-- ---- what follows from them

abbrev pub before_of : Tree → Before
before_of t = record { node = nodes.before_of t.node (lines_of t) }

-- the edge-latch rule of the node, from the tree before a step to the tree after it: whatever raises a drive
unfoldable pub settled_of : Before → Tree → Tree
settled_of before t = with_node t (nodes.settled_of before.node t.node (lines_of t))

unfoldable pub unsettled_of : Tree → Act → Tree
unsettled_of t (act.Write w) = applied_of t w
unsettled_of t (act.Change c) = moved_of t c

unfoldable pub acted_of : Tree → Act → Tree
acted_of t a = settled_of (before_of t) (unsettled_of t a)
