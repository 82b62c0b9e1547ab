-- The windows (01, "Bus window" and "Private window"; request Q-2, tables 8-5, 8-7 and 8-8): which register an offset in one of them names.
--   bus_address    the window of a bus address, and the offset in it     messages_in, node_table, alone_in   the rows of a window
--   window_table   all of them                                           located_at   what an address names
use Rattle.std.specs.Prelude.{ℕ, ◌-◌, Bool, true, false, cond, List, [], ◌∷◌, ◌++◌, ltb, Option, Some, None}
use Rattle.access.specs.declared.Entry.{Entry}
use Rattle.access.specs.declared.Access.{Access}
use Rattle.access.specs.declared.Rights.TheVariants.{Both}
use Rattle.access.specs.declared.Widths.{Widths}
use Rattle.access.specs.declared.Widths.TheVariants.{Four, FourOrEight}
use Rattle.access.specs.Table.{Row, row, lookup, based}
use Rattle.ipi_registers.specs.declared.Register as ipi
use Rattle.ipi_registers.specs.Table.{table, sends}
use Rattle.node_registers.specs.declared.Register as node
use Rattle.node_registers.specs.Table as nodes
use Rattle.windows.specs.declared.Window.{Window}
use Rattle.windows.specs.declared.Window.TheVariants.{First, Second, Private}
use Rattle.windows.specs.declared.Address.{Address}
use Rattle.windows.specs.declared.Place.{Place}
use Rattle.windows.specs.declared.Place.TheVariants.{Message, Node, Gate, GateHigh}
use Rattle.windows.specs.declared.Located.{Located}

-- nothing is named
abbrev pub nowhere : Option Located → Bool
nowhere None = true
nowhere (Some l) = false

-- ---- the window of an address

abbrev pub address : Window → ℕ → Address
address window offset = record { window = window; offset = offset }

-- base 0x1fe00000, and 0x3ff00000; an address below both names nothing, as offset 0 does
abbrev pub bus_address : ℕ → Address
bus_address a =
    cond (ltb a 0x1fe00000) (address First 0)
    (cond (ltb a 0x3ff00000) (address First (a - 0x1fe00000))
    (address Second (a - 0x3ff00000)))

abbrev pub in_second : Window → Bool
in_second First = false
in_second Second = true
in_second (Private core) = false

-- ---- the rows of a window

abbrev at : Place → Access → Option Located
at place access = Some (record { place = place; access = access })

-- a register of core c
abbrev pub on_core : ℕ → Option (Entry ipi.Register) → Option Located
on_core c None = None
on_core c (Some e) = at (Message e.register c) e.access

-- a register of the node
abbrev pub on_node : Option (Entry node.Register) → Option Located
on_node None = None
on_node (Some e) = at (Node e.register) e.access

-- the message cells: core c adds 0x100 times c
unfoldable pub bus_messages : List (Row (Option Located))
bus_messages = based 0 (on_core 0) table ++ based 0x100 (on_core 1) table

-- the private window: without the core term, of the core that issues the access
unfoldable pub messages_in : Window → List (Row (Option Located))
messages_in First = bus_messages
messages_in Second = bus_messages
messages_in (Private core) = based 0 (on_core core) table

-- section 8.2: the same offsets in every window
unfoldable pub node_table : List (Row (Option Located))
node_table = based 0 on_node nodes.table

-- a place that may be read and written
abbrev pub gate : Place → Widths → Option Located
gate place widths = at place (record { rights = Both; widths = widths })

-- The first window alone has the gate, offset 0x0420: 8 bytes, or 4 bytes at 0x0420 or 0x0424. The private window has its core's status
-- in the node, and the two sends.
unfoldable pub alone_in : Window → List (Row (Option Located))
alone_in First = row 0x0420 (gate Gate FourOrEight) ∷ row 0x0424 (gate GateHigh Four) ∷ []
alone_in Second = []
alone_in (Private core) = based 0 on_node (nodes.per_core core) ++ based 0 (on_core core) sends

unfoldable pub window_table : Window → List (Row (Option Located))
window_table w = messages_in w ++ (node_table ++ alone_in w)

unfoldable pub located_at : Address → Option Located
located_at a = lookup None (window_table a.window) a.offset
