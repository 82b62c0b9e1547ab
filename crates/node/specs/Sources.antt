-- The 32 sources of the node (section 8.2 of the manual, tables 8-4 and 8-5; request Q-2). Bit i of each word and byte i of the routes
-- belong to source i. `lines` are the bridge's two lines at the node, line k as bit k.
--   drive       a bridge line or an input level         status_at   what COREc_INTISR shows
--   request_at   what Intisr shows                       pin_at      the line of a core and a pin
--   pending_at   a request that is enabled               read_of     what a register reads as
use Rattle.std.specs.Prelude.{ℕ, ◌/◌, ◌%◌, Bool, cond, ◌&&◌, ltb, get_or}
use Rattle.bits.specs.Bits.{bit, word, some}
use Rattle.routes.specs.Routes.{route_read, to_core, to_pin}
use Rattle.node_registers.specs.declared.Register.{Register}
use Rattle.node_registers.specs.declared.Register.TheVariants.{Intisr, Inten, Intenset, Intenclr, Intedge, CoreIntisr, Entry}
use Rattle.node.specs.declared.Node.{Node}

-- drive of source 0 and 1 = bridge line 0 and 1 (INT0 and INT1 of table 8-4); of 2 to 31 = the input level
abbrev pub drive : Node → ℕ → ℕ → Bool
drive n lines i = cond (ltb i 2) (bit lines i) (bit n.level i)

-- request (Intisr) = latch where the edge is chosen, else drive
abbrev pub request_at : Node → ℕ → ℕ → Bool
request_at n lines i = cond (bit n.edge i) (bit n.latch i) (drive n lines i)

-- request, and enabled
abbrev pub pending_at : Node → ℕ → ℕ → Bool
pending_at n lines i = request_at n lines i && bit n.enable i

-- the route of source i
abbrev pub route_of : Node → ℕ → ℕ
route_of n i = get_or n.routes i 0

-- COREc_INTISR: request, enabled, and routed to core c
abbrev pub status_at : Node → ℕ → ℕ → ℕ → Bool
status_at n lines c i = pending_at n lines i && to_core (route_of n i) c

-- the line of core c and pin p: some source of that status is routed to pin p
unfoldable pub pin_at : Node → ℕ → ℕ → ℕ → Bool
pin_at n lines c p = some 32 (λ i. status_at n lines c i && to_pin (route_of n i) p)

-- ---- the same as words

unfoldable pub drive_word : Node → ℕ → ℕ
drive_word n lines = word 32 (drive n lines)

unfoldable pub request_word : Node → ℕ → ℕ
request_word n lines = word 32 (request_at n lines)

unfoldable pub status_word : Node → ℕ → ℕ → ℕ
status_word n lines c = word 32 (status_at n lines c)

-- a line per core and pin, core 0's first, pins rising
unfoldable pub pins_of : Node → ℕ → ℕ
pins_of n lines = word 8 (λ j. pin_at n lines (j / 4) (j % 4))

-- ---- what a register reads as

unfoldable pub read_of : Node → ℕ → Register → ℕ
read_of n lines Intisr = request_word n lines
read_of n lines Inten = n.enable
read_of n lines Intenset = n.enable
read_of n lines Intenclr = n.enable
read_of n lines Intedge = n.edge
read_of n lines (CoreIntisr c) = status_word n lines c
read_of n lines (Entry source) = route_read (route_of n source)
