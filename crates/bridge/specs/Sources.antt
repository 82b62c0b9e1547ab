-- The 64 sources of the bridge, each alike (01, "Bridge registers" and "The four lines"; section 8.1 of the manual). Bit i of each word and
-- byte i of the routes belong to source i.
--   drive       its input or its soft bit            pending_at   a request that is neither masked nor sent as a message
--   request_at   what INTIRR shows                    in_service   what INTISR_CHIPk shows        line_of   some source is in service
--   read_of      what a register reads as             which_of     the lowest-numbered source in service (request Q-5)
use Rattle.std.specs.Prelude.{ℕ, Bool, cond, not, ◌&&◌, ◌||◌, get_or, Result, Ok, Err}
use Rattle.bits.specs.Bits.{bit, word, some, first}
use Rattle.turns.specs.Turns.{shown_on}
use Rattle.bridge_registers.specs.declared.Register.{Register}
use Rattle.bridge_registers.specs.declared.Register.TheVariants.{IntMask, MsiEn, IntEdge, SoftInt, AutoCtrl0, AutoCtrl1, IntClr, IntIsrChip0, IntIsrChip1, IntIrr, RouteEntry}
use Rattle.bridge_registers.specs.declared.Chip.{Chip}
use Rattle.bridge_registers.specs.Registers.{in_service_at}
use Rattle.access.specs.declared.Refusal.{Refusal}
use Rattle.access.specs.declared.Refusal.TheVariants.{NoneInService}
use Rattle.bridge.specs.declared.Bridge.{Bridge}

-- drive of a source = input level or soft bit
abbrev pub drive : Bridge → ℕ → Bool
drive b i = bit b.level i || bit b.soft i

-- request (INTIRR) = latch in edge mode, drive in level mode
abbrev pub request_at : Bridge → ℕ → Bool
request_at b i = cond (bit b.edge i) (bit b.latch i) (drive b i)

-- request, and not masked, and message enable 0
abbrev pub pending_at : Bridge → ℕ → Bool
pending_at b i = request_at b i && (not (bit b.mask i) && not (bit b.msi i))

-- its route byte (ROUTE_ENTRY)
abbrev pub route_of : Bridge → ℕ → ℕ
route_of b i = get_or b.routes i 0

-- INTISR_CHIPk: and route bit k, in turn mode with both route bits only at its turn (request Q-6)
abbrev pub in_service : Bridge → ℕ → ℕ → Bool
in_service b k i = pending_at b i && shown_on (route_of b i) (bit b.auto i) (bit b.turn i) k

-- bridge output k: some bit of INTISR_CHIPk is 1
unfoldable pub line_of : Bridge → ℕ → Bool
line_of b k = some 64 (in_service b k)

-- ---- the same as words

unfoldable pub lines_of : Bridge → ℕ
lines_of b = word 2 (line_of b)

unfoldable pub drive_word : Bridge → ℕ
drive_word b = word 64 (drive b)

unfoldable pub request_word : Bridge → ℕ
request_word b = word 64 (request_at b)

unfoldable pub in_service_word : Bridge → ℕ → ℕ
in_service_word b k = word 64 (in_service b k)

-- ---- what a register reads as

unfoldable pub read_of : Bridge → Register → ℕ
read_of b IntMask = b.mask
read_of b MsiEn = b.msi
read_of b IntEdge = b.edge
read_of b SoftInt = b.soft
read_of b AutoCtrl0 = b.auto
read_of b AutoCtrl1 = 0
read_of b IntClr = 0  -- write only: no read is accepted
read_of b IntIsrChip0 = in_service_word b 0
read_of b IntIsrChip1 = in_service_word b 1
read_of b IntIrr = request_word b
read_of b (RouteEntry source) = word 2 (bit (route_of b source))  -- bits 7..2 read 0

-- ---- which source is it? (request Q-5)

-- the lowest-numbered source with its bit set in INTISR_CHIP0 or INTISR_CHIP1, whichever is asked for, by a reading of all 64; refused, with 9,
-- exactly if no source has its bit set
unfoldable pub which_of : Bridge → Chip → Result ℕ Refusal
which_of b chip =
    let set = bit (read_of b (in_service_at chip)) in
    cond (some 64 set) (Ok (first 64 set)) (Err NoneInService)
