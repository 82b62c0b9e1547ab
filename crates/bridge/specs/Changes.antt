-- What becomes of the bridge (01, "Bridge registers"; requests Q-1 and Q-6). A change moves cells of its own, and others follow from it:
--   applied_of            a plain write's effect, from which nothing follows here
--   moved_of, levelled_of  what any other accepted write, and an input change, move themselves
--   before_of             what settling needs of the bridge before
--   settled_of            what follows: the edge-latch rule (latched_of), then the turns (turned_of)
--   changed_of, input_of   both: moved and settled, levelled and settled
use Rattle.std.specs.Prelude.{ℕ, Bool, set}
use Rattle.bits.specs.Bits.{merge, put}
use Rattle.bits.specs.Latch.{latched}
use Rattle.turns.specs.Turns.{turns_of}
use Rattle.bridge_registers.specs.declared.Cell.{Cell}
use Rattle.bridge_registers.specs.declared.Cell.TheVariants.{Mask, Msi, Route}
use Rattle.access.specs.declared.Effect.{Effect}
use Rattle.bridge_registers.specs.declared.Change.{Change}
use Rattle.bridge_registers.specs.declared.Change.TheVariants.{Edge, Soft, Auto, Latch, Nothing}
use Rattle.bridge.specs.declared.Before.{Before}
use Rattle.bridge.specs.declared.Bridge.{Bridge}
use Rattle.bridge.specs.Cells.{with_auto, with_edge, with_latch, with_level, with_mask, with_msi, with_routes, with_soft, with_turn}
use Rattle.bridge.specs.Sources.{drive_word, request_word, route_of}

-- the masked bits of one cell take values; a route has two bits
abbrev pub on : Bridge → Cell → ℕ → ℕ → Bridge
on b Mask m v = with_mask b (merge 64 b.mask m v)
on b Msi m v = with_msi b (merge 64 b.msi m v)
on b (Route i) m v = with_routes b (set b.routes i (merge 2 (route_of b i) m v))

unfoldable pub applied_of : Bridge → Effect Cell → Bridge
applied_of b e = on b e.cell e.mask e.bits

-- ---- changes that are not plain: what the step itself moves

-- the masked bits take values
unfoldable pub moved_of : Bridge → Change → Bridge
moved_of b (Edge m v) = with_edge b (merge 64 b.edge m v)
moved_of b (Soft m v) = with_soft b (merge 64 b.soft m v)
moved_of b (Auto m v) = with_auto b (merge 64 b.auto m v)
moved_of b (Latch m v) = with_latch b (merge 64 b.latch m v)
moved_of b Nothing = b

-- the input of source i takes a level
unfoldable pub levelled_of : Bridge → ℕ → Bool → Bridge
levelled_of b i level = with_level b (put 64 b.level i level)

-- ---- what follows from it

abbrev pub before_of : Bridge → Before
before_of b = record { edge = b.edge; drive = drive_word b; request = request_word b }

-- in edge mode, when the drive goes from 0 to 1 the latch becomes 1, masked or not; where the mode goes from 1 to 0 it becomes 0 (Q-1)
unfoldable pub latched_of : Before → Bridge → Bridge
latched_of before b = with_latch b (latched 64 before.edge b.edge before.drive (drive_word b) b.latch)

-- in turn mode, when the request (INTIRR) falls from 1 to 0, masked or not, the turn bit names the output that comes next (Q-6); mode and route are
-- those after the step, so that a reset, after which every mode is fixed, needs no exception
unfoldable pub turned_of : Before → Bridge → Bridge
turned_of before b = with_turn b (turns_of b.routes b.auto b.turn before.request (request_word b))

unfoldable pub settled_of : Before → Bridge → Bridge
settled_of before b = turned_of before (latched_of before b)

unfoldable pub changed_of : Bridge → Change → Bridge
changed_of b change = settled_of (before_of b) (moved_of b change)

unfoldable pub input_of : Bridge → ℕ → Bool → Bridge
input_of b i level = settled_of (before_of b) (levelled_of b i level)
