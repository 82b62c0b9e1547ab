use Rattle.std.proofs.Common.{◌≡◌, Bool, cond, not, ◌&&◌, ◌||◌}
use Rattle.bits.specs.Bits.{put}
use Rattle.bits.proofs.Operations.{words64}
use Rattle.bits.proofs.Taut.{taut}
use Rattle.bits.proofs.Writes.{put_past}
use Rattle.bits.proofs.put.Goals as goal

mux : (w m b : Bool) → (w && not m || m && b) ≡ cond m b w
mux = taut 3 _ _ tt

pub returns-then-i-lt64 : goal.returns-then-i-lt64
unfolding put
returns-then-i-lt64 c = search (words64, mux)

pub returns-else-i-lt64 : goal.returns-else-i-lt64
returns-else-i-lt64 c = put_past 64 _ _ _ c.if-i-lt64.false c.ranges.w.fits
