use Rattle.std.proofs.Common.{◌≡◌, Bool, true, cond, ◌||◌}
use Rattle.bits.specs.Latch.{risen}
use Rattle.bits.proofs.Operations.{words64}
use Rattle.bits.proofs.Taut.{taut}
use Rattle.bits.proofs.risen.Goals as goal

set : (l r : Bool) → (l || r) ≡ cond r true l
set = taut 2 _ _ tt

pub returns : goal.returns
unfolding risen
returns c = search (words64, set)
