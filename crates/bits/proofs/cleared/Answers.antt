use Rattle.std.proofs.Common.{◌≡◌, Bool, false, cond, not, ◌&&◌}
use Rattle.bits.specs.Latch.{cleared}
use Rattle.bits.proofs.Operations.{words64}
use Rattle.bits.proofs.Taut.{taut}
use Rattle.bits.proofs.cleared.Goals as goal

clear : (l f : Bool) → (l && not f) ≡ cond f false l
clear = taut 2 _ _ tt

pub returns : goal.returns
unfolding cleared
returns c = search (words64, clear)
