use mathlib.Core.Bool.{xor}
use Rattle.bits.proofs.merge1.Goals as goal

pub returns : goal.returns
unfolding xor
returns c = rw c.choose-state.ensures
