use native.Mathlib.Omega.{arith}
use Rattle.bits.proofs.Words.{word_mod}
use Rattle.bits.proofs.Writes.{put_low}
use Rattle.node.specs.Changes.{levelled_of}
use Rattle.node.proofs.Node.levelled.Goals as goal

pub returns : goal.returns
unfolding levelled_of
returns c = rw (c.low.ensures, word_mod, c.put.ensures, c.from.ensures, put_low 32 64 _ _ _ (omega arith))
