use mathlib.Core.Path.{◌∙◌}
use native.Mathlib.Omega.{arith}
use Rattle.bits.proofs.Words.{word_cong, bit_word, bit_zero}
use Rattle.bits.proofs.Operations.{bit_and_lem, bit_not64}
use Rattle.node.proofs.latch_disabled.Goals as goal

pub returns : goal.returns
returns c =
    c.select.ensures
    ∙ rw c.low.ensures (word_cong 32 (λ i h. rw (bit_word 32 _ i h, bit_and_lem, bit_not64 c.ranges.bits i (omega arith), bit_zero)))
