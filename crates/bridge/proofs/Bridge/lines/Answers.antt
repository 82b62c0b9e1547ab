use mathlib.Core.Path.{◌∙◌}
use Rattle.bits.proofs.Some.{some_cong}
use Rattle.bits.proofs.Words.{word_cong, bit_word}
use Rattle.turns.specs.Turns.{outputs_of}
use Rattle.bridge.specs.Sources.{line_of, lines_of}
use Rattle.bridge.proofs.Bridge.lines.Goals as goal

pub returns : goal.returns
unfolding lines_of line_of outputs_of
returns c = c.outputs.ensures ∙ rw (c.turns.ensures, c.pending.ensures) (word_cong 2 (λ k h. some_cong 64 (λ i l. rw (bit_word 64 _ i l))))
