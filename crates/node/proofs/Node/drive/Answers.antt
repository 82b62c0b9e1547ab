use mathlib.Core.Path.{◌∙◌}
use Rattle.bits.proofs.Words.{word_cong}
use Rattle.bits.proofs.Operations.{bit_ones}
use Rattle.node.specs.Sources.{drive_word}
use Rattle.node.proofs.Node.drive.Goals as goal

pub returns : goal.returns
unfolding drive_word
returns c = c.select.ensures ∙ simp c.from.ensures (word_cong 32 (λ i h. rw (bit_ones 2 i)))
