use mathlib.Core.Path.{◌∙◌}
use Rattle.bits.proofs.Words.{word_cong, bit_word}
use Rattle.node.specs.Sources.{drive_word, request_word}
use Rattle.node.proofs.Node.requests.Goals as goal

pub returns : goal.returns
unfolding drive_word request_word
returns c = c.select.ensures ∙ simp c.drive.ensures (word_cong 32 (λ i h. rw (bit_word 32 _ i h)))
