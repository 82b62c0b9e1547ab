use mathlib.Core.Path.{◌∙◌}
use Rattle.bits.proofs.Words.{word_cong, bit_word}
use Rattle.bridge.specs.Sources.{drive_word, request_word}
use Rattle.bridge.proofs.Bridge.requests.Goals as goal

pub returns : goal.returns
unfolding drive_word request_word
returns c = c.select.ensures ∙ simp c.drive.ensures (word_cong 64 (λ i h. rw (bit_word 64 _ i h)))
