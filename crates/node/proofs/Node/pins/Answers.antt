use mathlib.Core.Path.{◌∙◌}
use mathlib.Core.Bool.{and_assoc}
use Rattle.bits.proofs.Words.{word_cong, bit_word}
use Rattle.bits.proofs.Some.{some_cong}
use Rattle.routes.specs.Routes.{lines_of}
use Rattle.node.specs.Sources.{pin_at, pins_of}
use Rattle.node.proofs.Node.pins.Goals as goal

pub returns : goal.returns
unfolding pins_of pin_at lines_of
returns c = c.lines.ensures ∙ simp c.pending.ensures (word_cong 8 (λ j h. some_cong 32 (λ i l. rw (bit_word 32 _ i l, ← and_assoc))))
