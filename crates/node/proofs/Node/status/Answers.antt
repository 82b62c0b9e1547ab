use mathlib.Core.Path.{◌∙◌}
use Rattle.bits.proofs.Words.{word_cong, bit_word}
use Rattle.routes.specs.Routes.{routed_of}
use Rattle.node.specs.Sources.{status_word}
use Rattle.node.proofs.Node.status.Goals as goal

pub returns : goal.returns
unfolding status_word routed_of
returns c = c.routed.ensures ∙ simp c.pending.ensures (word_cong 32 (λ i h. rw (bit_word 32 _ i h)))
