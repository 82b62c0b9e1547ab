use Rattle.std.proofs.Common.{sym, ◌∙◌}
use Rattle.bits.proofs.Words.{bit_shr, word_cong, word_mod}
use Rattle.search.proofs.group.Goals as goal

pub returns : goal.returns
returns c = sym (word_mod 8 _) ∙ word_cong 8 (λ j h. bit_shr _ _ j)
