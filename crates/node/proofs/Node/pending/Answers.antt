use mir.Syntax.{w32}
use mathlib.Core.Bool.{◌&&◌}
use lib.Bits.{bit_and}
use Rattle.bits.specs.Bits.{bit, word}
use Rattle.bits.proofs.Operations.{as_word, words}
use mathlib.Core.Path.{◌≡◌, ◌∙◌}
use Rattle.bits.proofs.Words.{word_cong, bit_word}
use Rattle.node.specs.Sources.{request_word}
use Rattle.node.proofs.Node.pending.Goals as goal

pub returns : goal.returns
unfolding request_word
returns c =
    let e = c.args.self.enable in
    let r = c.requests.result in
    let p : bit_and r e ≡ word 32 (λ i. bit r i && bit e i) = search (as_word w32, words) in
    p ∙ simp c.requests.ensures (word_cong 32 (λ i h. rw (bit_word 32 _ i h)))
