use Rattle.bits.proofs.Operations.{words64}
use mathlib.Core.Bool.{not, ◌&&◌}
use Rattle.bits.specs.Bits.{bit, word}
use lib.Bits.{bit_and}
use Prim.Native.Nat.{◌-◌, ◌^◌}
use mathlib.Core.Path.{◌≡◌, ◌∙◌}
use Rattle.bits.proofs.Words.{word_cong, bit_word}
use Rattle.bridge.specs.Sources.{request_word}
use Rattle.bridge.proofs.Bridge.pending.Goals as goal

pub returns : goal.returns
unfolding request_word
returns c =
    let b = c.args.self in
    let r = c.requests.result in
    let p : bit_and r (bit_and ((2 ^ 64 - 1) - b.mask) ((2 ^ 64 - 1) - b.msi)) ≡ word 64 (λ i. bit r i && (not (bit b.mask i) && not (bit b.msi i))) = search words64 in
    p ∙ simp c.requests.ensures (word_cong 64 (λ i h. rw (bit_word 64 _ i h)))
