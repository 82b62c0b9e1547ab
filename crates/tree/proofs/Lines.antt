-- The bridge's lines at the node: those of the bridge where the gate is 1, and none where it is 0.
use Prim.Native.Nat.{ℕ, ◌<◌}
use mathlib.Core.Path.{◌≡◌, sym, ap}
use mathlib.Core.Bool.{Bool, true, false, ◌&&◌}
use Rattle.bits.specs.Bits.{bit, word}
use Rattle.bits.proofs.Words.{bit_word, word_cong}
use Rattle.bridge.specs.Sources as bridge
use Rattle.tree.specs.declared.Tree.{Tree}
use Rattle.tree.specs.Tree.{bridge_line, lines_of}

module _ (t : Tree) where
  pub line_bit : (k : ℕ) → k < 2 → bit (lines_of t) k ≡ bridge_line t k
  unfolding lines_of
  line_bit k h = bit_word 2 (bridge_line t) k h

  pub lines_open : t.gate ≡ true → bridge.lines_of t.bridge ≡ lines_of t
  unfolding lines_of bridge.lines_of
  lines_open g = word_cong 2 (λ k h. ap (λ (gate : Bool). gate && bridge.line_of t.bridge k) (sym g))

  pub lines_closed : t.gate ≡ false → 0 ≡ lines_of t
  unfolding lines_of word
  lines_closed g = ap (λ (gate : Bool). word 2 (λ k. gate && bridge.line_of t.bridge k)) (sym g)
