-- The node's drives bit by bit: the bridge's lines, and the input levels.
use Prim.Native.Nat.{ℕ, ◌<◌, ◌≤◌}
use mathlib.Core.Path.{◌≡◌, ◌∙◌}
use native.Mathlib.Omega.{arith}
use borrow.Author.Tests.{le-ltb, lt-ltb}
use Rattle.bits.specs.Bits.{bit}
use Rattle.bits.proofs.Words.{bit_word}
use Rattle.node.specs.declared.Node.{Node}
use Rattle.node.specs.Sources.{drive_word}

module _ (n : Node) (lines i : ℕ) where
  pub drive_line : i < 2 → bit (drive_word n lines) i ≡ bit lines i
  unfolding drive_word
  drive_line h = bit_word 32 _ i (omega arith) ∙ rw (lt-ltb i 2 h)

  pub drive_level : 2 ≤ i → i < 32 → bit (drive_word n lines) i ≡ bit n.level i
  unfolding drive_word
  drive_level l h = bit_word 32 _ i h ∙ rw (le-ltb i 2 l)
