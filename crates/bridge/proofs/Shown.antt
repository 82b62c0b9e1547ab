-- The sources in service as turns shows them.
use Prim.Native.Nat.{ℕ}
use mathlib.Core.Path.{◌≡◌}
use Rattle.bits.specs.Bits.{word}
use Rattle.bits.proofs.Words.{word_cong, bit_word}
use Rattle.turns.specs.Turns.{showing}
use Rattle.bridge.specs.declared.Bridge.{Bridge}
use Rattle.bridge.specs.Sources.{in_service_word, pending_at}

pub shows : (b : Bridge) (k : ℕ) → showing b.routes b.auto b.turn (word 64 (pending_at b)) k ≡ in_service_word b k
unfolding showing in_service_word
shows b k = word_cong 64 (λ i h. rw (bit_word 64 _ i h))
