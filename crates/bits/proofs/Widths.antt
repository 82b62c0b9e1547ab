-- A word of k bits by the operations of a wider one: what the low bits of the result are.
use mathlib.Core.Path.{◌≡◌, sym, ◌∙◌}
use mathlib.Core.Bool.{not, ◌&&◌}
use Prim.Native.Nat.{ℕ, ◌-◌, ◌^◌, ◌≤◌, ◌<◌}
use native.Mathlib.Omega.{arith}
use lib.Bits.{bit_and, bit_or, bit_xor, and_lt, xor_lt}
use lib.Dec.{eqb}
use Rattle.bits.specs.Bits.{bit, differ, held, merge, select, some}
use Rattle.bits.specs.Latch.{cleared, latched, risen}
use Rattle.bits.specs.Writes.{moved}
use Rattle.bits.proofs.Taut.{mux}
use Rattle.bits.proofs.Words.{is_word, word_bit, word_cong, word_lt, word_mod}
use Rattle.bits.proofs.Operations.{bit_and_lem, bit_or_lem, bit_xor_lem, bit_comp}
use Rattle.bits.proofs.Some.{some_is}
use Rattle.bits.proofs.Writes.{latched_low, merge_low}

-- a word of 64 bits
pub as_held : (n : ℕ) → n < 2 ^ 64 → n ≡ held 64 n
as_held n h = sym (word_bit 64 h)

pub held_select : (k m a b : ℕ) → k ≤ 64 → m < 2 ^ 64 → held k (bit_or (bit_and b ((2 ^ 64 - 1) - m)) (bit_and a m)) ≡ select k m a b
held_select k m a b l h =
    word_cong k (λ i p. simp (bit_or_lem, bit_and_lem, bit_comp 64 h i (omega arith)) (mux (bit b i) (bit m i) (bit a i)))

pub held_merge : (k o m v : ℕ) → k ≤ 64 → held k (select 64 m v o) ≡ merge k o m v
unfolding merge
held_merge k o m v l = word_mod k (select 64 m v o) ∙ merge_low k 64 o m v l

pub merge_lt : (k o m v : ℕ) → merge k o m v < 2 ^ k
unfolding merge
merge_lt k o m v = word_lt k _

pub moved_xor : (k o m v : ℕ) → o < 2 ^ k → bit_xor o (merge k o m v) ≡ moved k o m v
unfolding differ
moved_xor k o m v h = is_word k (xor_lt k o _ h (merge_lt k o m v)) (λ i p. bit_xor_lem o _ i)

pub some_common : (k a b : ℕ) → a < 2 ^ k → b < 2 ^ k → not (eqb (bit_and a b) 0) ≡ some k (λ i. bit a i && bit b i)
some_common k a b h g = some_is k _ (is_word k (and_lt k a b h g) (λ i p. bit_and_lem a b i))

pub held_latched : (k old new before after latch : ℕ) → k ≤ 64
    → held k (risen 64 new before after (cleared 64 old new latch)) ≡ latched k old new before after latch
unfolding latched
held_latched k old new before after latch l = word_mod k _ ∙ latched_low k 64 old new before after latch l
