-- The laws of masked writes and of the low bits of words, over the width.
use mathlib.Core.Path.{◌≡◌, refl, sym, ap, ◌∙◌}
use mathlib.Core.Bool.{Bool, true, false, cond, not, ◌&&◌, xor}
use Prim.Native.Nat.{ℕ, ◌+◌, ◌*◌, ◌≤◌, ◌<◌, ◌^◌, ◌%◌}
use borrow.Author.Tests.{ne_eqb}
use native.Mathlib.Nat.{one-mul}
use native.Mathlib.Omega.{arith}
use lib.Dec.{eqb, ltb}
use lib.Pow.{pow-lt, pow_pos}
use Rattle.bits.specs.Bits.{bit, differ, digit, held, word, merge, put}
use Rattle.bits.specs.Writes.{moved}
use Rattle.bits.specs.Latch.{risen, cleared, latched}
use Rattle.bits.proofs.Taut.{taut}
use Rattle.bits.proofs.Words.{bit_digit, word_cong, bit_of_word, bit_word, bit_zero, is_word, low_word}
use Rattle.bits.proofs.Operations.{bit_one, word_low}

pub bit_merge : (k o m v i : ℕ) → i < k → bit (merge k o m v) i ≡ cond (bit m i) (bit v i) (bit o i)
unfolding merge
bit_merge k o m v i h = bit_word k _ i h

-- writes that give the bits they share the same values change places
shared : (m n a b o : Bool) → (m ≡ true → n ≡ true → a ≡ b) → cond n b (cond m a o) ≡ cond m a (cond n b o)
shared true true a b o e = sym (e refl refl)
shared true false a b o e = refl
shared false n a b o e = refl

pub merge_comm : (k o m n a b : ℕ) → ((i : ℕ) → i < k → bit m i ≡ true → bit n i ≡ true → bit a i ≡ bit b i)
    → merge k (merge k o m a) n b ≡ merge k (merge k o n b) m a
unfolding merge
merge_comm k o m n a b e = word_cong k (λ i h. simp bit_word (shared (bit m i) (bit n i) (bit a i) (bit b i) (bit o i) (e i h)))

-- a write that is repeated moves nothing more
again : (m v o : Bool) → cond m v (cond m v o) ≡ cond m v o
again = taut 3 _ _ tt

pub merge_twice : (k o m v : ℕ) → merge k (merge k o m v) m v ≡ merge k o m v
unfolding merge
merge_twice k o m v = word_cong k (λ i h. rw (bit_word k _ i h) (again (bit m i) (bit v i) (bit o i)))

-- a write looks at what the cell holds alone
pub merge_held : (k o m v : ℕ) → merge k (held k o) m v ≡ merge k o m v
unfolding merge
merge_held k o m v = word_cong k (λ i h. rw (bit_word k (bit o) i h))

-- ---- the bits in which two numbers differ

pub xor_same : (b : Bool) → xor b b ≡ false
unfolding xor
xor_same = taut 1 _ _ tt

pub differ_same : (k n : ℕ) → differ k n n ≡ 0
unfolding differ
differ_same k n = sym (is_word k (pow_pos k) (λ i h. bit_zero i ∙ sym (xor_same (bit n i))))

-- two numbers as cells of j bits hold them differ in their j low bits
xor_both : (t a b : Bool) → xor (t && a) (t && b) ≡ (xor a b && t)
unfolding xor
xor_both = taut 3 _ _ tt

pub differ_held : (j k a b : ℕ) → j ≤ k → differ k (held j a) (held j b) ≡ differ j a b
unfolding differ
differ_held j k a b l =
    word_cong k (λ i h. rw (bit_of_word j (bit a) i, bit_of_word j (bit b) i) (xor_both (ltb i j) (bit a i) (bit b i)))
    ∙ word_low j k (λ i. xor (bit a i) (bit b i)) l

-- ---- low bits

-- those of a masked write are the masked write of those bits
pub merge_low : (j k o m v : ℕ) → j ≤ k → merge k o m v % 2 ^ j ≡ merge j o m v
unfolding merge
merge_low j k o m v l = low_word j k _ l

-- so are those of the bits that it moves, of one bit written, and of the latches
pub moved_low : (j k o m v : ℕ) → j ≤ k → moved k o m v % 2 ^ j ≡ moved j o m v
unfolding differ
moved_low j k o m v l = low_word j k _ l ∙ word_cong j (λ i h. rw (bit_merge k o m v i (omega arith), bit_merge j o m v i h))

pub put_low : (j k w i : ℕ) (b : Bool) → j ≤ k → put k w i b % 2 ^ j ≡ put j w i b
unfolding put
put_low j k w i b l = low_word j k _ l

pub latched_low : (j k old new before after latch : ℕ) → j ≤ k → latched k old new before after latch % 2 ^ j ≡ latched j old new before after latch
unfolding latched risen cleared
latched_low j k old new before after latch l =
    low_word j k _ l ∙ word_cong j (λ i h. rw (bit_word k _ i (omega arith), bit_word j _ i h))

-- a drive that stays is no rise, and a mode that stays clears nothing
pub latch_stays : (edge drive latch : Bool) → cond (edge && (not drive && drive)) true (cond (edge && not edge) false latch) ≡ latch
latch_stays = taut 3 _ _ tt

pub latched_same : (k edge drive latch : ℕ) → latched k edge edge drive drive latch ≡ held k latch
unfolding latched risen cleared
latched_same k edge drive latch = word_cong k (λ i h. rw (bit_word k _ i h) (latch_stays (bit edge i) (bit drive i) (bit latch i)))

-- a bit past the end is not there
pub put_past : (k w j : ℕ) (b : Bool) → k ≤ j → w < 2 ^ k → w ≡ put k w j b
unfolding put
put_past k w j b p h = is_word k h (λ i l. rw (ne_eqb i j (omega arith)))

-- the word with bit j alone
pub put_one : (k j : ℕ) → j < k → put k 0 j true ≡ 2 ^ j
unfolding put
put_one k j h = sym (is_word k (pow-lt {i = j} {j = k} h) (λ i l. (rw one-mul at (bit_one j i)) ∙ alone (eqb i j) (bit_zero i)))
  where
    alone : (t : Bool) {b : Bool} → b ≡ false → t ≡ cond t true b
    alone true e = refl
    alone false e = sym e

-- a word of one bit
pub merge_one : (g : Bool) (m v : ℕ) → digit (cond (bit m 0) (bit v 0) g) ≡ merge 1 (digit g) m v
unfolding merge word
merge_one g m v = one (cond (bit m 0) (bit v 0) g) ∙ ap (λ (x : Bool). digit (cond (bit m 0) (bit v 0) x) * 2 ^ 0 + 0) (sym (bit_digit g))
  where
    one : (x : Bool) → digit x ≡ digit x * 2 ^ 0 + 0
    one true = refl
    one false = refl
