-- The lines as one word: a word of one bit, and the pins above the first four lines.
use Prim.Native.Nat.{ℕ, ◌+◌, ◌*◌, ◌-◌, ◌%◌, ◌^◌, ◌<◌, ◌≤◌}
use mathlib.Core.Path.{◌≡◌, ◌∙◌}
use mathlib.Core.Bool.{Bool, cond}
use mathlib.Core.Logic.{⊎_elim}
use native.Mathlib.Nat.{add-sub_of_le}
use native.Mathlib.Omega.{arith}
use lib.Arith.{digits_lt}
use lib.Bits.{bit_or, or_shifted_r}
use lib.Dec.{ltb}
use lib.Pow.{pow-add, shl_exact}
use borrow.Author.Tests.{le-ltb, lt-ltb}
use Rattle.bits.specs.Bits.{bit, digit, word}
use Rattle.bits.proofs.Words.{below, bit_high, bit_low, bit_word, is_word, word_lt}

pub word_one : (f : ℕ → Bool) → word 1 f ≡ digit (f 0)
unfolding word
word_one f = omega arith

-- j bits, and k bits of p above them: `w | p << j`
pub above : (w j k : ℕ) (f : ℕ → Bool) {p : ℕ} → p < 2 ^ k → k + j ≤ w
    → bit_or (word j f) (p * 2 ^ j % 2 ^ w) ≡ word (k + j) (λ i. cond (ltb i j) (f i) (bit p (i - j)))
above w j k f {p} h l =
    rw (shl_exact k j w h l, or_shifted_r p j (word j f) (word_lt j f))
    (is_word (k + j) (rw (pow-add 2 k j) (digits_lt h (word_lt j f)))
    (λ i b.
    ⊎_elim
    (λ low. rw (lt-ltb i j low) (bit_low p j (word j f) i low ∙ bit_word j f i low))
    (λ high. rw (le-ltb i j high) (rw (add-sub_of_le high) at (bit_high p j (i - j) (word_lt j f))))
    (below i j)))
