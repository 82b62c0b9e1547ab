-- The lowest set bit: where it is, and how it is cleared.
use Prim.Native.Nat.{ℕ, zero, suc, ◌-◌, ◌/◌, ◌%◌, ◌^◌, ◌<◌}
use mathlib.Core.Path.{◌≡◌, sym, ap, ◌∙◌}
use mathlib.Core.Bool.{Bool, true, false, cond, not, and_self}
use native.Mathlib.Numerals.{one-add}
use native.Mathlib.Omega.{arith}
use lib.Bits.{bit_and, and_lt, and_le_r}
use lib.Dec.{eqb, eqb-zero-suc, eqb-suc-zero, eqb-suc-suc}
use borrow.Table.Steps.{cases}
use borrow.Author.Tests.{ne_eqb, eqb-true, eqb-false}
use Rattle.bits.specs.Bits.{bit, first, held, put}
use Rattle.bits.proofs.Lowest.{bit_0}
use Rattle.bits.proofs.Words.{bit_shr, is_word, word_bit, word_lt}
use Rattle.bits.proofs.Operations.{bit_and_lem}
use Rattle.bits.proofs.Some.{some_bit, some_at}

-- ---- where it stands

-- where one is set, the first is one that is set
pub first_at : (k : ℕ) (f : ℕ → Bool) (i : ℕ) → i < k → f i ≡ true → (first k f < k) × (f (first k f) ≡ true)
unfolding first
first_at zero f i h t = absurd (omega arith)
first_at (suc k) f zero h t = rw t (omega arith, t)
first_at (suc k) f (suc i) h t =
    let r = first_at k (λ j. f (suc j)) i (omega arith) t
    in cases (f 0) (λ e. rw e (omega arith, e)) (λ e. rw e (omega arith, r.1))

-- the lowest set bit of a number that is not 0
pub first_set : (k : ℕ) {w : ℕ} → w < 2 ^ k → (w ≡ 0 → ⊥) → (first k (bit w) < k) × (bit w (first k (bit w)) ≡ true)
first_set k {w} h n =
    let p = some_at k (bit w) (sym (some_bit k h) ∙ ap not (ne_eqb w 0 n))
    in first_at k (bit w) p.0 p.1 p.2

-- ---- the lowest set bit cleared: `w & (w - 1)`

pub put_lt : (k w i : ℕ) (b : Bool) → put k w i b < 2 ^ k
unfolding put
put_lt k w i b = word_lt k _

bit_suc : (n i : ℕ) → bit n (suc i) ≡ bit (n / 2) i
bit_suc n i = sym (bit_shr 1 n i ∙ ap (bit n) (one-add i))

-- w - 1 from its lowest bit up: an odd w loses that bit, an even w borrows from the bits above
odd : (w : ℕ) → bit w 0 ≡ true → (bit (w - 1) 0 ≡ false) × ((w - 1) / 2 ≡ w / 2)
odd w e =
    let o : w % 2 ≡ 1 = eqb-true (w % 2) 1 (sym (bit_0 w) ∙ e)
    in (bit_0 (w - 1) ∙ ne_eqb ((w - 1) % 2) 1 (λ q. omega arith), omega arith)

even : (w : ℕ) → bit w 0 ≡ false → (w - 1) / 2 ≡ w / 2 - 1
even w e =
    let o : (w % 2 ≡ 1 → ⊥) = eqb-false (w % 2) 1 (sym (bit_0 w) ∙ e)
    in omega arith

pub bit_clear : (k w i : ℕ) → i < k → bit (bit_and w (w - 1)) i ≡ cond (eqb i (first k (bit w))) false (bit w i)
unfolding first
bit_clear zero w i h = absurd (omega arith)
bit_clear (suc k) w zero h = cases (bit w 0) (λ e. rw (bit_and_lem, e) (odd w e).0) (λ e. rw (bit_and_lem, e, eqb-zero-suc))
bit_clear (suc k) w (suc i) h =
    cases (bit w 0)
    (λ e. rw bit_and_lem (simp (e, bit_suc, eqb-suc-zero, (odd w e).1) (and_self (bit (w / 2) i))))
    (λ e. rw bit_and_lem (simp (e, bit_suc, eqb-suc-suc, even w e) (rw bit_and_lem at (bit_clear k (w / 2) i (omega arith)))))

pub clear_lowest : (k w : ℕ) → w < 2 ^ k → bit_and w (w - 1) ≡ put k w (first k (bit w)) false
unfolding put
clear_lowest k w h = is_word k (and_lt k w (w - 1) h (omega arith)) (bit_clear k w)

pub held_clear : (k w : ℕ) → w < 2 ^ k → held k (bit_and w (w - 1)) ≡ put k w (first k (bit w)) false
held_clear k w h = word_bit k (and_lt k w (w - 1) h (omega arith)) ∙ clear_lowest k w h

pub clear_less : (k : ℕ) {w : ℕ} → w < 2 ^ k → (w ≡ 0 → ⊥) → put k w (first k (bit w)) false < w
clear_less k {w} h n = omega (arith, clear_lowest k w h, and_le_r w (w - 1))
