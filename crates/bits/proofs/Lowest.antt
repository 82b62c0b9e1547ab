-- What `trailing_zeros` gives: the lowest bit that is set.
use Prim.Native.Nat.{ℕ, zero, suc, ◌/◌, ◌%◌, ◌<◌}
use mathlib.Core.Path.{◌≡◌, refl, sym, ap, ap₂, ◌∙◌}
use mathlib.Core.Bool.{Bool, cond}
use native.Mathlib.Nat.{div-one}
use native.Mathlib.Numerals.{one-add}
use native.Mathlib.Omega.{arith}
use lib.Count.{count_trailing_zeros, under}
use lib.Dec.{eqb}
use Rattle.bits.specs.Bits.{bit, first}
use Rattle.bits.proofs.Words.{bit_shr}

pub first_cong : (k : ℕ) {f g : ℕ → Bool} → ((i : ℕ) → i < k → f i ≡ g i) → first k f ≡ first k g
unfolding first
first_cong zero e = refl
first_cong (suc k) e = ap₂ (λ (b : Bool) (n : ℕ). cond b 0 (suc n)) (e 0 (omega arith)) (first_cong k (λ i h. e (suc i) (omega arith)))

under_digit : (d t : ℕ) → d < 2 → under d t ≡ cond (eqb d 1) 0 (suc t)
under_digit zero t h = refl
under_digit (suc zero) t h = refl
under_digit (suc (suc d)) t h = absurd (omega arith)

pub bit_0 : (n : ℕ) → bit n 0 ≡ eqb (n % 2) 1
unfolding bit
bit_0 n = rw div-one

pub trailing_first : (k n : ℕ) → count_trailing_zeros k n ≡ first k (bit n)
unfolding count_trailing_zeros first
trailing_first zero n = refl
trailing_first (suc k) n =
    under_digit (n % 2) (count_trailing_zeros k (n / 2)) (omega arith)
    ∙ ap₂ (λ (b : Bool) (m : ℕ). cond b 0 (suc m)) (sym (bit_0 n)) (trailing_first k (n / 2) ∙ first_cong k (λ i h. bit_shr 1 n i ∙ ap (bit n) (one-add i)))
