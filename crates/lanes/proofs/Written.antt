-- A byte mask, byte by byte.
use mathlib.Core.Path.{◌≡◌, refl, ap}
use mathlib.Core.Bool.{Bool, true, false, cond, not}
use Prim.Native.Nat.{ℕ, ◌+◌, ◌*◌, ◌/◌, ◌%◌, ◌^◌, ◌≤◌}
use native.Mathlib.Omega.{arith}
use lib.Bits.{bit_or}
use Rattle.bits.specs.Bits.{bit, word}
use Rattle.bits.proofs.Words.{word_cong}
use Rattle.bits.proofs.Operations.{append}
use Rattle.lanes.specs.Bytes.{written_bytes}

-- a byte that is kept has no bit set, one that is replaced has all
alike : (kept : Bool) → cond kept 0x00 0xff ≡ word 8 (λ i. not kept)
unfolding word
alike true = refl
alike false = refl

-- one byte more: `written |= byte << (8 * j)`
pub grown : (w mask j : ℕ) → 8 * (j + 1) ≤ w
    → bit_or (written_bytes j mask) (cond (bit mask j) 0x00 0xff * 2 ^ (8 * j) % 2 ^ w) ≡ written_bytes (j + 1) mask
unfolding written_bytes
grown w mask j h =
    let f : ℕ → Bool = λ i. not (bit mask (i / 8))
    in let byte : word 8 (λ i. not (bit mask j)) ≡ word 8 (λ i. f (8 * j + i)) = word_cong 8 (λ i l. ap (λ (n : ℕ). not (bit mask n)) (omega arith))
    in let more : 8 * (j + 1) ≡ 8 * j + 8 = omega arith
    in rw (alike, byte, more) (append w (8 * j) 8 f (omega arith))
