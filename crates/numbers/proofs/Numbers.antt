-- The form and the value of a text of digits, one character at a place after the other.
use Prim.Native.Nat.{ℕ, ◌+◌, ◌*◌, ◌^◌, ◌<◌, ◌≤◌}
use mathlib.Core.Path.{◌≡◌, ap, ◌∙◌}
use mathlib.Core.Bool.{Bool, true, false, cond}
use mathlib.Core.List.{List, [], ◌∷◌}
use native.Mathlib.Nat.{le_refl, le_trans, le-mul_of_pos_right}
use native.Mathlib.Omega.{arith}
use borrow.Author.Tests.{lt-ltb, le-ltb}
use lib.Dec.{ltb}
use lib.ListN.{length, get_or, drop, drop_of_length-le}
use Rattle.numbers.specs.Numbers.{digit_of, separates, formed, value_from, bounded}
use Rattle.numbers.proofs.Places.{from_place}
use Rattle.std.specs.Prelude.{Ok, Err}
use Rattle.numbers.specs.declared.NumberError.TheVariants.{TooLarge}

module _ (base : ℕ) (s : List ℕ) (i : ℕ) where
  pub formed_digit : (after : Bool) → i < length s → digit_of (get_or s i 0) < base
      → formed base after (drop i s) ≡ formed base true (drop (i + 1) s)
  unfolding formed
  formed_digit after h d = simp (from_place s i h, lt-ltb _ _ d)

  pub formed_separator : (after : Bool) → i < length s → base ≤ digit_of (get_or s i 0) → separates base after (get_or s i 0) ≡ true
      → formed base after (drop i s) ≡ formed base false (drop (i + 1) s)
  unfolding formed
  formed_separator after h d e = simp (from_place s i h, le-ltb _ _ d, e)

  pub formed_other : (after : Bool) → i < length s → base ≤ digit_of (get_or s i 0) → separates base after (get_or s i 0) ≡ false
      → formed base after (drop i s) ≡ false
  unfolding formed
  formed_other after h d e = simp (from_place s i h, le-ltb _ _ d, e)

  pub formed_end : (after : Bool) → length s ≤ i → formed base after (drop i s) ≡ after
  unfolding formed
  formed_end after h = simp (drop_of_length-le s h)

  -- the value from a place on, where its character is a digit and where it is none
  abbrev pushed : ℕ → Bool → ℕ
  pushed n t = value_from base (cond t (n * base + digit_of (get_or s i 0)) n) (drop (i + 1) s)

  pub value_digit : (n : ℕ) → i < length s → digit_of (get_or s i 0) < base
      → value_from base n (drop i s) ≡ value_from base (n * base + digit_of (get_or s i 0)) (drop (i + 1) s)
  unfolding value_from
  value_digit n h d = ap (value_from base n) (from_place s i h) ∙ ap (pushed n) (lt-ltb _ _ d)

  pub value_other : (n : ℕ) → i < length s → base ≤ digit_of (get_or s i 0)
      → value_from base n (drop i s) ≡ value_from base n (drop (i + 1) s)
  unfolding value_from
  value_other n h d = ap (value_from base n) (from_place s i h) ∙ ap (pushed n) (le-ltb _ _ d)

  pub value_end : (n : ℕ) → length s ≤ i → value_from base n (drop i s) ≡ n
  unfolding value_from
  value_end n h = simp (drop_of_length-le s h)

-- A further digit does not make a value less.
grows : (base n d : ℕ) (t : Bool) → 0 < base → n ≤ cond t (n * base + d) n
grows base n d true h = le_trans (le-mul_of_pos_right n h) (omega arith)
grows base n d false h = le_refl n

value_least : (base n : ℕ) (s : List ℕ) → 0 < base → n ≤ value_from base n s
unfolding value_from
value_least base n [] h = le_refl n
value_least base n (c ∷ s) h =
    le_trans (grows base n (digit_of c) (ltb (digit_of c) base) h) (value_least base (cond (ltb (digit_of c) base) (n * base + digit_of c) n) s h)

pub bounded_value : (n : ℕ) → n < 2 ^ 64 → bounded n ≡ Ok n
unfolding bounded
bounded_value n h = simp (lt-ltb n (2 ^ 64) h)

-- Where the digits before a rest have a value from 2^64 on, so has the whole.
pub bounded_large : (base n : ℕ) (rest : List ℕ) → 0 < base → 2 ^ 64 ≤ n → bounded (value_from base n rest) ≡ Err TooLarge
unfolding bounded
bounded_large base n rest b h = simp (le-ltb (value_from base n rest) (2 ^ 64) (le_trans h (value_least base n rest b)))
