-- Runs of bytes; a set of bytes as a word.
use Prim.Native.Nat.{ℕ, suc, ◌+◌, ◌<◌, ◌≤◌, ◌^◌}
use mathlib.Core.Path.{◌≡◌, refl, sym, ◌∙◌, fun_ext}
use mathlib.Core.Bool.{Bool, true, false, cond}
use mathlib.Core.List.{List, [], ◌∷◌}
use mathlib.Core.Logic.{⊎_elim}
use native.Mathlib.Omega.{arith}
use borrow.Author.Tests.{ltb-true}
use lib.Dec.{ltb}
use lib.ListN.{length, get_or, drop, drop_of_length-le}
use Rattle.bits.specs.Bits.{bit}
use Rattle.bits.proofs.Below.{values, agree_below}
use Rattle.bits.proofs.Words.{bit_over, below}
use Rattle.text.specs.Tokens.{run}
use Rattle.numbers.proofs.Places.{from_place}

-- ---- a run, byte by byte

module _ (k : ℕ → Bool) (s : List ℕ) (i : ℕ) where
  pub run_more : i < length s → k (get_or s i 0) ≡ true → run k (drop i s) ≡ suc (run k (drop (i + 1) s))
  unfolding run
  run_more h e = simp (from_place s i h, e)

  pub run_stop : i < length s → k (get_or s i 0) ≡ false → run k (drop i s) ≡ 0
  unfolding run
  run_stop h e = simp (from_place s i h, e)

  pub run_end : length s ≤ i → run k (drop i s) ≡ 0
  unfolding run
  run_end h = simp (drop_of_length-le s h)

module _ (k : ℕ → Bool) where
  pub run_length : (s : List ℕ) → run k s ≤ length s
  unfolding run
  run_length [] = omega arith
  run_length (c ∷ s) = go (k c) (run_length s)
    where
      go : (t : Bool) → run k s ≤ length s → cond t (suc (run k s)) 0 ≤ suc (length s)
      go true h = omega arith
      go false h = omega arith

  -- After a run there is no more of it.
  pub run_again : (s : List ℕ) → run k (drop (run k s) s) ≡ 0
  unfolding run
  run_again [] = refl
  run_again (c ∷ s) = go (k c) refl (run_again s)
    where
      go : (t : Bool) → k c ≡ t → run k (drop (run k s) s) ≡ 0 → run k (drop (cond t (suc (run k s)) 0) (c ∷ s)) ≡ 0
      go true e h = h
      go false e h = simp e

-- ---- a set of bytes as a word

-- A word of 64 bits is a set of bytes if it is so below 64, where antt computes both, and no other byte is in the set.
pub set_is : (set : ℕ) (k : ℕ → Bool) → ((c : ℕ) → 64 ≤ c → k c ≡ false) → ltb set (2 ^ 64) ≡ true → values 64 (bit set) ≡ values 64 k → bit set ≡ k
set_is set k none h e =
    fun_ext (λ c. ⊎_elim (agree_below 64 (bit set) k e c) (λ (l : 64 ≤ c). bit_over 64 c (ltb-true set (2 ^ 64) h) l ∙ sym (none c l)) (below c 64))
