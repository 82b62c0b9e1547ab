-- An array of four words, a word at a time: what stands at an index, and a write of one word.
use Prim.Native.Nat.{ℕ, ◌<◌, ◌≤◌}
use mathlib.Core.Path.{◌≡◌, refl}
use mathlib.Core.Bool.{false, cond}
use mathlib.Core.Logic.{⊎_elim}
use mathlib.Core.List.{List, [], ◌∷◌}
use native.Mathlib.Omega.{arith}
use lib.Dec.{eqb}
use lib.ListN.{length, get_or, set}
use borrow.Author.Tests.{ne_eqb}
use Rattle.bits.proofs.Words.{below}
use Rattle.bits.proofs.Below.{agree_below}
use Rattle.bits.proofs.Arrays.{get_d_past, set_past}

abbrev pub read_four : List ℕ → ℕ → ℕ
read_four l i = cond (eqb i 0) (get_or l 0 0) (cond (eqb i 1) (get_or l 1 0) (cond (eqb i 2) (get_or l 2 0) (cond (eqb i 3) (get_or l 3 0) 0)))

abbrev pub write_four_lem : List ℕ → ℕ → ℕ → List ℕ
write_four_lem l i v = cond (eqb i 0) v (get_or l 0 0) ∷ cond (eqb i 1) v (get_or l 1 0) ∷ cond (eqb i 2) v (get_or l 2 0) ∷ cond (eqb i 3) v (get_or l 3 0) ∷ []

-- an index past the four is none of them
past : (i : ℕ) → 4 ≤ i → (k : ℕ) → k < 4 → eqb i k ≡ false
past i h k l = ne_eqb i k (λ e. omega arith)

pub get_four : (l : List ℕ) → length l ≡ 4 → (i : ℕ) → read_four l i ≡ get_or l i 0
get_four l e i =
    ⊎_elim
    (agree_below 4 (read_four l) (λ i. get_or l i 0) refl i)
    (λ h. rw (past i h 0 (omega arith), past i h 1 (omega arith), past i h 2 (omega arith), past i h 3 (omega arith)) (get_d_past l 4 i 0 e h))
    (below i 4)

pub set_four : (l : List ℕ) → length l ≡ 4 → (i v : ℕ) → write_four_lem l i v ≡ set l i v
set_four (a ∷ b ∷ c ∷ d ∷ []) e i v =
    ⊎_elim
    (agree_below 4 (λ i. write_four_lem (a ∷ b ∷ c ∷ d ∷ []) i v) (λ i. set (a ∷ b ∷ c ∷ d ∷ []) i v) refl i)
    (λ h. rw (past i h 0 (omega arith), past i h 1 (omega arith), past i h 2 (omega arith), past i h 3 (omega arith)) (set_past (a ∷ b ∷ c ∷ d ∷ []) 4 i v e h))
    (below i 4)
set_four [] e i v = absurd (omega (arith, e))
set_four (a ∷ []) e i v = absurd (omega (arith, e))
set_four (a ∷ b ∷ []) e i v = absurd (omega (arith, e))
set_four (a ∷ b ∷ c ∷ []) e i v = absurd (omega (arith, e))
set_four (a ∷ b ∷ c ∷ d ∷ x ∷ l) e i v = absurd (omega (arith, e))
