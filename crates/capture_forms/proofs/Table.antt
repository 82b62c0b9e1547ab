-- A table's rule: one test that antt computes over the whole table.
use mathlib.Core.Path.{◌≡◌}
use mathlib.Core.Bool.{Bool, true, ◌&&◌}
use mathlib.Core.List.{List, [], ◌∷◌}
use Prim.Native.Nat.{ℕ, zero, suc, ◌<◌}
use native.Mathlib.Nat.{le_of_suc-le-suc, not-suc-le-zero}
use lib.Dec.{T, eqb, eqb→eq}
use lib.ListN.{length, get_or}
use mir.Facts.{and_yes}

-- entry k is g k
abbrev pub every : (ℕ → ℕ) → List ℕ → Bool
every g [] = true
every g (x ∷ xs) = eqb x (g 0) && every (λ k. g (suc k)) xs

pub entry : (g : ℕ → ℕ) (xs : List ℕ) → T (every g xs) → (k : ℕ) → k < length xs → get_or xs k 0 ≡ g k
entry g [] t k h = absurd (not-suc-le-zero h)
entry g (x ∷ xs) t zero h = eqb→eq x (g 0) (and_yes (eqb x (g 0)) (every (λ k. g (suc k)) xs) t).0
entry g (x ∷ xs) t (suc k) h = entry (λ k. g (suc k)) xs (and_yes (eqb x (g 0)) (every (λ k. g (suc k)) xs) t).1 k (le_of_suc-le-suc h)
