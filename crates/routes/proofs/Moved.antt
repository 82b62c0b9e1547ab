-- The bits of a route that are held, and those of them that a write moves.
use Prim.Native.Nat.{ℕ}
use mathlib.Core.Path.{◌≡◌, ◌∙◌, ap, sym}
use mathlib.Core.Bool.{Bool, cond, ◌&&◌, xor}
use mathlib.Core.List.{List}
use native.Mathlib.Omega.{arith}
use lib.Bits.{bit_and, and_le_l}
use lib.Dec.{ltb}
use lib.ListN.{get_or, length}
use Rattle.bits.specs.declared.After.{After}
use Rattle.bits.specs.Bits.{bit, differ, merge}
use Rattle.bits.specs.Writes.{moved}
use Rattle.bits.proofs.Arrays.{set_differs}
use Rattle.bits.proofs.Operations.{bit_and_lem, word_low}
use Rattle.bits.proofs.Taut.{taut}
use Rattle.bits.proofs.Words.{bit_of_word, bit_word, is_word, word_cong}
use Rattle.routes.specs.Moved.{route_moved}
use Rattle.routes.specs.Routes.{route_read, written_of}

pub held_read : (b : ℕ) → bit_and 0xf3 b ≡ route_read b
held_read b = is_word 8 (omega (arith, and_le_l 0xf3 b)) (λ j h. bit_and_lem 0xf3 b j)

apart : (t m a b : Bool) → xor (t && (m && a)) (t && (m && b)) ≡ ((m && xor a b) && t)
unfolding xor
apart = taut 4 _ _ tt

-- what two routes read as differs where they do, in the bits that are held
pub differ_read : (a b : ℕ) → differ 64 (route_read a) (route_read b) ≡ route_read (differ 8 a b)
unfolding differ
differ_read a b =
    word_cong 64 (λ j h. rw (bit_of_word 8 _ j, bit_of_word 8 _ j) (apart (ltb j 8) (bit 0xf3 j) (bit a j) (bit b j)))
    ∙ word_low 8 64 (λ j. bit 0xf3 j && xor (bit a j) (bit b j)) (omega arith)
    ∙ word_cong 8 (λ j h. rw (bit_word 8 _ j h))

abbrev with : List ℕ → ℕ → ℕ → ℕ → ℕ → After (List ℕ)
with routes i m v moved = record { state = written_of routes i m v; moved = moved }

-- what a write of route i moves, if there is one
pub moved_held : (routes : List ℕ) → length routes ≡ 32 → (i m v : ℕ)
    → with routes i m v (cond (ltb i 32) (route_read (moved 8 (get_or routes i 0) m v)) 0) ≡ route_moved routes i m v
moved_held routes h i m v =
    ap (with routes i m v)
    (ap (λ (w : ℕ). cond (ltb i 32) w 0) (sym (differ_read (get_or routes i 0) (merge 8 (get_or routes i 0) m v)))
    ∙ set_differs 64 32 route_read routes h i (merge 8 (get_or routes i 0) m v))
