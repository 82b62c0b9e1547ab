-- The outputs that one source shows on, computed at each of the 256 routes.
use Prim.Native.Nat.{ℕ, ◌+◌, ◌%◌, ◌<◌, ◌≤◌}
use mathlib.Core.Path.{◌≡◌, refl}
use mathlib.Core.Bool.{Bool, true, false, cond}
use lib.Dec.{ltb}
use borrow.Author.Tests.{lt-ltb, le-ltb}
use Rattle.bits.specs.Bits.{bit, digit, word}
use Rattle.bits.proofs.Below.{agree_below}
use Rattle.turns.specs.Turns.{shown_on}

abbrev by_cases : Bool → Bool → ℕ → ℕ
by_cases auto turn route = cond (ltb (route % 4) 3) (route % 4) (cond auto (1 + digit turn) 3)

same : (auto turn : Bool) (route : ℕ) → route < 256 → by_cases auto turn route ≡ word 2 (shown_on route auto turn)
unfolding word bit
same true true = agree_below 256 (by_cases true true) (λ route. word 2 (shown_on route true true)) refl
same true false = agree_below 256 (by_cases true false) (λ route. word 2 (shown_on route true false)) refl
same false true = agree_below 256 (by_cases false true) (λ route. word 2 (shown_on route false true)) refl
same false false = agree_below 256 (by_cases false false) (λ route. word 2 (shown_on route false false)) refl

pub one_route : (auto turn : Bool) (route : ℕ) → route < 256 → route % 4 < 3 → route % 4 ≡ word 2 (shown_on route auto turn)
one_route auto turn route h l = rw (lt-ltb _ 3 l) at (same auto turn route h)

pub both_routes : (auto turn : Bool) (route : ℕ) → route < 256 → 3 ≤ route % 4 → cond auto (1 + digit turn) 3 ≡ word 2 (shown_on route auto turn)
both_routes auto turn route h l = rw (le-ltb _ 3 l) at (same auto turn route h)
