-- Computed at each of the 256 routes.
use Prim.Native.Nat.{ℕ, ◌+◌, ◌*◌, ◌/◌, ◌%◌, ◌<◌}
use mathlib.Core.Path.{◌≡◌, refl}
use native.Mathlib.Nat.{mul-le-mul}
use native.Mathlib.Omega.{arith}
use mir.Facts.{Fits-below}
use Rattle.bits.specs.Bits.{bit, word}
use Rattle.bits.proofs.Below.{agree_below}
use Rattle.routes.specs.Private.{reached_of}
use Rattle.routes.proofs.reached.Goals as goal

same : (b : ℕ) → b < 256 → b / 16 * (b % 2 + b / 2 % 2 * 16) ≡ reached_of b
unfolding word bit
same = agree_below 256 (λ b. b / 16 * (b % 2 + b / 2 % 2 * 16)) reached_of refl

pub overflow_mul-result-2 : goal.overflow_mul-result-2
overflow_mul-result-2 c = Fits-below tt (mul-le-mul {n₂ = 15} {m₂ = 17} (omega arith) (omega arith))

pub returns : goal.returns
returns c = same c.args.route c.ranges.route.fits
