use mathlib.Core.Path.{sym}
use native.Mathlib.Nat.{mul-one}
use Rattle.std.proofs.Common.{◌≡◌, ◌%◌, arith}
use Rattle.ipi_registers.specs.Effect.{in_half}
use Rattle.ipi_registers.proofs.in_half.Goals as goal

pub returns-in-0 : goal.returns-in-0
unfolding in_half
returns-in-0 c = rw c.in-0.is (sym (mul-one _))

pub returns-in_default : goal.returns-in_default
unfolding in_half
returns-in_default c = let odd : c.args.h % 2 ≡ 1 = omega arith in rw odd
