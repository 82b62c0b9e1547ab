use native.Mathlib.Nat.{div-one}
use Rattle.std.proofs.Common.{◌%◌, arith}
use Rattle.bits.proofs.Writes.{put_one}
use Rattle.ipi_registers.specs.Effect.{ipi_sent}
use Rattle.ipi_registers.proofs.ipi_effect.Goals as goal

pub returns : goal.returns
unfolding ipi_sent
returns c = simp (c.new.ensures, c.put-vector.ensures, put_one 64 (c.args.value % 32) (omega arith), div-one)
