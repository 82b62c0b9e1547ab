use Rattle.std.proofs.Common.{◌≡◌, refl, cond, rules, arith}
use Rattle.bits.specs.Bits.{word}
use Rattle.lanes.specs.Bytes.{written_bytes}
use Rattle.lanes.proofs.Written.{grown}
use Rattle.lanes.proofs.written_bytes.Goals as goal
use Rattle.lanes.proofs.written_bytes.Goals.{then-test, else-test}

pub loop-j-init : goal.loop-j-init
unfolding written_bytes word
loop-j-init c = (search rules, refl)

pub loop-j-preserved : goal.loop-j-preserved
loop-j-preserved c =
    let byte : c.if-test.byte ≡ cond c.test.result 0x00 0xff =
    elim c.if-test.branch [ then-test w ↦ rw w.if-test.true w.byte-is | else-test w ↦ rw w.if-test.false w.byte-is ] in
    (search rules, rw (c.loop-j.invariant.1, byte, c.test.ensures) (grown 64 _ _ (omega arith)))

pub returns : goal.returns
returns c =
    let e : c.loop-j.j ≡ 4 = omega arith in
    rw (← e) c.loop-j.invariant.1
