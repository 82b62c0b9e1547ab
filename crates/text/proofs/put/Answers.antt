use Rattle.std.proofs.Common.{◌≡◌, ◌+◌, ◌-◌, length, refl, arith}
use Rattle.std.proofs.lemmas.Slice.{put_mid-paste}
use Rattle.text.proofs.Buffers.{put_none, put_whole}
use Rattle.text.proofs.put.Goals as goal
use Rattle.text.proofs.put.Goals.{then-out-at-via-then-out-at, then-out-at-via-else-out-at+then-out-at-2}

pub returns-then-out-at : goal.returns-then-out-at
returns-then-out-at c =
    elim c.then-out-at.branch [ then-out-at-via-then-out-at w ↦ put_none _ _ _ (omega arith) | then-out-at-via-else-out-at+then-out-at-2 w ↦ put_none _ _ _ (omega arith) ]

pub returns : goal.returns
returns c =
    let out = c.args.out.now in
    let s = c.args.s.now in
    let e : length s ≡ c.args.at + length s - c.args.at = omega arith in
    rw (put_mid-paste c.args.at (c.args.at + length s - c.args.at) out c.copy_from_slice.new.self s (length s) c.copy_from_slice.ensures.after e refl) (put_whole out c.args.at s (omega arith))
