use native.Mathlib.Omega.{arith}
use borrow.Author.Rules.{rules}
use Rattle.bits.proofs.Writes.{merge_low, moved_low}
use Rattle.bridge.proofs.Moved.{moved_route}
use Rattle.bridge.proofs.route_written.Goals as goal

pub returns : goal.returns
returns c =
    rw (c.choose.ensures, c.put_at.ensures, c.merge-new.ensures, moved_low 2 8 _ _ _ (omega arith), merge_low 2 8 _ _ _ (omega arith), c.byte_at.ensures)
    (moved_route c.args.routes (search rules) _ _ _)
