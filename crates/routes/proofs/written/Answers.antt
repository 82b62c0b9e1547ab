use Rattle.std.proofs.Common.{rules}
use Rattle.routes.proofs.Moved.{moved_held}
use Rattle.routes.proofs.written.Goals as goal

pub returns : goal.returns
returns c =
    rw (c.choose.ensures, c.held.ensures, c.put_at.ensures, c.merge-new.ensures, c.byte_at.ensures)
    (moved_held c.args.routes (search rules) _ _ _)
