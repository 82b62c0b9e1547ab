use Rattle.std.proofs.Common.{refl}
use Rattle.capture_dump.proofs.Pieces.{inked_emitted}
use Rattle.capture.proofs.Walking.{walks_none}
use Rattle.capture.proofs.finish.Goals as goal

pub returns : goal.returns
returns c look = walks_none look c.args.state c.args.time c.args.now refl refl (rw c.lines.ensures at (inked_emitted c.put_end.ensures))
