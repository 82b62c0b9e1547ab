use Rattle.capture_dump.proofs.Pieces.{inked_emitted}
use Rattle.capture.proofs.Walking.{wholes}
use Rattle.capture.proofs.walk_all.Goals as goal

pub returns : goal.returns
returns c = wholes (inked_emitted c.put_opening-pen.ensures) c.walk.ensures
