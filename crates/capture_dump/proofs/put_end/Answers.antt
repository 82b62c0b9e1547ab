use Rattle.capture_dump.specs.Dump.{end_text}
use Rattle.capture_dump.proofs.put_end.Goals as goal

pub returns-in-Some : goal.returns-in-Some
unfolding end_text
returns-in-Some c = rw (c.in-Some.is, ← c.mark-m.ensures, ← c.as_slice.ensures) c.emit.ensures

pub returns-in-None : goal.returns-in-None
unfolding end_text
returns-in-None c = rw c.in-None.is c.emit-in-None.ensures
