use Rattle.capture_dump.specs.Dump.{value_text}
use Rattle.capture_dump.proofs.push_value.Goals as goal
use Rattle.capture_dump.proofs.push_value.Goals.{then-on, else-on}

pub returns-clause-text : goal.returns-clause-text
unfolding value_text
returns-clause-text c = elim c.if-on.branch [ then-on w ↦ rw (c.push.ensures, w.if-on.true, w.digit-is) | else-on w ↦ rw (c.push.ensures, w.if-on.false, w.digit-is) ]
