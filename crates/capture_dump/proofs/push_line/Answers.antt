use mathlib.Core.List.{append-nil}
use Rattle.capture_dump.specs.Dump.{line_text}
use Rattle.capture_dump.proofs.push_line.Goals as goal

pub returns-then-shows-clause-text : goal.returns-then-shows-clause-text
unfolding line_text
returns-then-shows-clause-text c = rw c.if-shows.true c.push_value.ensures.text

pub returns-else-shows-clause-text : goal.returns-else-shows-clause-text
unfolding line_text
returns-else-shows-clause-text c = rw (c.if-shows.false, append-nil)
