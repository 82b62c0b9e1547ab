use Rattle.bridge.specs.Sources.{read_of}
use Rattle.bridge.proofs.Shown.{shows}
use Rattle.bridge.proofs.Bridge.in_service.Goals as goal

pub returns-in-Chip0 : goal.returns-in-Chip0
unfolding read_of
returns-in-Chip0 c = rw (c.shown_on_0.ensures, c.turns.ensures, c.in-Chip0.is, c.pending-pending.ensures) (shows _ 0)

pub returns-in-Chip1 : goal.returns-in-Chip1
unfolding read_of
returns-in-Chip1 c = rw (c.shown_on_1.ensures, c.turns-in-Chip1.ensures, c.in-Chip1.is, c.pending-pending.ensures) (shows _ 1)
