use Rattle.turns.proofs.Sources.{at_0}
use Rattle.turns.proofs.Turns.shown_on_0.Goals as goal

pub returns : goal.returns
returns c = rw (c.shown_on.ensures, c.both.ensures) (at_0 _ _ _ _)
