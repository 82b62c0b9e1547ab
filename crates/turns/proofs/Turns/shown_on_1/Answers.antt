use Rattle.turns.proofs.Sources.{at_1}
use Rattle.turns.proofs.Turns.shown_on_1.Goals as goal

pub returns : goal.returns
returns c = rw (c.shown_on.ensures, c.without.ensures) (at_1 _ _ _ _)
