use Rattle.turns.proofs.Sources.{moved_on}
use Rattle.turns.proofs.Turns.turned.Goals as goal

pub returns : goal.returns
returns c =
    rw (c.moved_on.ensures, c.gather-2.ensures, c.gather.ensures, c.both-fallen.ensures, c.without.ensures) (moved_on _ _ _ _ _)
