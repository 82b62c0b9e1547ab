use Rattle.turns.proofs.Sources.{shown_words}
use Rattle.turns.proofs.Turns.shown_on.Goals as goal

pub returns : goal.returns
returns c = rw (c.without.ensures, c.gather.ensures, c.both.ensures, c.gather-sources.ensures) (shown_words _ _ _ _ _)
