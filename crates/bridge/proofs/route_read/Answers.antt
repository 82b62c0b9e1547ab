use mathlib.Core.Path.{sym}
use Rattle.bits.proofs.Words.{word_mod}
use Rattle.bridge.proofs.route_read.Goals as goal

pub returns : goal.returns
returns c = rw (c.from.ensures, c.byte_at.ensures) (sym (word_mod 2 _))
