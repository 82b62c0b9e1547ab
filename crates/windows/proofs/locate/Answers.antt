use mathlib.Core.Path.{sym, ◌∙◌}
use Rattle.windows.proofs.Ranges.{located_beside}
use Rattle.windows.proofs.locate.Goals as goal

pub returns-in-None : goal.returns-in-None
returns-in-None c = c.beside.ensures ∙ sym (located_beside _ _ (rw c.own_offset.ensures at (sym c.entry_at.ensures ∙ c.in-None.is)))
