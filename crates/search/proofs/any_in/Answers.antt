use Rattle.bits.proofs.Some.{some_is}
use Rattle.search.proofs.any_in.Goals as goal

pub returns : goal.returns
returns c = some_is 8 _ c.group.ensures
