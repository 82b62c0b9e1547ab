use Rattle.bits.proofs.Operations.{words64}
use Rattle.clashes.proofs.opposite.Goals as goal

pub returns : goal.returns
returns c = search words64
