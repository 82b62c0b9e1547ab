use Rattle.bits.proofs.Operations.{words64}
use Rattle.bridge.specs.Sources.{drive_word}
use Rattle.bridge.proofs.Bridge.drive.Goals as goal

pub returns : goal.returns
unfolding drive_word
returns c = search words64
