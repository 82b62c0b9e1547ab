use Rattle.script.proofs.Counts.{steps_first}
use Rattle.script.proofs.Rule.{block_rule}
use Rattle.script.proofs.clash_count.Goals as goal

pub returns : goal.returns
returns c = (
  rw (c.clashes_among.ensures, c.min.ensures, steps_first c.args.n 256 c.args.block.now c.told-block),
  block_rule _ c.compared.ensures.1 _,
)
