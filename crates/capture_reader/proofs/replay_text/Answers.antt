use Rattle.std.proofs.Common.{◌∙◌}
use Rattle.capture.proofs.From.{from_start, buffer_from_start}
use Rattle.capture_reader.proofs.replay_text.Goals as goal

pub returns-clause-value : goal.returns-clause-value
returns-clause-value c = c.replay_at.ensures.value ∙ from_start c.args.d c.args.text.now c.args.out.now c.args.used

pub returns-clause-out_after : goal.returns-clause-out_after
returns-clause-out_after c = c.replay_at.ensures.out_after ∙ buffer_from_start c.args.d c.args.text.now c.args.out.now c.args.used
