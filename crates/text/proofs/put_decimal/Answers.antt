use Rattle.std.proofs.Common.{rules}
use Rattle.text.proofs.Buffers.{put_digits}
use Rattle.text.proofs.put_decimal.Goals as goal

pub returns : goal.returns
returns c = search (rules, put_digits)
