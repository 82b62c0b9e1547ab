use Rattle.std.proofs.Common.{append_assoc}
use Rattle.numbers.specs.Printed.{decimal_of}
use Rattle.numbers.proofs.Printed.{ended_text}
use Rattle.capture_dump.specs.Dump.{time_text}
use Rattle.capture_dump.proofs.push_time.Goals as goal

pub returns-clause-text : goal.returns-clause-text
unfolding time_text
returns-clause-text c =
    rw (c.push-3.ensures, c.push-2.ensures, c.push.ensures, c.as_slice.ensures, ended_text (decimal_of c.args.n) c.decimal-digits.result c.decimal-digits.ensures) (simp append_assoc)
