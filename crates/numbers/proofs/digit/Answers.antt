use Rattle.numbers.proofs.Read.{digit_read}
use Rattle.std.proofs.Common.{◌<◌, subst, rules}
use Rattle.std.specs.Prelude.{SomeIff}
use Rattle.std.specs.Char.{digit_value}
use Rattle.numbers.proofs.digit.Goals as goal

pub returns : goal.returns
returns c =
    digit_read c.args.base c.args.c c.to_digit.result c.requires.base_bound (search rules)
    (subst (λ x. SomeIff c.to_digit.result (digit_value x < c.args.base) (digit_value x)) c.from.ensures c.to_digit.ensures.value)
