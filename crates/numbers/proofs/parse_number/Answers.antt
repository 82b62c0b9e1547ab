use Rattle.std.proofs.Common.{ap, sym, ◌∙◌}
use Rattle.numbers.specs.Numbers.{number_in, number_of}
use Rattle.numbers.proofs.Read.{marked_is}
use Rattle.numbers.proofs.parse_number.Goals as goal

pub returns-in-Some : goal.returns-in-Some
unfolding number_of
returns-in-Some c =
    rw (sym (marked_is c.args.s.now) ∙ c.in-Some.ensures.cases.0) (c.parse_digits.ensures ∙ ap (number_in 16) c.in-Some.ensures.cases.1)

pub returns-in-None : goal.returns-in-None
unfolding number_of
returns-in-None c = rw (sym (marked_is c.args.s.now) ∙ c.in-None.ensures.cases) c.parse_digits-in-None.ensures
