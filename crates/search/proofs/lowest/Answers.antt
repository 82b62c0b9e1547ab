use Rattle.std.proofs.Common.{sym, ap, ◌∙◌}
use Rattle.bits.specs.Bits.{bit}
use Rattle.search.specs.Groups.{found, in_group}
use Rattle.search.proofs.Found.{first_word, has_one, no_group, one_there}
use Rattle.search.proofs.lowest.Goals as goal

pub returns-in_err-g : goal.returns-in_err-g
returns-in_err-g c = c.from_residual.ensures ∙ no_group (bit c.args.w) (sym c.first_group.ensures ∙ c.in_err-g.was)

-- a group that has a bit set has a lowest one
pub returns-in_err-j : goal.returns-in_err-j
returns-in_err-j c =
    let f = bit c.args.w in
    let e = ap (found 8) (sym (first_word (in_group 8 f c.in_ok-g.g) c.group.ensures)) in
    absurd (has_one f (sym c.first_group.ensures ∙ c.in_ok-g.was) (e ∙ sym c.lowest_in.ensures ∙ c.in_err-j.was))

pub returns : goal.returns
returns c =
    let f = bit c.args.w in
    let e = ap (found 8) (sym (first_word (in_group 8 f c.in_ok-g.g) c.group.ensures)) in
    one_there f (sym c.first_group.ensures ∙ c.in_ok-g.was) (e ∙ sym c.lowest_in.ensures ∙ c.in_ok-j.was)
