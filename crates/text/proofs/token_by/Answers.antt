use Rattle.std.proofs.Common.{◌≡◌, not, rules}
use Rattle.bits.specs.Bits.{bit}
use Rattle.text.specs.Tokens.{past, token_by}
use Rattle.text.proofs.token_by.Goals as goal

pub returns : goal.returns
unfolding token_by
returns c =
    let a : c.past-start.result ≡ past (bit c.args.blanks) c.args.s.now c.args.from = c.past-start.ensures (bit c.args.blanks) (λ x b h. search (rules, h)) in
    let b : c.past-end.result ≡ past (λ x. not (bit c.args.ends x)) c.args.s.now c.past-start.result = c.past-end.ensures (λ x. not (bit c.args.ends x)) (λ x b h. search (rules, h)) in
    rw (b, a)
