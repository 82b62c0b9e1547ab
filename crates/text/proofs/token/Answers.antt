use Rattle.std.proofs.Common.{◌≡◌, ℕ, ◌≤◌, false, refl, ap, ap₂, ◌∙◌, arith, rules}
use borrow.Author.Tests.{ne_eqb}
use Rattle.bits.specs.Bits.{bit}
use Rattle.text.specs.Tokens.{blank, ends, token_by, token_of}
use Rattle.text.proofs.Tokens.{set_is}
use Rattle.text.proofs.token.Goals as goal

no_blank : (c : ℕ) → 64 ≤ c → blank c ≡ false
unfolding blank
no_blank c h = rw (ne_eqb c 32 (λ e. omega arith), ne_eqb c 9 (λ e. omega arith))

no_end : (c : ℕ) → 64 ≤ c → ends c ≡ false
unfolding ends
no_end c h = rw (no_blank c h, ne_eqb c 35 (λ e. omega arith))

pub returns : goal.returns
unfolding token_of blank ends bit
returns c =
    c.token_by.ensures
    ∙ ap₂ (λ f g. token_by f g c.args.s.now c.min.result) (set_is _ blank no_blank refl refl) (set_is _ ends no_end refl refl)
    ∙ ap (token_by blank ends c.args.s.now) (search rules)
