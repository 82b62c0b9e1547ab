use Rattle.std.proofs.Common.{◌≡◌, ℕ, ◌≤◌, false, refl, ap₂, ◌∙◌, arith}
use borrow.Author.Tests.{ne_eqb}
use Rattle.bits.specs.Bits.{bit}
use Rattle.text.specs.Tokens.{token_by}
use Rattle.text.proofs.Tokens.{set_is}
use Rattle.capture_tokens.specs.Tokens.{blank, token_of}
use Rattle.capture_tokens.proofs.token.Goals as goal

no_blank : (c : ℕ) → 64 ≤ c → blank c ≡ false
unfolding blank
no_blank c h = rw (ne_eqb c 32 (λ e. omega arith), ne_eqb c 9 (λ e. omega arith), ne_eqb c 10 (λ e. omega arith), ne_eqb c 12 (λ e. omega arith), ne_eqb c 13 (λ e. omega arith))

pub returns : goal.returns
unfolding token_of blank bit
returns c = c.token_by.ensures ∙ ap₂ (λ f g. token_by f g c.args.s.now c.args.from) (set_is _ blank no_blank refl refl) (set_is _ blank no_blank refl refl)
