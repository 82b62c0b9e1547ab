use mathlib.Core.Path.{◌∙◌, sym}
use native.Mathlib.Omega.{arith}
use borrow.Author.Rules.{rules}
use borrow.Author.Tests.{lt-ltb}
use Rattle.bits.proofs.Words.{is_word}
use Rattle.bits.proofs.Operations.{bit_ones}
use Rattle.clashes.proofs.Clashes.{below}
use Rattle.clashes.proofs.bits_below.Goals as goal

pub returns-then-width-lt64 : goal.returns-then-width-lt64
returns-then-width-lt64 c = below c.args.width c.if-width-lt64.true

pub returns-else-width-lt64 : goal.returns-else-width-lt64
returns-else-width-lt64 c =
    is_word 64 (search rules) (λ i l. bit_ones 64 i ∙ lt-ltb i 64 l ∙ sym (lt-ltb i c.args.width (omega (arith, c.if-width-lt64.false))))
