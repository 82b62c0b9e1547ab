use Prim.Native.Nat.{ℕ}
use mathlib.Core.Bool.{Bool, false}
use native.Mathlib.Omega.{arith}
use lib.ListN.{get_or}
use borrow.Author.Rules.{rules}
use Rattle.bits.proofs.Operations.{push}
use Rattle.answers.proofs.Lines.{above, word_one}
use Rattle.answers.specs.Answers.{first_four, lines_word}
use Rattle.answers.proofs.Answer.lines.Goals as goal

pub returns : goal.returns
unfolding lines_word
returns c =
    let a = c.args.self
    in let f : ℕ → Bool = λ i. get_or (first_four a) i false
    in rw (← above 64 4 8 f {p = a.pins} (search rules) (omega arith), ← push 64 3 f (omega arith), ← push 64 2 f (omega arith), ← push 64 1 f (omega arith), word_one f)
