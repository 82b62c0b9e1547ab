use Rattle.std.proofs.Common.{◌≡◌, ℕ, ◌+◌, Bool, drop}
use Rattle.text.specs.Tokens.{run}
use Rattle.text.proofs.past.Given as goal

abbrev pub invariant-loop-i : goal.invariant-loop-i
invariant-loop-i g l = (k : ℕ → Bool) → ((c : ℕ) (b : Bool) → g.F.Fn.post l.kind (c, tt) b → b ≡ k c) → l.i + run k (drop l.i l.left) ≡ run k l.left
