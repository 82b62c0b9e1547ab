use Rattle.std.proofs.Common.{◌≡◌, ℕ, ◌+◌, ◌^◌, ◌<◌, List, ◌++◌, length, suc, replicate}
use Rattle.numbers.specs.Printed.{digits_of}
use Rattle.numbers.proofs.spell.Given as goal

abbrev pub invariant-loop-rest : goal.invariant-loop-rest
invariant-loop-rest l =
    (l.rest < l.base ^ suc l.start) × ((t : List ℕ) × (l.bytes ≡ replicate (suc l.start) 0 ++ t) × (suc l.start + length t ≡ 20) × (digits_of l.base l.rest ++ t ≡ digits_of l.base l.n))

abbrev pub decreases-loop-rest : goal.decreases-loop-rest
decreases-loop-rest l = l.start
