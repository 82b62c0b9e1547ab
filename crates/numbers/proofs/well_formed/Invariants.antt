use Rattle.std.proofs.Common.{◌≡◌, false, drop}
use Rattle.numbers.specs.Numbers.{formed}
use Rattle.numbers.proofs.well_formed.Given as goal

abbrev pub invariant-loop-c : goal.invariant-loop-c
invariant-loop-c l = formed l.base l.after (drop l.c-index l.s) ≡ formed l.base false l.s
