use Rattle.std.proofs.Common.{◌≡◌, ◌<◌, ◌^◌, drop}
use Rattle.numbers.specs.Numbers.{value_from}
use Rattle.numbers.proofs.value.Given as goal

abbrev pub invariant-loop-c : goal.invariant-loop-c
invariant-loop-c l = record { same : value_from l.base l.n (drop l.c-index l.s) ≡ value_from l.base 0 l.s; fits : l.n < 2 ^ 64 }
