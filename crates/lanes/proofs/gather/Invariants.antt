use Rattle.std.proofs.Common.{◌&&◌, ◌<◌, ◌^◌, get_or, nat_eq}
use Rattle.bits.specs.Bits.{bit}
use Rattle.lanes.proofs.Rest.{Rest}
use Rattle.lanes.proofs.gather.Given as goal

abbrev pub invariant-loop-all : goal.invariant-loop-all
invariant-loop-all g l =
    let w = g.W.Word in
    w.number l.w < 2 ^ w.size
    → Rest w.size w.size (λ i j. nat_eq j i && bit (get_or l.all i 0) l.k) (w.number l.fn.which) (w.number l.w) l.r

abbrev pub decreases-loop-all : goal.decreases-loop-all
decreases-loop-all g l = g.W.Word.number l.w
