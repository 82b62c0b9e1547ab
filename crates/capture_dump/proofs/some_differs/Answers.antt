use Rattle.std.proofs.Common.{◌≡◌, Bool, true, false, not, ◌&&◌, ◌||◌, refl}
use Rattle.std.specs.Bool.{beq}
use Rattle.capture_dump.specs.Dump.{some_differs, differs}
use Rattle.capture_dump.proofs.some_differs.Goals as goal

-- Four that are not all equal: one of them differs.
unequal : (a b c d : Bool) → not (a && (b && (c && d))) ≡ (not a || (not b || (not c || not d)))
unequal true true true d = refl
unequal true true false d = refl
unequal true false c d = refl
unequal false b c d = refl

pub returns-then-first : goal.returns-then-first
unfolding some_differs differs
returns-then-first c = rw c.if-first.true

pub returns-else-first : goal.returns-else-first
unfolding some_differs differs
returns-else-first c =
    let b = c.args.before in
    let a = c.args.after in
    rw (c.if-first.false, c.ne.ensures) (unequal (beq b.ipi0 a.ipi0) (beq b.ipi1 a.ipi1) (beq b.br0 a.br0) (beq b.br1 a.br1))
