-- The search for the lowest source that is in service, as a reading of all 64.
use Prim.Native.Nat.{ℕ, ◌<◌, ◌≤◌}
use mathlib.Core.Path.{◌≡◌}
use mathlib.Core.Bool.{Bool, cond}
use mathlib.Core.Logic.{⊎_elim}
use native.Mathlib.Omega.{arith}
use borrow.Author.Tests.{eq-eqb, le-ltb, lt-ltb, ne_eqb}
use Rattle.std.specs.Prelude.{Ok, Err}
use Rattle.std.specs.Option.{ok_or}
use Rattle.access.specs.declared.Refusal.{Refusal}
use Rattle.bits.specs.Bits.{first, some}
use Rattle.bits.proofs.Words.{below}
use Rattle.search.specs.Groups.{found}
use Rattle.search.proofs.First.{first_le, some_first}

pub found_first : (f : ℕ → Bool) (none : Refusal) → ok_or (found 64 (first 64 f)) none ≡ cond (some 64 f) (Ok (first 64 f)) (Err none)
found_first f none =
    let n = first 64 f in
    rw (some_first 64 f)
    (⊎_elim
    (λ (l : n < 64). rw (lt-ltb n 64 l, ne_eqb n 64 (λ q. omega arith)))
    (λ (l : 64 ≤ n). rw (le-ltb n 64 l, eq-eqb n 64 (omega (arith, first_le 64 f))))
    (below n 64))
