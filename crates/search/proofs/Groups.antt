-- A search by groups answers as a reading of all bits would, over the number and the size of the groups.
use Prim.Native.Nat.{ℕ, zero, suc, ◌+◌, ◌*◌}
use mathlib.Core.Path.{◌≡◌, sym, ap, ◌∙◌}
use mathlib.Core.Bool.{Bool, true, false}
use native.Mathlib.Nat.{mul-suc, mul-zero, suc-mul, zero-add, zero-mul}
use native.Mathlib.Omega.{arith}
use lib.Dec.{ltb}
use borrow.Table.Steps.{cases}
use borrow.Author.Tests.{lt-ltb, le-ltb, ltb-true, ltb-false}
use Rattle.bits.specs.Bits.{first, some}
use Rattle.bits.proofs.Some.{some_cong}
use Rattle.bits.proofs.Lowest.{first_cong}
use Rattle.search.specs.Groups.{GroupSearch, by_groups, first_group, in_group}
use Rattle.search.proofs.First.{first_in, first_past, unset}

-- the groups from the second on are those of the bits from m on
shift : (m : ℕ) (f : ℕ → Bool) (g j : ℕ) → in_group m f (suc g) j ≡ in_group m (λ i. f (m + i)) g j
shift m f g j =
    let e : m * suc g + j ≡ m + (m * g + j) = rw (mul-suc m g) (omega arith)
    in ap f e

-- the first group is that of the first m bits
from_0 : (m : ℕ) (f : ℕ → Bool) (j : ℕ) → in_group m f 0 j ≡ f j
from_0 m f j =
    let e : m * 0 + j ≡ j = rw (mul-zero m) (omega arith)
    in ap f e

-- no group
nothing : (m : ℕ) (f : ℕ → Bool) → by_groups 0 m f ≡ first (0 * m) f
unfolding by_groups first
nothing m f = rw (zero-mul m)

-- the first group has one
here : (n m : ℕ) (f : ℕ → Bool) → some m f ≡ true → by_groups (suc n) m f ≡ first m f
unfolding by_groups first
here n m f t =
    rw (some_cong m (λ j h. from_0 m f j), t, lt-ltb 0 (suc n) (omega arith), mul-zero, zero-add) (first_cong m (λ j h. from_0 m f j))

-- it has none, so that the search goes on behind it
further : (n m : ℕ) (f : ℕ → Bool) → some m f ≡ false → by_groups (suc n) m f ≡ m + by_groups n m (λ i. f (m + i))
unfolding by_groups first
further n m f e =
    let g = first_group n m (λ i. f (m + i)) in
    rw (some_cong m (λ j h. from_0 m f j), e, first_cong n (λ i h. some_cong m (λ j l. shift m f i j)))
    (cases
    (ltb g n)
    (λ t. rw (t, lt-ltb (suc g) (suc n) (omega (arith, ltb-true g n t)), first_cong m (λ j h. shift m f g j), mul-suc) (omega arith))
    (λ u. rw (u, le-ltb (suc g) (suc n) (omega (arith, ltb-false g n u)), suc-mul n m) (omega arith)))

pub group_search : GroupSearch
group_search zero m f = nothing m f
group_search (suc n) m f =
    let e : m + n * m ≡ suc n * m = rw (suc-mul n m) (omega arith) in
    cases
    (some m f)
    (λ t. here n m f t ∙ sym (first_in m (n * m) f t))
    (λ u. further n m f u ∙ ap (λ (k : ℕ). m + k) (group_search n m (λ i. f (m + i))) ∙ sym (first_past m (n * m) f (unset m f u)))
    ∙ ap (λ (k : ℕ). first k f) e
