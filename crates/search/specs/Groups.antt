-- A search by groups: n groups of m bits each. Bit j of group g is bit m * g + j.
--   found   a number below n, as an Option: None where the search ended at n
--   by_groups   first the group, then the bit in it     GroupSearch   it answers as a reading of all n * m bits would
use Rattle.std.specs.Prelude.{ℕ, ◌+◌, ◌*◌, ◌≡◌, Bool, cond, ltb, Option, Some, None}
use Rattle.bits.specs.Bits.{first, some}

abbrev pub found : ℕ → ℕ → Option ℕ
found n i = cond (ltb i n) (Some i) None

abbrev pub in_group : ℕ → (ℕ → Bool) → ℕ → ℕ → Bool
in_group m f g j = f (m * g + j)

-- the first group that has a bit set, and n where none has
abbrev pub first_group : ℕ → ℕ → (ℕ → Bool) → ℕ
first_group n m f = first n (λ g. some m (in_group m f g))

-- the lowest bit of that group, and n * m where there is no such group
unfoldable pub by_groups : ℕ → ℕ → (ℕ → Bool) → ℕ
by_groups n m f =
    let g = first_group n m f in
    cond (ltb g n) (m * g + first m (in_group m f g)) (n * m)

abbrev pub GroupSearch : Type 0
GroupSearch = (n m : ℕ) (f : ℕ → Bool) → by_groups n m f ≡ first (n * m) f
