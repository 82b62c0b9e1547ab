-- A search that ends with an Option: over a range, and by groups.
use Prim.Native.Nat.{ℕ, ◌+◌, ◌*◌, ◌≤◌, ◌<◌}
use mathlib.Core.Path.{◌≡◌, sym, ap, ◌∙◌}
use mathlib.Core.Bool.{Bool, true, false, not, true≢false}
use native.Mathlib.Omega.{arith}
use lib.Dec.{ltb}
use borrow.Table.Steps.{cases}
use borrow.Author.Tests.{lt-ltb, le-ltb, ltb-true, ltb-false, eq-eqb}
use Rattle.std.specs.Prelude.{Option, Some, None, MatchOption}
use Rattle.bits.specs.Bits.{bit, first, some, word}
use Rattle.bits.proofs.Lowest.{first_cong}
use Rattle.bits.proofs.Words.{bit_word}
use Rattle.search.specs.Groups.{by_groups, first_group, found, in_group}
use Rattle.search.proofs.First.{first_le, first_true, is_first, some_first}
use Rattle.search.proofs.Groups.{group_search}

-- what `find` over the numbers below n answers
pub found_first : (n : ℕ) (f : ℕ → Bool) (r : Option ℕ)
    → MatchOption r ((k : ℕ) → 0 ≤ k → k < n → f k ≡ false) (λ i. (0 ≤ i) × (i < n) × (f i ≡ true) × ((k : ℕ) → 0 ≤ k → k < i → f k ≡ false))
    → r ≡ found n (first n f)
found_first n f None h =
    rw (is_first n f n (omega arith) (λ i l. h i (omega arith) l) (λ l. absurd (omega arith)), le-ltb n n (omega arith))
found_first n f (Some i) (o, l, t, b) = rw (is_first n f i (omega arith) (λ k p. b k (omega arith) p) (λ p. t), lt-ltb i n l)

-- the lowest bit of a group that stands as a word of its own
pub first_word : (f : ℕ → Bool) {n : ℕ} → n ≡ word 8 f → first 8 (bit n) ≡ first 8 f
first_word f e = rw e (first_cong 8 (bit_word 8 f))

module _ (n : ℕ) (i : ℕ) where
  -- a number that was found
  pub found_some : {j : ℕ} → found n i ≡ Some j → (i < n) × (i ≡ j)
  found_some {j} e = cases (ltb i n) (λ t. let s : Some i ≡ Some j = rw t at e in (ltb-true i n t, cc)) (λ u. let s : None ≡ Some j = rw u at e in cc)

  pub found_none : found n i ≡ None → n ≤ i
  found_none e = cases (ltb i n) (λ t. let s : Some i ≡ None = rw t at e in cc) (λ u. ltb-false i n u)

module _ (f : ℕ → Bool) where
  abbrev group : ℕ
  group = first_group 8 8 f

  -- no group has one
  pub no_group : found 8 group ≡ None → None ≡ found 64 (first 64 f)
  unfolding by_groups
  no_group e =
      let l = found_none 8 group e in
      rw (← group_search 8 8 f, le-ltb group 8 l)

  -- a group that was found has one
  pub has_one : {g : ℕ} → found 8 group ≡ Some g → found 8 (first 8 (in_group 8 f g)) ≡ None → ⊥
  has_one {g} e z =
      let p = found_some 8 group e in
      let some_there : some 8 (in_group 8 f g) ≡ true = rw p.1 at (first_true 8 (λ i. some 8 (in_group 8 f i)) p.0) in
      let none_there : first 8 (in_group 8 f g) ≡ 8 = omega (arith, found_none 8 _ z, first_le 8 (in_group 8 f g)) in
      true≢false (sym some_there ∙ some_first 8 (in_group 8 f g) ∙ ap not (eq-eqb _ 8 none_there))

  pub one_there : {g j : ℕ} → found 8 group ≡ Some g → found 8 (first 8 (in_group 8 f g)) ≡ Some j → Some (8 * g + j) ≡ found 64 (first 64 f)
  unfolding by_groups
  one_there {g} {j} e d =
      let p = found_some 8 group e in
      let q = found_some 8 (first 8 (in_group 8 f g)) d in
      let g_lt : g < 8 = omega (arith, p.0, p.1) in
      let j_lt : j < 8 = omega (arith, q.0, q.1) in
      rw (← group_search 8 8 f, lt-ltb group 8 p.0, p.1, q.1, lt-ltb (8 * g + j) 64 (omega arith))
