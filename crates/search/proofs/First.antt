-- The laws of `first`: what stands below it and where it stands; by these it is the only one.
use Prim.Native.Nat.{ℕ, zero, suc, ◌+◌, ◌-◌, ◌≤◌, ◌<◌}
use mathlib.Core.Path.{◌≡◌, sym, ap, ◌∙◌}
use mathlib.Core.Logic.{⊎_elim}
use mathlib.Core.Bool.{Bool, true, false, not, true≢false}
use native.Mathlib.Omega.{arith}
use lib.Dec.{eqb}
use borrow.Table.Steps.{cases}
use borrow.Author.Tests.{eq-eqb, ne_eqb}
use Rattle.bits.specs.Bits.{first, some}
use Rattle.bits.proofs.Some.{some_at, some_of}
use Rattle.bits.proofs.Words.{below}
use Rattle.lanes.proofs.LowestBit.{first_at}

pub first_le : (k : ℕ) (f : ℕ → Bool) → first k f ≤ k
unfolding first
first_le zero f = omega arith
first_le (suc k) f =
    let r = first_le k (λ i. f (suc i))
    in cases (f 0) (λ e. rw e (omega arith)) (λ e. rw e (omega arith))

-- no lower one is set
pub first_below : (k : ℕ) (f : ℕ → Bool) (i : ℕ) → i < first k f → f i ≡ false
unfolding first
first_below zero f i h = absurd (omega arith)
first_below (suc k) f zero h = cases (f 0) (λ e. absurd (omega (arith, rw e at h))) (λ e. e)
first_below (suc k) f (suc i) h =
    cases (f 0) (λ e. absurd (omega (arith, rw e at h))) (λ e. first_below k (λ j. f (suc j)) i (omega (arith, rw e at h)))

-- it is set, if it is one of the k
pub first_true : (k : ℕ) (f : ℕ → Bool) → first k f < k → f (first k f) ≡ true
unfolding first
first_true zero f h = absurd (omega arith)
first_true (suc k) f h =
    cases (f 0) (λ e. rw e e) (λ e. rw e (first_true k (λ j. f (suc j)) (omega (arith, rw e at h))))

-- none of the n bits is set
abbrev pub None : ℕ → (ℕ → Bool) → Type 0
None n f = (i : ℕ) → i < n → f i ≡ false

pub unset : (n : ℕ) (f : ℕ → Bool) → some n f ≡ false → None n f
unset n f e i h = cases (f i) (λ t. absurd (true≢false (sym (some_of n f i h t) ∙ e))) (λ u. u)

pub one_more : (n : ℕ) {f : ℕ → Bool} → None n f → f n ≡ false → None (n + 1) f
one_more n {f} none e i h =
    ⊎_elim
    (λ (l : i < n). none i l)
    (λ (l : n ≤ i).
    let q : i ≡ n = omega arith
    in rw q e)
    (below i n)

-- there is no other such number
pub is_first : (k : ℕ) (f : ℕ → Bool) (n : ℕ) → n ≤ k → None n f → (n < k → f n ≡ true) → first k f ≡ n
unfolding first
is_first zero f n h b t = omega arith
is_first (suc k) f zero h b t = rw (t (omega arith))
is_first (suc k) f (suc n) h b t =
    rw (b 0 (omega arith)) (ap suc (is_first k (λ i. f (suc i)) n (omega arith) (λ i l. b (suc i) (omega arith)) (λ l. t (omega arith))))

-- one is set exactly if the first is not past the last
pub some_first : (k : ℕ) (f : ℕ → Bool) → some k f ≡ not (eqb (first k f) k)
some_first k f =
    cases
    (some k f)
    (λ t.
    let s = some_at k f t in
    let p = first_at k f s.0 s.1 s.2 in
    rw (t, ne_eqb (first k f) k (λ q. omega (arith, p.0))))
    (λ u. rw (u, eq-eqb (first k f) k (is_first k f k (omega arith) (unset k f u) (λ l. absurd (omega arith)))))

-- ---- of a bits and b more

-- one of the a is set
pub first_in : (a b : ℕ) (f : ℕ → Bool) → some a f ≡ true → first (a + b) f ≡ first a f
first_in a b f e =
    let s = some_at a f e in
    let p = first_at a f s.0 s.1 s.2 in
    is_first (a + b) f (first a f) (omega (arith, p.0)) (first_below a f) (λ l. p.1)

-- none of them is
pub first_past : (a b : ℕ) (f : ℕ → Bool) → None a f → first (a + b) f ≡ a + first b (λ i. f (a + i))
first_past a b f none =
    let g : ℕ → Bool = λ i. f (a + i) in
    is_first
    (a + b)
    f
    (a + first b g)
    (omega (arith, first_le b g))
    (λ i h.
    ⊎_elim
    (λ (l : i < a). none i l)
    (λ (l : a ≤ i).
    let e : a + (i - a) ≡ i = omega arith
    in rw e at (first_below b g (i - a) (omega arith)))
    (below i a))
    (λ h. first_true b g (omega arith))
