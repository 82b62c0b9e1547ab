-- The laws of table lookup: a moved table, and two tables one after the other, whose rows lie in different ranges.
use Prim.Native.Nat.{ℕ, ◌+◌, ◌≤◌, ◌<◌}
use mathlib.Core.Path.{◌≡◌, refl, sym, ap}
use mathlib.Core.Logic.{◌⊎◌, inl, inr, ⊎_elim}
use mathlib.Core.Bool.{Bool, true, false, cond, not, ◌&&◌}
use mathlib.Core.List.{List, [], ◌∷◌, ◌++◌}
use native.Mathlib.Omega.{arith}
use lib.Dec.{T, eqb, leb, ltb, leb→le, ltb→lt}
use borrow.Author.Tests.{eq-eqb, ne_eqb, eqb-true, eqb-false}
use borrow.Table.Steps.{cases}
use mir.Facts.{and_yes}
use Rattle.bits.proofs.Cond.{cond_ap}
use Rattle.access.specs.Table.{Row, lookup, based}

-- an offset elsewhere is not k
other : (lo hi o : ℕ) → (o < lo) ⊎ (hi ≤ o) → (k : ℕ) → T (leb lo k && ltb k hi) → eqb o k ≡ false
other lo hi o h k t =
    let p = and_yes (leb lo k) (ltb k hi) t
    in let a = leb→le lo k p.0
    in let b = ltb→lt k hi p.1
    in ⊎_elim (λ l. ne_eqb o k (λ e. omega arith)) (λ l. ne_eqb o k (λ e. omega arith)) h

module _ {A : Type 0} where
  -- the rows lie from lo on and below hi
  abbrev pub inside : ℕ → ℕ → List (Row A) → Bool
  inside lo hi [] = true
  inside lo hi (r ∷ rs) = (leb lo r.offset && ltb r.offset hi) && inside lo hi rs

  -- an offset elsewhere is in no row
  pub lookup_outside : (lo hi o : ℕ) → (o < lo) ⊎ (hi ≤ o) → (none : A) (rs : List (Row A)) → T (inside lo hi rs) → lookup none rs o ≡ none
  lookup_outside lo hi o h none [] t = refl
  lookup_outside lo hi o h none (r ∷ rs) t =
      let p = and_yes (leb lo r.offset && ltb r.offset hi) (inside lo hi rs) t
      in rw (other lo hi o h r.offset p.0) (lookup_outside lo hi o h none rs p.1)

  pub append_first : (none : A) (rs qs : List (Row A)) (o : ℕ) → lookup none qs o ≡ none → lookup none (rs ++ qs) o ≡ lookup none rs o
  append_first none [] qs o e = e
  append_first none (r ∷ rs) qs o e = ap (cond (eqb o r.offset) r.entry) (append_first none rs qs o e)

  append_second : (lo hi o : ℕ) → hi ≤ o → (none : A) (rs qs : List (Row A)) → T (inside lo hi rs) → lookup none (rs ++ qs) o ≡ lookup none qs o
  append_second lo hi o h none [] qs t = refl
  append_second lo hi o h none (r ∷ rs) qs t =
      let p = and_yes (leb lo r.offset && ltb r.offset hi) (inside lo hi rs) t
      in rw (other lo hi o (inr h) r.offset p.0) (append_second lo hi o h none rs qs p.1)

-- two tables one after the other, the first with its rows below mid, the second with its rows from mid on
module _ {A : Type 0} (none : A) (lo mid hi : ℕ) (rs qs : List (Row A)) (r : T (inside lo mid rs)) (q : T (inside mid hi qs)) where
  pub lookup_low : (o : ℕ) → o < mid → lookup none (rs ++ qs) o ≡ lookup none rs o
  lookup_low o h = append_first none rs qs o (lookup_outside mid hi o (inl h) none qs q)

  pub lookup_high : (o : ℕ) → mid ≤ o → lookup none (rs ++ qs) o ≡ lookup none qs o
  lookup_high o h = append_second lo mid o h none rs qs r

same_sum : (a b c : ℕ) → eqb (a + b) (a + c) ≡ eqb b c
same_sum a b c = by (eqb b c) refl
  where
    by : (t : Bool) → eqb b c ≡ t → eqb (a + b) (a + c) ≡ t
    by true e = eq-eqb (a + b) (a + c) (ap (◌+◌ a) (eqb-true b c e))
    by false e = ne_eqb (a + b) (a + c) (λ q. eqb-false b c e (omega arith))

-- a moved table has at base plus an offset what the table has at the offset
pub lookup_based : {A B : Type 0} (none : A) (base : ℕ) (f : A → B) (rs : List (Row A)) (o : ℕ)
    → lookup (f none) (based base f rs) (base + o) ≡ f (lookup none rs o)
lookup_based none base f [] o = refl
lookup_based none base f (r ∷ rs) o =
    rw (same_sum base o r.offset, lookup_based none base f rs o) (sym (cond_ap f (eqb o r.offset) r.entry (lookup none rs o)))

false_of : (b : Bool) → T (not b) → b ≡ false
false_of false t = refl
false_of true t = absurd t

-- two tables one after the other, where no row of the first says that nothing is there: the second has what the first has not
module _ {A : Type 0} (none : A) (missing : A → Bool) (m : missing none ≡ true) where
  abbrev pub filled : List (Row A) → Bool
  filled [] = true
  filled (r ∷ rs) = not (missing r.entry) && filled rs

  pub lookup_or : (rs qs : List (Row A)) → T (filled rs) → (o : ℕ)
      → lookup none (rs ++ qs) o ≡ cond (missing (lookup none rs o)) (lookup none qs o) (lookup none rs o)
  lookup_or [] qs t o = rw m
  lookup_or (r ∷ rs) qs t o =
      let p = and_yes (not (missing r.entry)) (filled rs) t
      in cases (eqb o r.offset) (λ e. rw (e, false_of (missing r.entry) p.0)) (λ e. rw e (lookup_or rs qs p.1 o))
