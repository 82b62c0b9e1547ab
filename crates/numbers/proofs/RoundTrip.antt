-- A number that is printed and read is the number, in every base from 2 to 16.
use Prim.Native.Nat.{ℕ, zero, suc, ◌+◌, ◌*◌, ◌/◌, ◌%◌, ◌^◌, ◌<◌, ◌≤◌}
use mathlib.Core.Path.{◌≡◌, refl, sym, ap, ◌∙◌}
use mathlib.Core.Logic.{⊎_elim}
use mathlib.Core.Bool.{Bool, true, false, cond, and-false, true≢false}
use mathlib.Core.List.{List, [], ◌∷◌, ◌++◌, append-nil}
use native.Mathlib.Nat.{not-suc-le-zero, div-lt_self, div-add-mod', mod-lt, zero-mul, zero-add}
use native.Mathlib.Omega.{arith}
use borrow.Table.Steps.{cases}
use borrow.Author.Tests.{lt-ltb, le-ltb, le-leb, lt-leb, eqb-true}
use lib.Dec.{eqb, ltb}
use lib.Seq.{append_snoc}
use Rattle.bits.proofs.Words.{below}
use Rattle.std.specs.Prelude.{Ok}
use Rattle.numbers.specs.Numbers.{digit_of, separates, formed, value_from, bounded, number_in, marked, number_of}
use Rattle.numbers.specs.Printed.{glyph, digits_within, digits_of, decimal_of}
use Rattle.numbers.specs.RoundTrip.{HexRoundTrip, DecimalRoundTrip}
use Rattle.numbers.proofs.Numbers.{bounded_value}

-- The character of a digit is read as the digit.
decimal_glyph : (d : ℕ) → d < 10 → digit_of (48 + d) ≡ d
unfolding digit_of
decimal_glyph d h = simp (le-leb 48 (48 + d) (omega arith), le-leb (48 + d) 57 (omega arith)) (omega arith)

letter_glyph : (d : ℕ) → 10 ≤ d → d < 16 → digit_of (87 + d) ≡ d
unfolding digit_of
letter_glyph d l h =
    simp (lt-leb (87 + d) 57 (omega arith), lt-leb (87 + d) 70 (omega arith), and-false, le-leb 97 (87 + d) (omega arith), le-leb (87 + d) 102 (omega arith)) (omega arith)

read_glyph : (d : ℕ) → d < 16 → digit_of (glyph d) ≡ d
unfolding glyph
read_glyph d h =
    ⊎_elim (λ l. rw (lt-ltb d 10 l) (decimal_glyph d l)) (λ m. rw (le-ltb d 10 m) (letter_glyph d m h)) (below d 10)

module _ (base : ℕ) (more : 1 < base) (most : base ≤ 16) where
  -- A text that begins with the character of a digit.
  formed_glyph : (d : ℕ) (after : Bool) (s : List ℕ) → d < base → formed base after (glyph d ∷ s) ≡ formed base true s
  unfolding formed
  formed_glyph d after s h = simp (read_glyph d (omega arith), lt-ltb d base h)

  value_glyph : (d n : ℕ) (s : List ℕ) → d < base → value_from base n (glyph d ∷ s) ≡ value_from base (n * base + d) s
  unfolding value_from
  value_glyph d n s h =
      ap (λ x. value_from base (cond (ltb x base) (n * base + x) n) s) (read_glyph d (omega arith))
      ∙ ap (λ (t : Bool). value_from base (cond t (n * base + d) n) s) (lt-ltb d base h)

  -- A text that begins with the digits of n has the form of the rest after a digit, and the value of the rest after the value n.
  abbrev Reads : ℕ → List ℕ → List ℕ → Type 0
  Reads n s rest = (formed base false (s ++ rest) ≡ formed base true rest) × (value_from base 0 (s ++ rest) ≡ value_from base n rest)

  reads : (k n : ℕ) (rest : List ℕ) → n < k → Reads n (digits_within k base n) rest
  unfolding digits_within
  reads zero n rest h = absurd (not-suc-le-zero h)
  reads (suc k) n rest h =
      ⊎_elim
      (λ l.
      rw (lt-ltb n base l)
      (formed_glyph n false rest l, value_glyph n 0 rest l ∙ ap (λ x. value_from base x rest) (ap (λ x. x + n) (zero-mul base) ∙ zero-add n)))
      (λ m.
      let less : n / base < n = div-lt_self (omega arith) more in
      let l : n % base < base = mod-lt n (omega arith) in
      let p = reads k (n / base) (glyph (n % base) ∷ rest) (omega arith) in
      let snoc = append_snoc (digits_within k base (n / base)) (glyph (n % base)) rest in
      rw (le-ltb n base m) (
        ap (formed base false) snoc ∙ p.0 ∙ formed_glyph (n % base) true rest l,
        ap (value_from base 0) snoc ∙ p.1 ∙ value_glyph (n % base) (n / base) rest l ∙ ap (λ x. value_from base x rest) (div-add-mod' n base),
      ))
      (below n base)

  pub formed_digits : (n : ℕ) → formed base false (digits_of base n) ≡ true
  unfolding digits_of formed
  formed_digits n = ap (formed base false) (sym (append-nil (digits_of base n))) ∙ (reads (suc n) n [] (omega arith)).0

  pub number_digits : (n : ℕ) → n < 2 ^ 64 → number_in base (digits_of base n) ≡ Ok n
  unfolding digits_of value_from number_in
  number_digits n h =
      rw (formed_digits n)
      (ap (λ s. bounded (value_from base 0 s)) (sym (append-nil (digits_of base n))) ∙ ap bounded (reads (suc n) n [] (omega arith)).1 ∙ bounded_value n h)

pub hex_round_trip : HexRoundTrip
unfolding number_of marked
hex_round_trip n h = number_digits 16 (omega arith) (omega arith) n h

-- A text of decimal digits does not begin with `0x`: `x` is none of them.
x_refused : (after : Bool) (s : List ℕ) → formed 10 after (120 ∷ s) ≡ false
unfolding formed digit_of separates
x_refused true s = refl
x_refused false s = refl

second_refused : (c : ℕ) (s : List ℕ) → formed 10 false (c ∷ 120 ∷ s) ≡ false
unfolding formed separates
second_refused c s = cases (ltb (digit_of c) 10) (λ e. rw e (x_refused true s)) (λ e. rw e)

not_marked : (s : List ℕ) → formed 10 false s ≡ true → marked s ≡ false
unfolding marked
not_marked [] f = refl
not_marked (c ∷ []) f = and-false (eqb c 48)
not_marked (c ∷ d ∷ s) f =
    cases (eqb d 120)
    (λ e. absurd (true≢false (sym f ∙ ap (λ x. formed 10 false (c ∷ x ∷ s)) (eqb-true d 120 e) ∙ second_refused c s)))
    (λ e. rw e (and-false (eqb c 48)))

pub decimal_round_trip : DecimalRoundTrip
unfolding number_of
decimal_round_trip n h =
    rw (not_marked (decimal_of n) (formed_digits 10 (omega arith) (omega arith) n)) (number_digits 10 (omega arith) (omega arith) n h)
