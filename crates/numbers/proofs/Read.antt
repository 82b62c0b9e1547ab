-- What a text begins with, and what a character is as a digit. The library's values of digits go on to 35, where ours end at 15.
use Rattle.std.proofs.Common.{◌≡◌, ℕ, ◌+◌, ◌*◌, ◌^◌, ◌<◌, ◌≤◌, min, length, get_or, drop, Ok, Err, true, false, Option, Some, None, List, [], ◌∷◌, take, ◌&&◌, refl, ap, sym, ◌∙◌, arith, lt-ltb, le-ltb}
use Rattle.std.specs.Option.{ok_or}
use Rattle.std.specs.Prelude.{SomeIff, is_some, eqb, ltb}
use Rattle.std.specs.Char.{digit_value}
use Rattle.std.specs.Cmp.Lexicographic.{pointwise}
use borrow.Author.Tests.{ltb-true}
use borrow.Table.Steps.{cases}
use Rattle.bits.proofs.Below.{agree_below}
use Rattle.bits.proofs.Words.{below}
use mathlib.Core.Logic.{⊎_elim}
use mathlib.Core.Bool.{true≢false, and-true}
use Rattle.numbers.specs.declared.NumberError.{NumberError}
use Rattle.numbers.specs.declared.NumberError.TheVariants.{TooLarge}
use Rattle.numbers.specs.Numbers.{digit_of, digit_in, value_from, bounded, marked}
use Rattle.numbers.proofs.Numbers.{value_digit, bounded_large}

value_of : (c : ℕ) → c < 256 → min 16 (digit_value c) ≡ digit_of c
unfolding digit_of
value_of c h = agree_below 256 (λ c. min 16 (digit_value c)) digit_of refl c h

pub digit_read : (base c : ℕ) (r : Option ℕ) → base ≤ 16 → c < 256 → SomeIff r (digit_value c < base) (digit_value c) → r ≡ digit_in base c
unfolding digit_in
digit_read base c None b h not =
    let e = value_of c h in
    ⊎_elim (λ (l : digit_value c < base). absurd (not l)) (λ (m : base ≤ digit_value c). let n : base ≤ digit_of c = omega arith in rw (le-ltb (digit_of c) base n)) (below (digit_value c) base)
digit_read base c (Some x) b h is =
    let e = value_of c h in
    let l : digit_of c < base = omega arith in
    let v : x ≡ digit_of c = omega arith in
    rw (lt-ltb (digit_of c) base l) (ap Some v)

-- A character that is a digit of a base, and one that is none.
module _ (base c : ℕ) where
  pub is_digit : is_some (digit_in base c) ≡ true → digit_of c < base
  unfolding digit_in
  is_digit h = cases (ltb (digit_of c) base) (λ e. ltb-true (digit_of c) base e) (λ e. absurd (true≢false (sym (rw e at h))))

  pub no_digit : is_some (digit_in base c) ≡ false → base ≤ digit_of c
  unfolding digit_in
  no_digit h = ⊎_elim (λ (l : digit_of c < base). absurd (true≢false (rw (lt-ltb (digit_of c) base l) at h))) (λ (m : base ≤ digit_of c). m) (below (digit_of c) base)

  pub digit_some : (d : ℕ) → Some d ≡ digit_in base c → (digit_of c < base) × (d ≡ digit_of c)
  unfolding digit_in
  digit_some d h =
      cases (ltb (digit_of c) base)
      (λ e. let k = rw e at h in (ltb-true (digit_of c) base e, cc))
      (λ e. let k = rw e at h in absurd (cc))

  pub digit_none : None ≡ digit_in base c → base ≤ digit_of c
  unfolding digit_in
  digit_none h = ⊎_elim (λ (l : digit_of c < base). let k = rw (lt-ltb (digit_of c) base l) at h in absurd (cc)) (λ (m : base ≤ digit_of c). m) (below (digit_of c) base)

pub marked_is : (s : List ℕ) → pointwise eqb (take 2 s) (48 ∷ 120 ∷ []) ≡ marked s
unfolding marked
marked_is [] = refl
marked_is (c ∷ []) = refl
marked_is (c ∷ d ∷ s) = ap (λ b. eqb c 48 && b) (and-true (eqb d 120))

-- A value with one more digit, where there is no room for it and where there is.
no_room : (e : NumberError) (r : Option ℕ) (v : ℕ) → SomeIff r (v < 2 ^ 64) v → Err e ≡ ok_or {T = ℕ} r TooLarge → (e ≡ TooLarge) × (2 ^ 64 ≤ v)
no_room e None v h is = (cc, ⊎_elim (λ (l : v < 2 ^ 64). absurd (h l)) (λ (m : 2 ^ 64 ≤ v). m) (below v (2 ^ 64)))
no_room e (Some x) v h is = absurd (cc)

room : (m : ℕ) (r : Option ℕ) (v : ℕ) → SomeIff r (v < 2 ^ 64) v → Ok m ≡ ok_or {T = ℕ} r TooLarge → (v < 2 ^ 64) × (m ≡ v)
room m None v h is = absurd (cc)
room m (Some x) v h is = let e : m ≡ x = cc in (h.0, e ∙ h.1)

module _ (base n d : ℕ) (s : List ℕ) (i : ℕ) (within : i < length s) (digit : Some d ≡ digit_in base (get_or s i 0)) (r : Option ℕ) (pushed : SomeIff r (n * base + d < 2 ^ 64) (n * base + d)) where
  -- The value of the whole, by what was passed before a digit.
  same_value : value_from base n (drop i s) ≡ value_from base (n * base + d) (drop (i + 1) s)
  same_value =
      let k = digit_some base (get_or s i 0) d digit in
      value_digit base s i n within k.0 ∙ ap (λ x. value_from base (n * base + x) (drop (i + 1) s)) (sym k.1)

  pub pushed_large : (e : NumberError) → 0 < base → Err e ≡ ok_or {T = ℕ} r TooLarge → Err e ≡ bounded (value_from base n (drop i s))
  pushed_large e b is =
      let k = no_room e r (n * base + d) pushed is in
      ap Err k.0 ∙ sym (bounded_large base (n * base + d) (drop (i + 1) s) b k.1) ∙ ap bounded (sym same_value)

  pub pushed_one : (m : ℕ) → Ok m ≡ ok_or {T = ℕ} r TooLarge → (value_from base m (drop (i + 1) s) ≡ value_from base n (drop i s)) × (m < 2 ^ 64)
  pushed_one m is =
      let k = room m r (n * base + d) pushed is in
      (ap (λ x. value_from base x (drop (i + 1) s)) k.1 ∙ sym same_value, rw k.1 k.0)
