-- The tokens of a text of lines.
use Prim.Native.Nat.{ℕ, suc, ◌+◌, ◌-◌, ◌≤◌}
use mathlib.Core.Path.{◌≡◌, refl, sym, ap, ◌∙◌}
use mathlib.Core.Bool.{Bool, true, false, cond, not, ◌&&◌}
use mathlib.Core.List.{List, [], ◌∷◌, ◌++◌}
use native.Mathlib.Omega.{arith}
use borrow.Author.Tests.{ne_eqb, leb-true}
use lib.Dec.{eqb, leb, ltb}
use lib.ListN.{length}
use Rattle.numbers.specs.Numbers.{digit_of, separates, formed}
use Rattle.capture_tokens.specs.Tokens.{token, blank, attach, words, placed}
use Rattle.capture_ids.proofs.Bools.{never, both}

-- A text without white space.
abbrev pub solid : List ℕ → Bool
solid [] = true
solid (c ∷ t) = not (blank c) && solid t

not_blank : (c : ℕ) → not (blank c) ≡ true → blank c ≡ false
not_blank c e = by (blank c) e
  where
    by : (t : Bool) → not t ≡ true → t ≡ false
    by true q = absurd (never q)
    by false q = refl

-- A line's words: its text, and those of the lines after it.
first_line : (t rest : List ℕ) → solid t ≡ true → words (t ++ (10 ∷ rest)) ≡ t ∷ words rest
unfolding words attach blank
first_line [] rest e = refl
first_line (c ∷ t) rest e =
    let p = both (not (blank c)) (solid t) e in
    rw (not_blank c p.0, first_line t rest p.1)

pub line_token : (at c : ℕ) (t rest : List ℕ) → solid (c ∷ t) ≡ true
    → placed at (words ((c ∷ t) ++ (10 ∷ rest))) ≡ token at (c ∷ t) ∷ placed (suc (at + length (c ∷ t))) (words rest)
unfolding placed
line_token at c t rest e = ap (placed at) (first_line (c ∷ t) rest e)

-- Digits are no white space: no byte below `0` is one.
digit_low : (c : ℕ) → ltb (digit_of c) 10 ≡ true → 48 ≤ c
unfolding digit_of
digit_low c e = by (leb 48 c && leb c 57) (leb 65 c && leb c 70) (leb 97 c && leb c 102) refl refl refl e
  where
    by : (x y z : Bool) → (leb 48 c && leb c 57) ≡ x → (leb 65 c && leb c 70) ≡ y → (leb 97 c && leb c 102) ≡ z
        → ltb (cond x (c - 48) (cond y (c - 55) (cond z (c - 87) 16))) 10 ≡ true → 48 ≤ c
    by true y z p q r h = leb-true 48 c (both (leb 48 c) (leb c 57) p).0
    by false true z p q r h = let g = leb-true 65 c (both (leb 65 c) (leb c 70) q).0 in omega arith
    by false false true p q r h = let g = leb-true 97 c (both (leb 97 c) (leb c 102) r).0 in omega arith
    by false false false p q r h = absurd (never h)

digit_solid : (c : ℕ) → ltb (digit_of c) 10 ≡ true → not (blank c) ≡ true
unfolding blank
digit_solid c e =
    let h = digit_low c e in
    rw (ne_eqb c 32 (λ q. omega arith), ne_eqb c 9 (λ q. omega arith), ne_eqb c 10 (λ q. omega arith), ne_eqb c 12 (λ q. omega arith), ne_eqb c 13 (λ q. omega arith))

pub digits_solid : (after : Bool) (s : List ℕ) → formed 10 after s ≡ true → solid s ≡ true
unfolding formed separates
digits_solid after [] f = refl
digits_solid after (c ∷ s) f = by (ltb (digit_of c) 10) refl f (λ x. digits_solid true s x)
  where
    by : (t : Bool) → ltb (digit_of c) 10 ≡ t → cond t (formed 10 true s) ((after && (eqb 10 16 && eqb c 95)) && formed 10 false s) ≡ true
        → (formed 10 true s ≡ true → solid s ≡ true) → (not (blank c) && solid s) ≡ true
    by true e g rest = rw (digit_solid c e) (rest g)
    by false e g rest = absurd (never (sym (ap (λ (y : Bool). y && formed 10 false s) (off after)) ∙ g))
      where
        off : (a : Bool) → (a && (eqb 10 16 && eqb c 95)) ≡ false
        off true = refl
        off false = refl
