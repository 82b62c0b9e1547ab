-- The digits of a number in a base: the first and the further ones, and the array that they end.
use Prim.Native.Nat.{ℕ, zero, suc, ◌+◌, ◌-◌, ◌*◌, ◌/◌, ◌%◌, ◌^◌, ◌<◌, ◌≤◌}
use mathlib.Core.Path.{◌≡◌, refl, sym, ap, subst, ◌∙◌}
use mathlib.Core.Logic.{⊎_elim}
use mathlib.Core.List.{List, [], ◌∷◌, ◌++◌}
use native.Mathlib.Nat.{not-suc-le-zero, div-lt_self, div-lt_iff_lt-mul, pow-zero, pow-suc, one-mul}
use native.Mathlib.Omega.{arith}
use borrow.Author.Tests.{lt-ltb, le-ltb}
use lib.ListN.{length, drop, set, replicate, length-replicate}
use lib.Seq.{append_snoc, drop_at}
use Rattle.std.proofs.Math.Bridge.{le_prop}
use Rattle.bits.proofs.Words.{below}
use Rattle.numbers.specs.declared.digits.Digits.{Digits}
use Rattle.numbers.specs.Printed.{glyph, digits_within, digits_of, ended}

-- Any two counts of digits that are more than the number give the same digits.
enough : (k j base n : ℕ) → 1 < base → n < k → n < j → digits_within k base n ≡ digits_within j base n
unfolding digits_within
enough zero j base n b h g = absurd (not-suc-le-zero h)
enough (suc k) zero base n b h g = absurd (not-suc-le-zero g)
enough (suc k) (suc j) base n b h g =
    ⊎_elim
    (λ (l : n < base). rw (lt-ltb n base l))
    (λ (m : base ≤ n).
    let less : n / base < n = div-lt_self (omega arith) b in
    rw (le-ltb n base m) (ap (λ l. l ++ (glyph (n % base) ∷ [])) (enough k j base (n / base) b (omega arith) (omega arith))))
    (below n base)

pub digits_one : (base n : ℕ) → n < base → digits_of base n ≡ glyph n ∷ []
unfolding digits_of digits_within
digits_one base n h = simp (lt-ltb n base h)

pub digits_more : (base n : ℕ) → 1 < base → base ≤ n → digits_of base n ≡ digits_of base (n / base) ++ (glyph (n % base) ∷ [])
unfolding digits_of digits_within
digits_more base n b h =
    let less : n / base < n = div-lt_self (omega arith) b in
    rw (le-ltb n base h) (ap (λ l. l ++ (glyph (n % base) ∷ [])) (enough n (suc (n / base)) base (n / base) b less (omega arith)))

-- A number that needs a further digit has a place for it, and what is left fits the places that are left.
pub more_places : (base n k : ℕ) → base ≤ n → n < base ^ suc k → 0 < k
more_places base n zero h l = absurd (omega (arith, pow-suc base 0 ∙ ap (λ x. x * base) (pow-zero base) ∙ one-mul base))
more_places base n (suc k) h l = omega arith

pub fewer_places : (base n k : ℕ) → 0 < base → n < base ^ suc k → n / base < base ^ k
fewer_places base n k b l = (div-lt_iff_lt-mul b).1 (rw pow-suc at l)

-- A character stored at the last of some zeros stands before what follows them.
pub stored : (k g : ℕ) (t : List ℕ) → set (replicate (suc k) 0 ++ t) k g ≡ replicate k 0 ++ (g ∷ t)
stored zero g t = refl
stored (suc k) g t = ap (λ l. 0 ∷ l) (stored k g t)

-- The last digit of a number before a text, and the digits of the quotient before both.
pub before_text : (base n g : ℕ) (t : List ℕ) → 1 < base → base ≤ n → g ≡ glyph (n % base) → digits_of base (n / base) ++ (g ∷ t) ≡ digits_of base n ++ t
before_text base n g t b h e =
    ap (λ x. digits_of base (n / base) ++ (x ∷ t)) e ∙ sym (append_snoc (digits_of base (n / base)) (glyph (n % base)) t)
    ∙ ap (λ s. s ++ t) (sym (digits_more base n b h))

-- What holds of the start makes no difference between two.
same_digits : (d e : Digits) → d.bytes ≡ e.bytes → d.start ≡ e.start → d ≡ e
same_digits d e b s =
    subst (λ n. (h : n ≤ 20) → d ≡ record { bytes = e.bytes; start = n; inside = h }) s
    (λ h. ap (λ x. record { bytes = x; start = d.start; inside = d.inside }) b ∙ ap (λ x. record { bytes = e.bytes; start = d.start; inside = x }) (le_prop d.inside h))
    e.inside

-- An array of 20 bytes that is zeros and a text is that text, ended there.
pub ended_at : (d : Digits) (s : List ℕ) → d.bytes ≡ replicate d.start 0 ++ s → d.start + length s ≡ 20 → d ≡ ended s
unfolding ended
ended_at d s e h =
    let k : d.start ≡ 20 - length s = omega arith in
    same_digits d (ended s) (e ∙ ap (λ n. replicate n 0 ++ s) k) k

-- A text that is ended in an array is what the array holds from the start on.
pub ended_text : (s : List ℕ) (d : Digits) → d ≡ ended s → drop d.start d.bytes ≡ s
unfolding ended
ended_text s d e = rw e (drop_at (replicate (20 - length s) 0) s (20 - length s) (length-replicate (20 - length s) 0))
