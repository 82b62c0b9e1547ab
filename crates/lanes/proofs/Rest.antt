-- The loops over the set bits of a word: the result so far, with the bits that are still to look at, makes the whole.
use Prim.Native.Nat.{ℕ, ◌-◌, ◌*◌, ◌%◌, ◌^◌, ◌≤◌, ◌<◌}
use mathlib.Core.Path.{◌≡◌, refl, sym, ap, ◌∙◌}
use mathlib.Core.Bool.{Bool, true, false, cond, ◌&&◌, ◌||◌, and-false, and-true, or_assoc, or-false}
use mathlib.Core.List.{List}
use native.Mathlib.Nat.{mod-lt}
use lib.Bits.{bit_or, or_lt}
use lib.Dec.{eqb, ltb}
use lib.ListN.{get_or}
use lib.Pow.{pow_pos}
use borrow.Table.Steps.{cases}
use borrow.Author.Tests.{eq-eqb, eqb-false, eqb-true, lt-ltb, ne_eqb}
use Rattle.bits.specs.Bits.{bit, digit, word, some, first, held, put}
use Rattle.bits.proofs.Words.{bit_mod, bit_zero, bit_word, is_word, word_bit, word_cong, word_lt}
use Rattle.bits.proofs.Operations.{bit_or_lem, bit_ones, bit_place, word_low}
use Rattle.bits.proofs.Cond.{cond_ap}
use Rattle.bits.proofs.Some.{some_cong, some_none, some_or, some_split}
use Rattle.bits.proofs.Taut.{taut}
use Rattle.lanes.specs.Bytes.{gathered}
use Rattle.lanes.proofs.LowestBit.{first_set, put_lt}

-- one of the n things that w picks has bit j set; bit j of thing i is f i j
abbrev pub picked : ℕ → (ℕ → ℕ → Bool) → ℕ → ℕ → Bool
picked n f w j = some n (λ i. bit w i && f i j)

picked_none : (n : ℕ) (f : ℕ → ℕ → Bool) (j : ℕ) → picked n f 0 j ≡ false
picked_none n f j = some_cong n (λ i h. rw bit_zero) ∙ some_none n

-- thing i apart from the others
picked_split : (n : ℕ) (f : ℕ → ℕ → Bool) (w i j : ℕ) → i < n → bit w i ≡ true → picked n f w j ≡ (f i j || picked n f (put n w i false) j)
unfolding put
picked_split n f w i j h t =
    some_split n i (λ m. bit w m && f m j) h
    ∙ rw t (ap (λ (s : Bool). f i j || s) (some_cong n (λ m l. rw (bit_word n _ m l) (sym (cond_ap (λ (a : Bool). a && f m j) (eqb m i) false (bit w m))))))

either : (a b c : Bool) → ((a && c) || (b && c)) ≡ ((a || b) && c)
either = taut 3 _ _ tt

-- r is the result so far of the things that `which` picks, and w picks those that are still to look at
pub record Rest (k n : ℕ) (f : ℕ → ℕ → Bool) (which w r : ℕ) : Type 0 where
  pub left : w < 2 ^ n
  pub small : r < 2 ^ k
  pub whole : (j : ℕ) → j < k → (bit r j || picked n f w j) ≡ picked n f which j

module _ {k n : ℕ} {f : ℕ → ℕ → Bool} where
  pub rest_start : {which : ℕ} → which < 2 ^ n → Rest k n f which which 0
  rest_start h = record { left = h; small = pow_pos k; whole = λ j l. rw bit_zero }

  -- the things that `done` picks are in the result already
  pub rest_after : {which w r : ℕ} (done : ℕ) → w < 2 ^ n → r ≡ word k (picked n f done) → ((i : ℕ) → i < n → (bit done i || bit w i) ≡ bit which i) → Rest k n f which w r
  rest_after {which} {w} done h e q = rw e record {
    left = h;
    small = word_lt k _;
    whole = λ j l.
        rw (bit_word k _ j l)
        (some_or n (λ i. bit done i && f i j) (λ i. bit w i && f i j)
        ∙ some_cong n (λ i m. either (bit done i) (bit w i) (f i j) ∙ ap (λ (b : Bool). b && f i j) (q i m)));
  }

  -- the thing of the lowest set bit goes into the result
  pub rest_next : {which w r x : ℕ} → Rest k n f which w r → (w ≡ 0 → ⊥) → x ≡ word k (f (first n (bit w))) → Rest k n f which (put n w (first n (bit w)) false) (bit_or r x)
  rest_next {which} {w} {r} o z e =
      let p = first_set n o.left z
      in rw e record { left = put_lt n w _ false; small = or_lt k _ _ o.small (word_lt k _); whole = λ j l. rw (bit_or_lem, bit_word k _ j l, or_assoc, ← picked_split n f w (first n (bit w)) j p.0 p.1) (o.whole j l) }

  -- what is still to look at adds nothing
  rest_end : {which w r : ℕ} → Rest k n f which w r → ((j : ℕ) → j < k → bit r j ≡ (bit r j || picked n f w j)) → r ≡ word k (picked n f which)
  rest_end o e = is_word k o.small (λ j l. e j l ∙ o.whole j l)

  -- since nothing is left
  pub rest_none : {which w r : ℕ} → Rest k n f which w r → w ≡ 0 → r ≡ word k (picked n f which)
  rest_none o e = rest_end o (λ j l. rw (e, picked_none n f j, or-false))

  -- since every bit is set
  pub rest_full : {which w r : ℕ} → Rest k n f which w r → r ≡ 2 ^ k - 1 → r ≡ word k (picked n f which)
  rest_full o e = rest_end o (λ j l. rw (e, bit_ones, lt-ltb))

-- ---- results with a bit for each thing: thing i gives bit i and no other

pub placed : (k : ℕ) (b : Bool) (i : ℕ) → digit b * 2 ^ i % 2 ^ k ≡ word k (λ j. eqb j i && b)
placed k b i = is_word k (mod-lt _ (pow_pos k)) (λ j h. bit_mod k _ j h ∙ bit_place b i j)

-- in the low bits of a wider word
pub placed_low : (k w : ℕ) (b : Bool) (i : ℕ) → i < k → k ≤ w → digit b * 2 ^ i % 2 ^ w ≡ word k (λ j. eqb j i && b)
placed_low k w b i h l = placed w b i ∙ word_cong w (λ j p. inside j) ∙ word_low k w (λ j. eqb j i && b) l
  where
    inside : (j : ℕ) → (eqb j i && b) ≡ ((eqb j i && b) && ltb j k)
    inside j = cases (eqb j i) (λ e. rw (e, eqb-true j i e, lt-ltb i k h) (sym (and-true b))) (λ e. rw e)

pub own : (n j : ℕ) (f g : ℕ → Bool) → j < n → some n (λ i. f i && (eqb j i && g i)) ≡ (f j && g j)
own n j f g h =
    some_split n j (λ i. f i && (eqb j i && g i)) h
    ∙ rw (eq-eqb j j refl, some_cong n (λ i l. other i), some_none n) (or-false _)
  where
    other : (i : ℕ) → cond (eqb i j) false (f i && (eqb j i && g i)) ≡ false
    other i = cases (eqb i j) (λ e. rw e) (λ e. rw (e, ne_eqb j i (λ q. eqb-false i j e (sym q))) (and-false (f i)))

-- the bytes that give a bit, gathered
pub held_gathered : (n : ℕ) (bytes : List ℕ) (which k : ℕ) {r : ℕ} → r ≡ word n (picked n (λ i j. eqb j i && bit (get_or bytes i 0) k) which)
    → held n r ≡ gathered n bytes which k
unfolding gathered
held_gathered n bytes which k e = rw e (word_bit n (word_lt n _) ∙ word_cong n (λ j h. own n j (bit which) (λ i. bit (get_or bytes i 0) k) h))

pub gathered_bit : (n : ℕ) (bytes : List ℕ) (which k i : ℕ) → i < n → bit (gathered n bytes which k) i ≡ (bit which i && bit (get_or bytes i 0) k)
unfolding gathered
gathered_bit n bytes which k i h = bit_word n _ i h
