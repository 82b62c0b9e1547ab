-- Pieces put one after the other are put as one.
--   inked_emitted   what is put whole, as a piece      join            two pieces in a row
--   pen_join        the place after two pieces         pen_fits        a text that fits
--   pen_full_size   a text that is too long
use Rattle.std.proofs.Common.{◌≡◌, ℕ, ◌+◌, ◌<◌, ◌≤◌, Bool, true, false, Option, Some, None, List, ◌++◌, append_assoc, length, take, drop, refl, sym, ap, ap₂, ◌∙◌, lt-ltb, le-ltb, le-leb, arith, length-append, length-drop}
use Rattle.std.specs.Prelude.{is_some}
use mathlib.Core.Bool.{and-false, true≢false}
use lib.Seq.{take_at, drop-append-add, drop-drop, length-take-le}
use Rattle.std.proofs.lemmas.Bool.{cases_lt}
use mathlib.Core.Logic.{⊎_elim}
use Rattle.text.specs.Buffers.{fits, put_of}
use Rattle.capture_dump.specs.Pieces.{pen_of, ink_of, Inked}
use Rattle.capture_dump.specs.Private.{Emitted}

same_some : {m n : ℕ} → ◌≡◌ {A = Option ℕ} (Some m) (Some n) → m ≡ n
same_some e = cc

pub pen_over : (n at : ℕ) (s : List ℕ) → n < at + length s → pen_of n (Some at) s ≡ None
unfolding pen_of
pen_over n at s h = rw (lt-ltb n (at + length s) h)

pub pen_free : (n at : ℕ) (s : List ℕ) → at + length s ≤ n → pen_of n (Some at) s ≡ Some (at + length s)
unfolding pen_of
pen_free n at s h = rw (le-ltb n (at + length s) h)

pen_none : (n : ℕ) (s : List ℕ) → pen_of n None s ≡ None
unfolding pen_of
pen_none n s = refl

-- ---- the place

pub pen_join : (n : ℕ) (p : Option ℕ) (a b : List ℕ) → pen_of n (pen_of n p a) b ≡ pen_of n p (a ++ b)
pen_join n None a b = ap (λ q. pen_of n q b) (pen_none n a) ∙ pen_none n b ∙ sym (pen_none n (a ++ b))
pen_join n (Some at) a b =
    let l : length (a ++ b) ≡ length a + length b = length-append a b in
    ⊎_elim
    (λ (h : n < at + length a). ap (λ q. pen_of n q b) (pen_over n at a h) ∙ pen_none n b ∙ sym (pen_over n at (a ++ b) (omega arith)))
    (λ (h : at + length a ≤ n).
    ap (λ q. pen_of n q b) (pen_free n at a h)
    ∙ ⊎_elim
    (λ (g : n < at + length a + length b). pen_over n (at + length a) b g ∙ sym (pen_over n at (a ++ b) (omega arith)))
    (λ (g : at + length a + length b ≤ n).
    let m : at + length a + length b ≡ at + length (a ++ b) = omega arith in
    pen_free n (at + length a) b g ∙ ap Some m ∙ sym (pen_free n at (a ++ b) (omega arith)))
    (cases_lt n (at + length a + length b)))
    (cases_lt n (at + length a))

-- A text that fits begins at a place.
pub pen_fits : (n : ℕ) (p : Option ℕ) (s : List ℕ) → is_some (pen_of n p s) ≡ true → (at : ℕ) × (p ≡ Some at) × (at + length s ≤ n) × (pen_of n p s ≡ Some (at + length s))
pen_fits n None s e = absurd (true≢false (sym e ∙ ap is_some (pen_none n s)))
pen_fits n (Some at) s e =
    ⊎_elim
    (λ (h : n < at + length s). absurd (true≢false (sym e ∙ ap is_some (pen_over n at s h))))
    (λ (h : at + length s ≤ n). (at, refl, h, pen_free n at s h))
    (cases_lt n (at + length s))

-- A text that does not fit from the beginning on is longer than the buffer.
pub pen_full_size : (n : ℕ) (s : List ℕ) → pen_of n (Some 0) s ≡ None → n < length s
pen_full_size n s e =
    ⊎_elim
    (λ (h : n < 0 + length s). omega arith)
    (λ (h : 0 + length s ≤ n). absurd (true≢false (ap is_some (sym (pen_free n 0 s h) ∙ e))))
    (cases_lt n (0 + length s))

-- ---- the buffer

pub put_fits : (out : List ℕ) (at : ℕ) (s : List ℕ) → at + length s ≤ length out → put_of out at s ≡ take at out ++ s ++ drop (at + length s) out
unfolding fits put_of
put_fits out at s h = rw (le-leb (at + length s) (length out) h)

module _ (out : List ℕ) (at : ℕ) (a b : List ℕ) (h : at + length a + length b ≤ length out) where
  abbrev front : List ℕ
  front = take at out ++ a

  abbrev behind : List ℕ
  behind = drop (at + length a) out

  front_length : length front ≡ at + length a
  front_length = rw (length-append, length-take-le at out (omega arith))

  rest : drop (at + length a + length b) (front ++ behind) ≡ drop (at + length a + length b) out
  rest = ap (λ n. drop (n + length b) (front ++ behind)) (sym front_length) ∙ drop-append-add front behind (length b) ∙ drop-drop (length b) (at + length a) out

  put_join : put_of (put_of out at a) (at + length a) b ≡ put_of out at (a ++ b)
  put_join =
      let n : length (a ++ b) ≡ length a + length b = length-append a b in
      let m : at + length a + length b ≡ at + length (a ++ b) = omega arith in
      ap (λ o. put_of o (at + length a) b) (put_fits out at a (omega arith))
      ∙ put_fits (front ++ behind) (at + length a) b (rw length-append (omega (arith, front_length, length-drop (at + length a) out)))
      ∙ ap₂ (λ x y. x ++ b ++ y) (take_at front behind (at + length a) front_length) rest
      ∙ ap₂ (λ x k. x ++ drop k out) (append_assoc (take at out) a b) m
      ∙ sym (put_fits out at (a ++ b) (omega arith))

put_length : (out : List ℕ) (at : ℕ) (s : List ℕ) → at + length s ≤ length out → length (put_of out at s) ≡ length out
put_length out at s h = rw (put_fits out at s h) (simp (length-append, length-take-le at out (omega arith), length-drop) (omega arith))

-- ---- both

pub join : {out : List ℕ} {w : Bool} {p : Option ℕ} {a : List ℕ} {q : Option ℕ} {mid b : List ℕ} {r : Option ℕ} {after : List ℕ}
    → Emitted out w p a q mid → Emitted mid w q b r after → Emitted out w p (a ++ b) r after
join {out} {w} {p} {a} {q} {mid} {b} {r} {after} x y = record {
  place = place;
  size = y.size ∙ x.size;
  kept = λ e. y.kept e ∙ x.kept e;
  inked = λ e f at g.
      let (m, i, j, k) = pen_fits (length mid) q b (ap is_some (sym y.place) ∙ f) in
      let (n, s, t, u) = pen_fits (length out) p a (ap is_some (sym x.place ∙ i)) in
      let v : n ≡ at = same_some (sym s ∙ g) in
      let z : m ≡ at + length a = same_some (sym i ∙ x.place ∙ u) ∙ ap (λ k. k + length a) v in
      y.inked e f m i ∙ ap₂ (λ o k. put_of o k b) (x.inked e (ap is_some i) at g) z
      ∙ put_join out at a b (omega (arith, x.size));
}
  where
    place : r ≡ pen_of (length out) p (a ++ b)
    place = y.place ∙ ap₂ (λ n k. pen_of n k b) x.size x.place ∙ pen_join (length out) p a b

-- ---- a piece that is put or left

ink_kept : (out : List ℕ) (p : Option ℕ) (s : List ℕ) → ink_of out false p s ≡ out
unfolding ink_of
ink_kept out None s = refl
ink_kept out (Some at) s = refl

ink_full : (out : List ℕ) (w : Bool) (p : Option ℕ) (s : List ℕ) → pen_of (length out) p s ≡ None → ink_of out w p s ≡ out
unfolding ink_of
ink_full out w None s e = refl
ink_full out w (Some at) s e = rw (e, and-false)

ink_put : (out : List ℕ) (at : ℕ) (s : List ℕ) → at + length s ≤ length out → ink_of out true (Some at) s ≡ put_of out at s
unfolding ink_of
ink_put out at s h = rw (pen_free (length out) at s h)

ink_length : (out : List ℕ) (w : Bool) (p : Option ℕ) (s : List ℕ) → length (ink_of out w p s) ≡ length out
ink_length out false p s = ap length (ink_kept out p s)
ink_length out true None s = ap length (ink_full out true None s (pen_none (length out) s))
ink_length out true (Some at) s =
    ⊎_elim
    (λ (h : length out < at + length s). ap length (ink_full out true (Some at) s (pen_over (length out) at s h)))
    (λ (h : at + length s ≤ length out). ap length (ink_put out at s h) ∙ put_length out at s h)
    (cases_lt (length out) (at + length s))

module _ {out : List ℕ} {w : Bool} {p : Option ℕ} {s : List ℕ} {q : Option ℕ} {after : List ℕ} where
  pub inked_emitted : Inked out w p s q after → Emitted out w p s q after
  inked_emitted x = record {
    place = x.place;
    size = ap length x.bytes ∙ ink_length out w p s;
    kept = λ e. x.bytes ∙ ap (λ v. ink_of out v p s) e ∙ ink_kept out p s;
    inked = λ e f at g.
        let (m, i, j, k) = pen_fits (length out) (Some at) s (ap is_some (ap (λ r. pen_of (length out) r s) (sym g) ∙ sym x.place) ∙ f) in
        let l : at + length s ≤ length out = rw (same_some i) j in
        x.bytes ∙ ap₂ (λ v r. ink_of out v r s) e g ∙ ink_put out at s l;
  }

-- ---- what `emit` does

pub above : (a b : ℕ) → (a ≤ b → ⊥) → b < a
above a b h = ⊎_elim (λ (l : b < a). l) (λ (m : a ≤ b). absurd (h m)) (cases_lt b a)

pub emit_none : (out : List ℕ) (w : Bool) (s : List ℕ) → Inked out w None s None out
emit_none out w s = record { place = sym (pen_none (length out) s); bytes = sym (ink_full out w None s (pen_none (length out) s)) }

pub emit_over : (out : List ℕ) (w : Bool) (at : ℕ) (s : List ℕ) → length out < at + length s → Inked out w (Some at) s None out
emit_over out w at s h = record { place = sym (pen_over (length out) at s h); bytes = sym (ink_full out w (Some at) s (pen_over (length out) at s h)) }

pub emit_measured : (out : List ℕ) (at : ℕ) (s : List ℕ) → at + length s ≤ length out → Inked out false (Some at) s (Some (at + length s)) out
emit_measured out at s h = record { place = sym (pen_free (length out) at s h); bytes = sym (ink_kept out (Some at) s) }

pub emit_put : (out : List ℕ) (at : ℕ) (s : List ℕ) → at + length s ≤ length out → Inked out true (Some at) s (Some (at + length s)) (put_of out at s)
emit_put out at s h = record { place = sym (pen_free (length out) at s h); bytes = sym (ink_put out at s h) }
