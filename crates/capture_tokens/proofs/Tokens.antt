-- The tokens of a text from a place on: none, or the one that `token_of` places and those after it.
use Prim.Native.Nat.{ℕ, suc, ◌+◌, ◌-◌, ◌<◌, ◌≤◌}
use mathlib.Core.Path.{◌≡◌, refl, sym, ap, ◌∙◌}
use mathlib.Core.Bool.{Bool, true, false, cond, not}
use mathlib.Core.List.{List, [], ◌∷◌}
use native.Mathlib.Numerals.{unary_clauses}
use native.Mathlib.Omega.{arith}
use lib.ListN.{length, take, drop, length-take, length-drop, drop_of_length-le}
use lib.Seq.{drop-drop}
use Rattle.text.specs.declared.Span.{Span}
use Rattle.text.specs.Tokens.{run, past, token_by}
use Rattle.text.proofs.Tokens.{run_length, run_again}
use Rattle.capture_tokens.specs.Tokens.{blank, attach, words, token, placed, tokens_from, token_of}

-- A byte of a token.
abbrev solid : ℕ → Bool
solid c = not (blank c)

-- ---- the tokens of a text that begins with blanks

blanks : (at : ℕ) (s : List ℕ) → placed at (words s) ≡ placed (at + run blank s) (words (drop (run blank s) s))
unfolding run words placed
blanks at [] = refl
blanks at (c ∷ s) = go (blank c) refl (blanks (suc at) s)
  where
    go : (t : Bool) → blank c ≡ t → placed (suc at) (words s) ≡ placed (suc at + run blank s) (words (drop (run blank s) s))
        → placed at (words (c ∷ s)) ≡ placed (at + cond t (suc (run blank s)) 0) (words (drop (cond t (suc (run blank s)) 0) (c ∷ s)))
    go true e h = let m : at + suc (run blank s) ≡ suc at + run blank s = omega arith in simp (e, m) h
    go false e h = simp unary_clauses

-- ---- the tokens of a text that begins with a token

abbrev tail : List (List ℕ) → List (List ℕ)
tail [] = []
tail (w ∷ ws) = ws

-- The first word is the run.
first_word : (s : List ℕ) → words s ≡ take (run solid s) s ∷ tail (words (drop (run solid s) s))
unfolding run words attach
first_word [] = refl
first_word (c ∷ s) = go (blank c) refl (first_word s)
  where
    go : (t : Bool) → blank c ≡ t → words s ≡ take (run solid s) s ∷ tail (words (drop (run solid s) s))
        → cond t ([] ∷ words s) (attach c (words s)) ≡ take (cond (not t) (suc (run solid s)) 0) (c ∷ s) ∷ tail (words (drop (cond (not t) (suc (run solid s)) 0) (c ∷ s)))
    go true e h = simp e
    go false e h = rw h

-- After it the rest begins with an empty word.
after_word : (s : List ℕ) → run solid s ≡ 0 → words s ≡ [] ∷ tail (words s)
after_word s e = first_word s ∙ ap (λ n. take n s ∷ tail (words (drop n s))) e

placed_cons : (at : ℕ) (w : List ℕ) (ws : List (List ℕ)) → 0 < length w → placed at (w ∷ ws) ≡ token at w ∷ placed (at + length w) ([] ∷ ws)
unfolding placed
placed_cons at [] ws h = absurd (omega arith)
placed_cons at (c ∷ w) ws h = refl

one_word : (at : ℕ) (s : List ℕ) → 0 < run solid s
    → placed at (words s) ≡ token at (take (run solid s) s) ∷ placed (at + run solid s) (words (drop (run solid s) s))
one_word at s h =
    let l : length (take (run solid s) s) ≡ run solid s = simp length-take (omega (arith, run_length solid s)) in
    ap (placed at) (first_word s)
    ∙ placed_cons at (take (run solid s) s) (tail (words (drop (run solid s) s))) (omega arith)
    ∙ rw (l, ← after_word (drop (run solid s) s) (run_again solid s))

-- A text that begins neither with a blank nor with a token is empty.
no_word : (s : List ℕ) → run blank s ≡ 0 → run solid s ≡ 0 → s ≡ []
unfolding run
no_word [] a b = refl
no_word (c ∷ s) a b = go (blank c) a b
  where
    go : (t : Bool) → cond t (suc (run blank s)) 0 ≡ 0 → cond (not t) (suc (run solid s)) 0 ≡ 0 → c ∷ s ≡ []
    go true p q = absurd (omega arith)
    go false p q = absurd (omega arith)

-- ---- by places

pub past_the_end : (s : List ℕ) (at : ℕ) → length s ≤ at → tokens_from s at ≡ []
unfolding tokens_from words placed
past_the_end s at h = rw (drop_of_length-le s h)

module _ (s : List ℕ) (from : ℕ) where
  abbrev begins : ℕ
  begins = from + run blank (drop from s)

  abbrev rest : List ℕ
  rest = drop begins s

  same_rest : drop (run blank (drop from s)) (drop from s) ≡ rest
  same_rest = drop-drop (run blank (drop from s)) from s

  same_tokens : tokens_from s from ≡ placed begins (words rest)
  unfolding tokens_from
  same_tokens = blanks from (drop from s) ∙ ap (λ r. placed begins (words r)) same_rest

  no_blanks : run blank rest ≡ 0
  no_blanks = ap (run blank) (sym same_rest) ∙ run_again blank (drop from s)

  -- No token is found: there is none.
  pub token_none : (t : Span) → t ≡ token_of s from → t.start ≡ t.end → tokens_from s from ≡ []
  unfolding token_of token_by past words placed
  token_none t e h =
      let a : t.start ≡ begins = ap (λ (u : Span). u.start) e in
      let b : t.end ≡ begins + run solid rest = ap (λ (u : Span). u.end) e in
      same_tokens ∙ ap (λ r. placed begins (words r)) (no_word rest no_blanks (omega arith))

  -- A token is found: it is the first, and the others follow its end.
  pub record Found (t : Span) : Type 0 where
    pub ordered : t.start < t.end
    pub inside : t.end ≤ length s
    pub further : from < t.end
    pub again : tokens_from s t.start ≡ tokens_from s from
    pub first : tokens_from s from ≡ token t.start (take (t.end - t.start) (drop t.start s)) ∷ tokens_from s t.end

  pub token_some : (t : Span) → t ≡ token_of s from → (t.start ≡ t.end → ⊥) → Found t
  unfolding token_of token_by past tokens_from
  token_some t e h =
      let a : t.start ≡ begins = ap (λ (u : Span). u.start) e in
      let b : t.end ≡ begins + run solid rest = ap (λ (u : Span). u.end) e in
      let l : run solid rest ≤ length s - begins = rw length-drop at (run_length solid rest) in
      let n : 0 < run solid rest = omega arith in
      let m : t.end - t.start ≡ run solid rest = omega arith in
      record {
        ordered = omega arith;
        inside = omega arith;
        further = omega arith;
        again = rw a (sym same_tokens);
        first = same_tokens ∙ one_word begins rest n ∙ rw (m, a, b, ← drop-drop (run solid rest) begins s);
      }
