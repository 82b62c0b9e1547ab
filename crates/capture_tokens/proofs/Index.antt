-- The first word of a list that equals a text, looked for from a place on, after some words that do not.
use Rattle.std.proofs.Common.{◌≡◌, ℕ, suc, ◌+◌, ◌-◌, ◌≤◌, true, false, Option, Some, None, List, map, length, take, drop, refl, ap, arith}
use Rattle.std.specs.Option.{option_map}
use Rattle.text.specs.declared.Span.{Span}
use Rattle.text.specs.Tokens.{same_of}
use Rattle.capture_tokens.specs.Tokens.{Token, tokens_from, token_of, index_of}
use Rattle.capture_tokens.proofs.Tokens.{Found, token_none, token_some, past_the_end}

-- The place among the words from a byte on.
abbrev pub left : List ℕ → List ℕ → ℕ → Option ℕ
left list t at = index_of (map (λ (w : Token). w.text) (tokens_from list at)) t

-- A place after n more words.
abbrev pub shifted : ℕ → Option ℕ → Option ℕ
shifted n None = None
shifted n (Some k) = Some (n + k)

pub shifted_none : (o : Option ℕ) → shifted 0 o ≡ o
shifted_none None = refl
shifted_none (Some k) = ap Some (omega arith)

shifted_more : (n : ℕ) (o : Option ℕ) → shifted n (option_map suc o) ≡ shifted (n + 1) o
shifted_more n None = refl
shifted_more n (Some k) = ap Some (omega arith)

pub left_ended : (list t : List ℕ) (at : ℕ) → length list ≤ at → left list t at ≡ None
unfolding index_of
left_ended list t at h = rw (past_the_end list at h)

module _ (list t : List ℕ) (at : ℕ) (span : Span) (found : span ≡ token_of list at) where
  pub left_none : span.start ≡ span.end → left list t at ≡ None
  unfolding index_of
  left_none h = rw (token_none list at span found h)

  module _ (some : span.start ≡ span.end → ⊥) where
    pub part : Found list at span
    part = token_some list at span found some

    pub left_here : same_of t (take (span.end - span.start) (drop span.start list)) ≡ true → (n : ℕ) → shifted n (left list t at) ≡ Some n
    unfolding index_of
    left_here h n = rw (part.first, h) (ap Some (omega arith))

    pub left_more : same_of t (take (span.end - span.start) (drop span.start list)) ≡ false → (n : ℕ) → shifted n (left list t at) ≡ shifted (n + 1) (left list t span.end)
    unfolding index_of
    left_more h n = rw (part.first, h) (shifted_more n (left list t span.end))
