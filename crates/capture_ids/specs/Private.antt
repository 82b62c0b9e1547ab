-- For the contracts of private functions alone; no other definition uses these.
--   left     the header from a state and a place on     Passed   what is learnt of its next token
use Rattle.std.specs.Prelude.{ℕ, ◌<◌, ◌≤◌, ◌≡◌, List, [], length}
use Rattle.capture_tokens.specs.Tokens.{tokens_from}
use Rattle.capture_header.specs.declared.Head.{Head}
use Rattle.capture_ids.specs.declared.Past.{Past}
use Rattle.capture_ids.specs.declared.Past.TheVariants.{Ended, Next}
use Rattle.capture_ids.specs.Ids.{Header, header, header_from, added, place_of}

abbrev pub left : List ℕ → Head → ℕ → Header
left s h at = header_from s h (tokens_from s at)

module _ (s : List ℕ) (h : Head) (at : ℕ) where
  -- The header ends, and the tokens after it are those from the place n on.
  pub record Stops (n : ℕ) : Type 0 where
    pub whole : left s h at ≡ header h [] (tokens_from s n)
    pub place : n ≡ place_of s (tokens_from s n)

  -- It goes on from the state k and the place n.
  pub record Goes (k : Head) (n : ℕ) : Type 0 where
    pub whole : left s h at ≡ header (left s k n).head (added s h k (left s k n).variables) (left s k n).rest
    pub further : at < n
    pub inside : n ≤ length s

  abbrev pub Passed : Past → Type 0
  Passed (Ended n) = Stops n
  Passed (Next k n) = Goes k n
