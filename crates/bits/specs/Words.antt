-- The words of a type: a word as a number below 2 ^ size, and the word of such a number.
--   WordLaws   the two turn each other back
use Rattle.std.specs.Prelude.{ℕ, ◌≡◌, ◌≤◌, ◌<◌, ◌^◌}

pub record WordLaws {W : Type 0} (size : ℕ) (number : W → ℕ) (of_number : ℕ → W) : Type 0 where
  pub small : size ≤ 64
  pub number_of : (n : ℕ) → n < 2 ^ size → number (of_number n) ≡ n
  pub of_number_of : (w : W) → of_number (number w) ≡ w
