-- Tables of registers: rows by offset.
--   Row      an offset and what stands there    lookup   what the first row with an offset has
--   based    a table moved up by a base
use Rattle.std.specs.Prelude.{ℕ, ◌+◌, cond, List, [], ◌∷◌, eqb}

pub record Row (A : Type 0) : Type 0 where
  pub offset : ℕ
  pub entry : A

abbrev pub row : {A : Type 0} → ℕ → A → Row A
row o a = record { offset = o; entry = a }

-- none where no row has the offset
abbrev pub lookup : {A : Type 0} → A → List (Row A) → ℕ → A
lookup none [] o = none
lookup none (r ∷ rs) o = cond (eqb o r.offset) r.entry (lookup none rs o)

-- each row at base plus its offset, its entry seen through f
abbrev pub based : {A B : Type 0} → ℕ → (A → B) → List (Row A) → List (Row B)
based base f [] = []
based base f (r ∷ rs) = row (base + r.offset) (f r.entry) ∷ based base f rs
