-- What stands in a text before a byte.
use Rattle.std.proofs.Common.{◌≡◌, ℕ, ◌+◌, ◌<◌, ◌≤◌, Bool, true, false, cond, List, [], ◌∷◌, length, take, not, ⊎_elim, lt-ltb, le-ltb, refl, arith}
use Rattle.std.specs.Prelude.{position, eqb}
use Rattle.std.specs.Option.{unwrap_or}
use Rattle.std.specs.List.{position_or_len}
use Rattle.std.proofs.lemmas.List.Recursion.{is_position_or_len}
use Rattle.std.proofs.lemmas.List.Sums.{prefix_len-le-length}
use Rattle.std.proofs.lemmas.Bool.{cases_lt}
use Rattle.capture_names.specs.Names.{before}

-- It is that many bytes from the beginning.
pub begins : (d : ℕ) (s : List ℕ) → take (length (before d s)) s ≡ before d s
unfolding before
begins d [] = refl
begins d (c ∷ s) = go (eqb c d) (begins d s)
  where
    go : (t : Bool) → take (length (before d s)) s ≡ before d s → take (length (cond t [] (c ∷ before d s))) (c ∷ s) ≡ cond t [] (c ∷ before d s)
    go true h = refl
    go false h = rw h

-- They are as many as the library counts before the first, or all.
counted : (d : ℕ) (s : List ℕ) → length (before d s) ≡ position_or_len (λ c. eqb c d) s
unfolding before
counted d s = is_position_or_len (λ s. length (before d s)) (λ c. eqb c d) refl (λ x xs. go d x xs (eqb x d)) s
  where
    go : (d x : ℕ) (xs : List ℕ) (t : Bool) → length (cond t [] (x ∷ before d xs)) ≡ cond t 0 (1 + length (before d xs))
    go d x xs true = refl
    go d x xs false = omega arith

pub placed : (d : ℕ) (s : List ℕ) → unwrap_or (position (λ c. eqb c d) s) (length s) ≡ length (before d s)
placed d s =
    let n = position_or_len (λ c. eqb c d) s in
    let e : length (before d s) ≡ n = counted d s in
    let m : n ≤ length s = prefix_len-le-length (λ c. not (eqb c d)) s in
    ⊎_elim (λ (l : n < length s). rw (lt-ltb n (length s) l, e)) (λ (l : length s ≤ n). rw (le-ltb n (length s) l) (omega arith)) (cases_lt n (length s))
