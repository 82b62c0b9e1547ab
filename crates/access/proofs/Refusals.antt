-- The verdict on two lists of refusals one after the other.
use mathlib.Core.Path.{◌≡◌, refl, sym, ap, ◌∙◌}
use mathlib.Core.Bool.{cond}
use mathlib.Core.List.{List, [], ◌∷◌, ◌++◌}
use Rattle.bits.proofs.Cond.{cond_ap}
use Rattle.std.specs.Prelude.{Result, Ok, Err, ⊤}
use Rattle.access.specs.declared.Refusal.{Refusal}
use Rattle.access.specs.Refusal.{Check, first_of}

-- the second verdict where the first is no refusal
abbrev pub or_else : Result ⊤ Refusal → Result ⊤ Refusal → Result ⊤ Refusal
or_else (Ok accepted) v = v
or_else (Err reason) v = Err reason

pub first_append : (cs ds : List Check) → first_of (cs ++ ds) ≡ or_else (first_of cs) (first_of ds)
first_append [] ds = refl
first_append (c ∷ cs) ds =
    ap (cond c.applies (Err c.reason)) (first_append cs ds)
    ∙ sym (cond_ap (λ v. or_else v (first_of ds)) c.applies (Err c.reason) (first_of cs))
