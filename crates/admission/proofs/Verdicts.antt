-- The lists of refusals through the verdict that `access` gives on 4, 5 and 6, for every window alike.
use Prim.Native.Nat.{ℕ}
use mathlib.Core.Path.{◌≡◌, refl, ap, ◌∙◌}
use mathlib.Core.Bool.{Bool, true, false}
use mathlib.Core.List.{[], ◌∷◌}
use lib.Dec.{ltb}
use Rattle.std.specs.Prelude.{Option, Some, None, Result, Ok, Err, ⊤}
use Rattle.access.specs.declared.Refusal.{Refusal}
use Rattle.access.specs.declared.Refusal.TheVariants.{Core, Register}
use Rattle.access.specs.Refusal.{◌when◌, first_of}
use Rattle.access.specs.Access.{access_refusals}
use Rattle.access.proofs.Refusals.{first_append, or_else}
use Rattle.windows.specs.declared.Window.{Window}
use Rattle.windows.specs.declared.Window.TheVariants.{First, Second, Private}
use Rattle.windows.specs.declared.Address.{Address}
use Rattle.windows.specs.declared.Located.{Located}
use Rattle.windows.specs.Table.{located_at}
use Rattle.admission.specs.Refusals.{admission_of, admitted, bus_refusals, private_refusals, refusals_in, target_at}
use Rattle.admission.specs.Private.{admitted_at, issued_past, judged_at}

module _ (l : Located) (value : ℕ) where
  -- 1 for the target comes last
  judged : (v : Result ⊤ Refusal) (past : Bool) → admitted (or_else v (first_of (Core when past ∷ []))) (Some l) value ≡ judged_at v past l.place (target_at l.place value)
  judged (Err reason) past = refl
  judged (Ok accepted) true = refl
  judged (Ok accepted) false = refl

  -- on the bus it does not come
  judged_bus : (v : Result ⊤ Refusal) → admitted v (Some l) value ≡ judged_at v false l.place (target_at l.place value)
  judged_bus (Err reason) = refl
  judged_bus (Ok accepted) = refl

  in_window : (w : Window) (opened : Bool) (width : ℕ) (write : Bool) → issued_past w ≡ false
      → admitted (first_of (refusals_in w (Some l) opened width write value)) (Some l) value ≡ admitted_at w l opened width write value
  unfolding refusals_in bus_refusals private_refusals admitted_at
  in_window First opened width write h = judged_bus (first_of (access_refusals l.access width write value))
  in_window Second true width write h = judged_bus (first_of (access_refusals l.access width write value))
  in_window Second false width write h = refl
  in_window (Private core) opened width write h =
      rw h
      (ap (λ (v : Result ⊤ Refusal). admitted v (Some l) value) (first_append (access_refusals l.access width write value) (Core when ltb 1 (target_at l.place value) ∷ []))
      ∙ judged (first_of (access_refusals l.access width write value)) (ltb 1 (target_at l.place value)))

module _ (a : Address) (opened : Bool) (width : ℕ) (write : Bool) (value : ℕ) where
  pub admission_at : (l : Located) → issued_past a.window ≡ false → located_at a ≡ Some l
      → admission_of a opened width write value ≡ admitted_at a.window l opened width write value
  unfolding admission_of
  admission_at l h e = rw e (in_window l value a.window opened width write h)

  -- an issuing core above 1 is refused first, whatever the offset names
  pub admission_core : issued_past a.window ≡ true → admission_of a opened width write value ≡ Err Core
  unfolding admission_of refusals_in private_refusals
  admission_core h = by a.window (located_at a) h
    where
      by : (w : Window) (l : Option Located) → issued_past w ≡ true → admitted (first_of (refusals_in w l opened width write value)) l value ≡ Err Core
      by First l h = cc
      by Second l h = cc
      by (Private core) l h = rw h

  pub admission_nowhere : issued_past a.window ≡ false → located_at a ≡ None → admission_of a opened width write value ≡ Err Register
  unfolding admission_of refusals_in bus_refusals private_refusals
  admission_nowhere h e = rw e (by a.window h)
    where
      by : (w : Window) → issued_past w ≡ false → admitted (first_of (refusals_in w None opened width write value)) None value ≡ Err Register
      by First h = refl
      by Second h = refl
      by (Private core) h = rw h
