-- For the contracts of private functions alone; no other definition uses these.
--   issued_past   a private window of a core above 1     sent_past   a target above 1 in a private window
--   admitted_at   the refusal of an access that names a place, or the place and the target
use Rattle.std.specs.Prelude.{ℕ, Bool, false, cond, not, ◌&&◌, ltb, Result, Ok, Err, ⊤}
use Rattle.access.specs.declared.Refusal.{Refusal}
use Rattle.access.specs.declared.Refusal.TheVariants.{Core, Window as Closed}
use Rattle.access.specs.Refusal.{first_of}
use Rattle.access.specs.Access.{access_refusals}
use Rattle.windows.specs.declared.Window.{Window}
use Rattle.windows.specs.declared.Window.TheVariants.{First, Second, Private}
use Rattle.windows.specs.declared.Place.{Place}
use Rattle.windows.specs.declared.Located.{Located}
use Rattle.windows.specs.Table.{in_second}
use Rattle.admission.specs.declared.Admitted.{Admitted}
use Rattle.admission.specs.Refusals.{target_at}

abbrev pub issued_past : Window → Bool
issued_past First = false
issued_past Second = false
issued_past (Private core) = ltb 1 core

abbrev pub sent_past : Window → ℕ → Bool
sent_past First target = false
sent_past Second target = false
sent_past (Private core) target = ltb 1 target

abbrev pub judged_at : Result ⊤ Refusal → Bool → Place → ℕ → Result Admitted Refusal
judged_at (Err reason) past place target = Err reason
judged_at (Ok accepted) past place target = cond past (Err Core) (Ok (record { place = place; target = target }))

unfoldable pub admitted_at : Window → Located → Bool → ℕ → Bool → ℕ → Result Admitted Refusal
admitted_at w l opened width write value =
    let target = target_at l.place value in
    cond (in_second w && not opened) (Err Closed) (judged_at (first_of (access_refusals l.access width write value)) (sent_past w target) l.place target)
